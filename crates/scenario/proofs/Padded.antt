-- A label in twelve bytes that were zeros. Assumes nothing.
use Rattle.std.proofs.Common.{◌≡◌, ℕ, ◌-◌, ◌≤◌, true, List, ◌++◌, length, drop, replicate, Some}
use Rattle.std.proofs.lemmas.Bool.{le-leb}
use Rattle.std.proofs.lemmas.List.{drop-replicate}
use Rattle.std.specs.Char.{is_ascii_graphic}
use Rattle.std.specs.List.{list_all}
use Rattle.scenario.specs.Labels.{label_of}

pub padded_label : (w ys : List ℕ) → ys ≡ w → 1 ≤ length w → length w ≤ 12 → list_all is_ascii_graphic w ≡ true → Some (ys ++ drop {A = ℕ} (length w) (replicate 12 0)) ≡ label_of w
padded_label w ys is low high p =
    let zeros : drop {A = ℕ} (length w) (replicate 12 0) ≡ replicate (12 - length w) 0 = drop-replicate (length w) 12 0 in
    rw (is, zeros, le-leb 1 (length w) low, le-leb (length w) 12 high, p)
