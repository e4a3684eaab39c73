-- A column's field merged into a row and its cells. Assumes nothing.
use Rattle.std.proofs.Common.{◌≡◌, ℕ, ◌+◌, ◌-◌, ◌<◌, ◌≤◌, min, true, List, ◌++◌, length, take, ap, ◌∙◌, arith}
use Rattle.std.proofs.lemmas.List.{take_all, take-append-le}
use Rattle.std.proofs.lemmas.Bool.{le-leb, and_from, cond-true}
use Rattle.dvvset.specs.Clock.{merge_column}
use Rattle.clock.specs.Memory.{sound, top_of, count_of, column}
use Rattle.clock.specs.declared.rows.Row.{Row}
use Rattle.clock.proofs.One.{merge-left, merge_right}

module _ {V : Type 0} (a r : Row) (t n : ℕ) (xs ys : List V) (few : n ≤ 4) (within : n ≤ t) (low : t ≤ 999999) (long : length ys ≡ n) where
  -- the field as a row
  abbrev b : Row
  b = record { top = t; count = n }

  is_sound : sound b ≡ true
  is_sound = and_from _ _ (le-leb n 4 few) (and_from _ _ (le-leb n t within) (le-leb t 999999 low))

  top_is : top_of b ≡ t
  top_is = cond-true (sound b) t 0 is_sound

  count_is : count_of b ≡ n
  count_is = cond-true (sound b) n 0 is_sound

  there : column b ys ≡ record { top = t; values = ys }
  there = ap (λ m. record { top = m; values = take (count_of b) ys }) top_is ∙ ap (λ vs. record { top = t; values = vs }) (take_all (count_of b) ys (omega (arith, count_is)))

  pub field-left : t ≤ top_of a → top_of r ≡ top_of a → count_of r ≡ min (top_of a - t + n) (count_of a) → column r xs ≡ merge_column (column a xs) (record { top = t; values = ys })
  field-left le p q =
      let tt_is = top_is in
      let cc_is = count_is in
      merge-left a b r xs ys (omega arith) (omega arith) p (omega arith) ∙ ap (merge_column (column a xs)) there

  pub field_right : (zs : List V) → count_of a ≤ length xs → top_of a < t → top_of r ≡ t → count_of r ≡ min (t - top_of a + count_of a) n → column r (ys ++ zs) ≡ merge_column (column a xs) (record { top = t; values = ys })
  field_right zs fits lt p q =
      let tt_is = top_is in
      let cc_is = count_is in
      ap (λ vs. record { top = top_of r; values = vs }) (take-append-le (count_of r) ys zs (omega arith)) ∙ merge_right a b r xs ys fits (omega arith) (omega arith) (omega arith) ∙ ap (merge_column (column a xs)) there
