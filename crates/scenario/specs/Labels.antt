-- Labels: 1 to 12 printable characters, with zero bytes after them. Assumes nothing.
use Rattle.std.specs.Prelude.{ℕ, ◌-◌, Bool, cond, ◌&&◌, List, ◌++◌, length, replicate, Some, None, Option, nat_le}
use Rattle.std.specs.Char.{is_ascii_graphic}
use Rattle.std.specs.List.{list_all}

abbrev pub is_label : List ℕ → Bool
is_label bs = nat_le 1 (length bs) && (nat_le (length bs) 12 && list_all is_ascii_graphic bs)

abbrev pub label_of : List ℕ → Option (List ℕ)
label_of bs = cond (is_label bs) (Some (bs ++ replicate (12 - length bs) 0)) None
