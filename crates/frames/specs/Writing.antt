-- The field of a row's column. Assumes nothing.
use Rattle.std.specs.Prelude.{ℕ, ◌+◌, ◌*◌, cond, List, [], nat_eq}
use Rattle.clock.specs.Memory.{column, count_of, top_of}
use Rattle.clock.specs.declared.rows.Row.{Row}
use Rattle.formats.specs.Frames.{column_field}

-- a column without a top has none
abbrev pub field_of : {V : Type 0} → (V → List ℕ) → ℕ → Row → List V → List ℕ
field_of bytes_of c row cells = cond (nat_eq (top_of row) 0) [] (column_field bytes_of c (column row cells))

-- and how long it is
abbrev pub field_length : ℕ → Row → ℕ
field_length w row = cond (nat_eq (top_of row) 0) 0 (9 + w * count_of row)
