-- What lent rows and cells mean. Assumes nothing.
use Rattle.std.specs.Prelude.{ℕ, ◌*◌, Bool, cond, ◌&&◌, List, map, length, take, drop, replicate, nat_le, slice_index_or}
use Rattle.std.specs.List.{range_with_len}
use Rattle.dvvset.specs.Limits.{columns, most_siblings, cells_per_key, last_counter}
use Rattle.dvvset.specs.Clock.{ColumnState, State}
use Rattle.clock.specs.declared.rows.Row.{Row}

-- a row within the bounds: at most four values, never more than the top, the top at most 999,999
abbrev pub sound : Row → Bool
sound r = nat_le r.count most_siblings && (nat_le r.count r.top && nat_le r.top last_counter)

-- any other row means an empty column
abbrev pub top_of : Row → ℕ
top_of r = cond (sound r) r.top 0

abbrev pub count_of : Row → ℕ
count_of r = cond (sound r) r.count 0

-- a column: its row, and its values at the front of some cells
abbrev pub column : {V : Type 0} → Row → List V → ColumnState V
column r vs = record { top = top_of r; values = take (count_of r) vs }

abbrev pub no_row : Row
no_row = record { top = 0; count = 0 }

-- a key's state: the values of column c begin at the cell 4 * c
unfoldable pub state : {V : Type 0} → List Row → List V → State V
state rows cells = map (λ c. column (slice_index_or rows c no_row) (drop (most_siblings * c) cells)) (range_with_len 0 columns)

-- the state as the rows alone tell it, with nothing in its cells
abbrev pub shape : List Row → State (Unit {0})
shape rows = state rows (replicate cells_per_key tt)

-- enough memory for one key
abbrev pub roomy : {V : Type 0} → List Row → List V → Bool
roomy rows cells = nat_le columns (length rows) && nat_le cells_per_key (length cells)
