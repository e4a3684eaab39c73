-- The numbers of the subject. Assumes nothing.
use Rattle.std.specs.Prelude.{ℕ, ◌+◌, ◌*◌, cond, Some, None, Ok, Err, Option, Result, nat_le, nat_lt}
use Rattle.refusals.specs.declared.Refusal.{Refusal}
use Rattle.refusals.specs.declared.Refusal.TheVariants.{NoSuchSeatOrKey}

-- the columns of a key: four for each of six seats
abbrev pub columns : ℕ
columns = 24

-- the values that a column holds at most
abbrev pub most_siblings : ℕ
most_siblings = 4

-- the value cells of a key: four for each column
abbrev pub cells_per_key : ℕ
cells_per_key = 96

-- the highest counter that a write can have
abbrev pub last_counter : ℕ
last_counter = 999999

-- the column that a seat owns in a life: none from life 4 on, when the seat is mute
abbrev pub owned : ℕ → ℕ → Option ℕ
owned seat life = cond (nat_lt life 4) (Some (4 * seat + life)) None

-- the same with a seat over 5 refused
abbrev pub owned_by : ℕ → ℕ → Result (Option ℕ) Refusal
owned_by seat life = cond (nat_le seat 5) (Ok (owned seat life)) (Err NoSuchSeatOrKey)
