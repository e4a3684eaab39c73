-- Sets of events, and what they hold. A set is a list, and a union is `◌++◌`: neither order nor repetition counts. Assumes nothing.
use Rattle.std.specs.Prelude.{ℕ, zero, suc, max, Bool, false, cond, not, ◌&&◌, ◌||◌, List, [], ◌∷◌, ◌++◌, map, Some, None, filter, Option, ◌==◌}
use Rattle.std.specs.List.{range_with_len, flat_map}
use Rattle.dvvset.specs.Limits.{columns}

-- A value under its dot, the name of a write: a column, and a counter there.
pub record Write (V : Type 0) : Type 0 where
  pub column : ℕ
  pub counter : ℕ
  pub value : V

-- An accepted put, which made one write, or an accepted delete, which made none.
pub record Event (V : Type 0) : Type 0 where
  -- the number of the call, so that no two events are the same
  pub made_at : ℕ
  pub write : Option (Write V)
  -- the writes that it replaces or removes
  pub covers : List (Write V)

abbrev pub Events : Type 0 → Type 0
Events V = List (Event V)

abbrev pub as_list : {A : Type 0} → Option A → List A
as_list None = []
as_list (Some x) = x ∷ []

-- the writes of a set's events
abbrev pub writes : {V : Type 0} → Events V → List (Write V)
writes K = flat_map (λ e. as_list e.write) K

-- the writes that a set's events cover
abbrev pub covered : {V : Type 0} → Events V → List (Write V)
covered K = flat_map (λ e. e.covers) K

-- w has the dot (c, n)
abbrev pub has_dot : {V : Type 0} → ℕ → ℕ → Write V → Bool
has_dot c n w = w.column == c && w.counter == n

-- one of the writes has the dot (c, n)
abbrev pub among : {V : Type 0} → ℕ → ℕ → List (Write V) → Bool
among c n [] = false
among c n (w ∷ ws) = has_dot c n w || among c n ws

-- the writes `ws` that are not among `xs`
abbrev pub outside : {V : Type 0} → List (Write V) → List (Write V) → List (Write V)
outside xs ws = filter (λ w. not (among w.column w.counter xs)) ws

-- what a set holds: its writes that none of its events covers
abbrev pub held : {V : Type 0} → Events V → List (Write V)
held K = outside (covered K) (writes K)

-- the highest counter of column c, 0 where there is none
abbrev pub highest : {V : Type 0} → ℕ → List (Write V) → ℕ
highest c [] = 0
highest c (w ∷ ws) = max (cond (w.column == c) w.counter 0) (highest c ws)

-- ---- in order

-- the write with the dot (c, n), where there is one
abbrev pub the : {V : Type 0} → ℕ → ℕ → List (Write V) → List (Write V)
the c n [] = []
the c n (w ∷ ws) = cond (has_dot c n w) (w ∷ []) (the c n ws)

-- the writes of column c with the counters n, n - 1, .., 1
abbrev pub down : {V : Type 0} → ℕ → ℕ → List (Write V) → List (Write V)
down c zero ws = []
down c (suc n) ws = the c (suc n) ws ++ down c n ws

-- the writes of column c, newest first, each once
abbrev pub newest : {V : Type 0} → ℕ → List (Write V) → List (Write V)
newest c ws = down c (highest c ws) ws

abbrev pub each_column : List ℕ
each_column = range_with_len 0 columns

-- by rising column, newest first
abbrev pub in_order : {V : Type 0} → List (Write V) → List (Write V)
in_order ws = flat_map (λ c. newest c ws) each_column

-- the highest counter that a set knows of each column
abbrev pub tops : {V : Type 0} → Events V → List ℕ
tops K = map (λ c. highest c (writes K)) each_column
