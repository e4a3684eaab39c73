-- The clock of one key, a dotted version vector set: a top and a list of values for each column, and what merge, discard and put make of them.
-- Assumes nothing.
use Rattle.std.specs.Prelude.{◌≡◌, ℕ, ◌+◌, ◌-◌, ◌≤◌, max, cond, List, [], ◌∷◌, map, length, take, replicate, Ok, Err, Result, ◌==◌, nat_le, slice_index_or, slice_set}
use Rattle.refusals.specs.declared.Refusal.{Refusal}
use Rattle.refusals.specs.declared.Refusal.TheVariants.{TooManySiblings, CounterExhausted}
use Rattle.dvvset.specs.Limits.{columns, most_siblings, last_counter}
use Rattle.dvvset.specs.declared.writes.Dot.{Dot}

-- What is known of one column: its top, the highest counter known (0 if none), and the values of the counters top, top - 1, .. that stand, newest first.
pub record ColumnState (V : Type 0) : Type 0 where
  pub top : ℕ
  pub values : List V

-- Every column that is ever made.
pub record Legal {V : Type 0} (a : ColumnState V) : Type 0 where
  pub few : length a.values ≤ most_siblings
  pub within : length a.values ≤ a.top
  pub low : a.top ≤ last_counter

-- A key's state: its columns, the first being column 0.
abbrev pub State : Type 0 → Type 0
State V = List (ColumnState V)

abbrev pub no_writes : {V : Type 0} → ColumnState V
no_writes = record { top = 0; values = [] }

-- the state before any write
abbrev pub blank : {V : Type 0} → State V
blank = replicate columns no_writes

abbrev pub column_at : {V : Type 0} → State V → ℕ → ColumnState V
column_at S c = slice_index_or S c no_writes

pub record LegalState {V : Type 0} (S : State V) : Type 0 where
  pub wide : length S ≡ columns
  pub each : (c : ℕ) → Legal (column_at S c)

-- ---- one column

-- a column with the first n of its values
abbrev pub first : {V : Type 0} → ℕ → ColumnState V → ColumnState V
first n a = record { top = a.top; values = take n a.values }

-- The higher top stands, with those of its values that the other column has not seen replaced.
unfoldable pub merge_column : {V : Type 0} → ColumnState V → ColumnState V → ColumnState V
merge_column a b =
    cond (nat_le b.top a.top) (first (a.top - b.top + length b.values) a) (first (b.top - a.top + length a.values) b)

-- The values above the counter n; the top becomes the greater of the two.
unfoldable pub discard_column : {V : Type 0} → ColumnState V → ℕ → ColumnState V
discard_column a n = record { top = max a.top n; values = take (a.top - n) a.values }

-- one more value, in front
unfoldable pub push : {V : Type 0} → V → ColumnState V → ColumnState V
push v a = record { top = a.top + 1; values = v ∷ a.values }

-- ---- all columns of a key

abbrev pub zip_with : {A B C : Type 0} → (A → B → C) → List A → List B → List C
zip_with f [] ys = []
zip_with f (x ∷ xs) [] = []
zip_with f (x ∷ xs) (y ∷ ys) = f x y ∷ zip_with f xs ys

unfoldable pub merge : {V : Type 0} → State V → State V → State V
merge S T = zip_with merge_column S T

-- A context is the tops of a state: what its reader has seen of each column.
unfoldable pub context : {V : Type 0} → State V → List ℕ
context S = map (λ a. a.top) S

-- the context of one who has seen nothing
abbrev pub no_context : List ℕ
no_context = replicate columns 0

unfoldable pub discard : {V : Type 0} → List ℕ → State V → State V
discard C S = zip_with discard_column S C

-- What a call comes to: a refusal, which changes nothing, or an answer and the state that it leaves.
pub data Outcome (A S : Type 0) : Type 0 where
  refused : Refusal → Outcome A S
  accepted : A → S → Outcome A S

abbrev pub answer : {A S : Type 0} → Outcome A S → Result A Refusal
answer (refused e) = Err e
answer (accepted a s) = Ok a

abbrev pub after : {A S : Type 0} → S → Outcome A S → S
after s (refused e) = s
after s (accepted a t) = t

-- A new value in the own column, once what the context covers is discarded. The answer is its dot.
unfoldable pub put : {V : Type 0} → ℕ → List ℕ → V → State V → Outcome Dot (State V)
put own C v S =
    let mine = column_at (discard C S) own in
    cond (mine.top == last_counter) (refused CounterExhausted)
    (cond (length mine.values == most_siblings) (refused TooManySiblings)
    (accepted (record { column = own; counter = mine.top + 1 }) (slice_set (discard C S) own (push v mine))))
