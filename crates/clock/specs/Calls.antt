-- What each call on a key comes to. Too little lent memory is refused, after every other refusal. Assumes nothing.
use Rattle.std.specs.Prelude.{◌≡◌, ℕ, ◌-◌, min, max, Bool, true, cond, ◌&&◌, List, ◌++◌, length, drop, is_err, Ok, Err, Result, nat_le, slice_index, slice_index_or}
use Rattle.refusals.specs.declared.Refusal.{Refusal}
use Rattle.refusals.specs.declared.Refusal.TheVariants.{ShortMemory}
use Rattle.dvvset.specs.Limits.{columns, cells_per_key}
use Rattle.dvvset.specs.Clock.{State, Outcome, refused, accepted, answer, after, merge, discard, context, put}
use Rattle.dvvset.specs.Listing.{siblings}
use Rattle.dvvset.specs.declared.writes.Dot.{Dot}
use Rattle.dvvset.specs.declared.writes.Sibling.{Sibling}
use Rattle.clock.specs.Memory.{top_of, count_of, no_row, state, shape, roomy}
use Rattle.clock.specs.declared.rows.Row.{Row}

abbrev pub in_room : {A S : Type 0} → Bool → Outcome A S → Outcome A S
in_room room o = cond room o (refused ShortMemory)

-- o, but for what the first refuses
abbrev pub unless_refused : {A B S T : Type 0} → Outcome A S → Outcome B T → Outcome B T
unless_refused (refused e) o = refused e
unless_refused (accepted a s) o = o

abbrev pub merging : {V : Type 0} → List Row → List V → List Row → List V → Outcome (Unit {0}) (State V)
merging rows cells others values = in_room (roomy rows cells && roomy others values) (accepted tt (merge (state rows cells) (state others values)))

abbrev pub discarding : {V : Type 0} → List Row → List V → List ℕ → Outcome (Unit {0}) (State V)
discarding rows cells C = in_room (roomy rows cells) (accepted tt (discard C (state rows cells)))

-- the rows alone tell whether the counters or the siblings are used up
abbrev pub putting : {V : Type 0} → List Row → List V → ℕ → List ℕ → V → Outcome Dot (State V)
putting rows cells own C v = unless_refused (put own C tt (shape rows)) (in_room (roomy rows cells) (put own C v (state rows cells)))

-- the tops of the rows
abbrev pub contexts : List Row → Result (List ℕ) Refusal
contexts rows = cond (nat_le columns (length rows)) (Ok (context (shape rows))) (Err ShortMemory)

-- the siblings go to the front of `out`, which is else as it was; the answer is how many they are
abbrev pub listing : {V : Type 0} → List Row → List V → List (Sibling V) → Outcome ℕ (List (Sibling V))
listing rows cells out =
    let all = siblings (state rows cells) in
    in_room (roomy rows cells && nat_le (length all) (length out)) (accepted (length all) (all ++ drop (length all) out))

-- What a call on a key leaves, where o is what it comes to: its answer, what the lent memory then means, all memory beyond the key's as it was, and
-- all memory as it was where it is refused.
pub record Leaves {V A : Type 0} (rows : List Row) (cells : List V) (o : Outcome A (State V)) (r : Result A Refusal) (rows' : List Row) (cells' : List V) : Type 0 where
  pub answers : r ≡ answer o
  pub means : state rows' cells' ≡ after (state rows cells) o
  pub rows_beyond : drop columns rows' ≡ drop columns rows
  pub cells_beyond : drop cells_per_key cells' ≡ drop cells_per_key cells
  pub unchanged : is_err r ≡ true → (rows' ≡ rows) × (cells' ≡ cells)

-- r is the row that is left of column c once the tops C are discarded
pub record Remains (rows : List Row) (C : List ℕ) (c : ℕ) (r : Row) : Type 0 where
  pub top : top_of r ≡ max (top_of (slice_index_or rows c no_row)) (slice_index C c)
  pub count : count_of r ≡ min (top_of (slice_index_or rows c no_row) - slice_index C c) (count_of (slice_index_or rows c no_row))
