-- What the formats show of a set of events: in each column the highest known counter, and what is held. Assumes nothing.
use Rattle.std.specs.Prelude.{ℕ, List, map}
use Rattle.dvvset.specs.Clock.{ColumnState, State}
use Rattle.dvvset.specs.declared.writes.Sibling.{Sibling}
use Rattle.formats.specs.Frames.{frame, context_frame}
use Rattle.history.specs.Events.{Write, Events, writes, held, highest, newest, each_column, in_order, tops}

abbrev pub shown_column : {V : Type 0} → Events V → ℕ → ColumnState V
shown_column K c = record { top = highest c (writes K); values = map (λ w. w.value) (newest c (held K)) }

unfoldable pub shown : {V : Type 0} → Events V → State V
shown K = map (shown_column K) each_column

abbrev pub sibling : {V : Type 0} → Write V → Sibling V
sibling w = record { dot = record { column = w.column; counter = w.counter }; value = w.value }

-- the held writes, by rising column, newest first
abbrev pub listing : {V : Type 0} → Events V → List (Sibling V)
listing K = map sibling (in_order (held K))

abbrev pub frame_bytes : {V : Type 0} → (V → List ℕ) → ℕ → Events V → List ℕ
frame_bytes bytes_of k K = frame bytes_of k (shown K)

abbrev pub context_bytes : {V : Type 0} → ℕ → Events V → List ℕ
context_bytes k K = context_frame k (tops K)
