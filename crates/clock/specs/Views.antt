-- The numbers inside a column's index and inside a context. Assumes nothing.
use Rattle.std.specs.Prelude.{ℕ, List, Ok, Err, Option, Result}
use Rattle.std.specs.Option.{option_map}
use Rattle.refusals.specs.declared.Refusal.{Refusal}
use Rattle.clock.specs.declared.contexts.Context.{Context}
use Rattle.clock.specs.declared.indices.ColumnIndex.{ColumnIndex}

abbrev pub owning : Result (Option ColumnIndex) Refusal → Result (Option ℕ) Refusal
owning (Ok c) = Ok (option_map (λ i. i.index) c)
owning (Err e) = Err e

abbrev pub seen : Result Context Refusal → Result (List ℕ) Refusal
seen (Ok c) = Ok c.tops
seen (Err e) = Err e
