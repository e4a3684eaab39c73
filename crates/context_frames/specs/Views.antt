-- A context that was read, by its numbers. Assumes nothing.
use Rattle.std.specs.Prelude.{ℕ, List, Ok, Err, Result}
use Rattle.refusals.specs.declared.Refusal.{Refusal}
use Rattle.formats.specs.Reading.{Keyed}
use Rattle.context_frames.specs.declared.seen_keys.KeyedContext.{KeyedContext}

abbrev pub keyed : Result KeyedContext Refusal → Result (Keyed (List ℕ)) Refusal
keyed (Ok k) = Ok (record { key = k.key; what = k.context.tops })
keyed (Err e) = Err e
