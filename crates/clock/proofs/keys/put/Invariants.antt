use Rattle.std.proofs.Common.{◌≡◌, drop}
use Rattle.dvvset.specs.Clock.{discard_column}
use Rattle.dvvset.proofs.Zips.{upto}
use Rattle.clock.specs.Memory.{state}
use Rattle.clock.proofs.keys.put.Given as goal

abbrev pub invariant-loop-c : goal.invariant-loop-c
invariant-loop-c g l =
    (state l.rows l.cells ≡ upto discard_column l.c (state l.initial.rows l.cells) l.context.tops) × (drop 24 l.rows ≡ drop 24 l.initial.rows)
