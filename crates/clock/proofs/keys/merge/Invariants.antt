use Rattle.std.proofs.Common.{◌≡◌, drop}
use Rattle.dvvset.specs.Clock.{merge_column}
use Rattle.dvvset.proofs.Zips.{upto}
use Rattle.clock.specs.Memory.{state}
use Rattle.clock.proofs.keys.merge.Given as goal

abbrev pub invariant-loop-c : goal.invariant-loop-c
invariant-loop-c g l =
    (state l.rows l.cells ≡ upto merge_column l.c (state l.initial.rows l.initial.cells) (state l.others l.values))
    × (drop 24 l.rows ≡ drop 24 l.initial.rows) × (drop 96 l.cells ≡ drop 96 l.initial.cells)
