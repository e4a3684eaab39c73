use Rattle.std.proofs.Common.{◌≡◌}
use lib.Seq.{paste}
use Rattle.dvvset.specs.Listing.{dotted}
use Rattle.clock.proofs.listing.list_column.Given as goal

abbrev pub invariant-loop-i : goal.invariant-loop-i
invariant-loop-i g l = l.out ≡ paste l.initial.out l.at (dotted l.c l.column.top l.value-items) l.i
