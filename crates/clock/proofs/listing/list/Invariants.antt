use Rattle.std.proofs.Common.{◌≡◌, length, take}
use lib.Seq.{paste}
use Rattle.dvvset.specs.Listing.{siblings_from}
use Rattle.clock.specs.Memory.{state}
use Rattle.clock.proofs.listing.list.Given as goal

abbrev pub invariant-loop-c : goal.invariant-loop-c
invariant-loop-c g l =
    let ws = siblings_from 0 (take l.c (state l.rows l.cells)) in (length l.row-items ≡ 24) × (l.n ≡ length ws) × (l.out ≡ paste l.initial.out 0 ws l.n)
