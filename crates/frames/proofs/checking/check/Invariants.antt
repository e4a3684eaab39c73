use Rattle.std.proofs.Common.{◌≡◌, ◌-◌, ◌≤◌, length}
use Rattle.frames.proofs.Walks.{Checking}
use Rattle.frames.proofs.checking.check.Given as goal

abbrev pub invariant-loop-cursor : goal.invariant-loop-cursor
invariant-loop-cursor g l =
    (l.cursor.bytes.now ≡ l.frame) × (l.from ≤ 24) × Checking g.V.Value.width g.V.Value.value_of l.frame l.key l.from l.cursor.at

abbrev pub decreases-loop-cursor : goal.decreases-loop-cursor
decreases-loop-cursor g l = length l.frame - l.cursor.at
