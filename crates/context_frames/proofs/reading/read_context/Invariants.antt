use Rattle.std.proofs.Common.{◌≡◌, ◌-◌, length}
use Rattle.context_frames.proofs.Walks.{Midway}
use Rattle.context_frames.proofs.reading.read_context.Given as goal

abbrev pub invariant-loop-cursor : goal.invariant-loop-cursor
invariant-loop-cursor l = (l.cursor.bytes.now ≡ l.bytes) × (length l.tops ≡ 24) × Midway l.bytes l.key l.cursor.at l.from l.tops

abbrev pub decreases-loop-cursor : goal.decreases-loop-cursor
decreases-loop-cursor l = length l.bytes - l.cursor.at
