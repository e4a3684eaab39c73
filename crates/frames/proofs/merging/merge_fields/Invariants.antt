use Rattle.std.proofs.Common.{◌≡◌, ◌-◌, length}
use Rattle.frames.proofs.Merges.{Midway}
use Rattle.frames.proofs.merging.merge_fields.Given as goal

abbrev pub invariant-loop-field : goal.invariant-loop-field
invariant-loop-field g l = (l.cursor.bytes.now ≡ l.frame) × Midway g.V.Value.width g.V.Value.value_of l.frame l.initial.rows l.initial.cells l.cursor.at l.rows l.cells

abbrev pub decreases-loop-field : goal.decreases-loop-field
decreases-loop-field g l = length l.frame - l.cursor.at
