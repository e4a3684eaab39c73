use Rattle.std.proofs.Common.{◌≡◌, ◌-◌, length}
use Rattle.media.specs.Media.{behind}
use Rattle.journal.proofs.Walks.{Walking}
use Rattle.journal.proofs.entries.survey.Given as goal

abbrev pub invariant-loop-entry : goal.invariant-loop-entry
invariant-loop-entry l = (l.cursor.bytes.now ≡ l.bytes) × Walking l.bytes l.key l.cursor.at (behind l.newest)

abbrev pub decreases-loop-entry : goal.decreases-loop-entry
decreases-loop-entry l = length l.bytes - l.cursor.at
