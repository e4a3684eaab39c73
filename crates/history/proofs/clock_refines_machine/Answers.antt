use Rattle.history.proofs.Runs.{refines}
use Rattle.history.proofs.clock_refines_machine.Goals as goal

pub returns : goal.returns
returns g c = refines _
