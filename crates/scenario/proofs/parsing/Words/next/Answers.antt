use Rattle.scenario.proofs.Cut.{words-cut}
use Rattle.scenario.proofs.parsing.Words.next.Goals as goal

pub returns : goal.returns
returns c = words-cut _ _ c.next.result c.next.ensures.steps
