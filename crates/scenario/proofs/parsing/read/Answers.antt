use Rattle.std.proofs.Common.{rules}
use Rattle.scenario.proofs.parsing.read.Goals as goal

pub returns : goal.returns
returns g c = (c.parse.result, c.parse.ensures.value, search rules)
