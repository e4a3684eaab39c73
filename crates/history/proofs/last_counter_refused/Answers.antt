use Rattle.history.proofs.Sanity.{last_counter_refused_lem}
use Rattle.history.proofs.last_counter_refused.Goals as goal

pub returns : goal.returns
returns g c = last_counter_refused_lem _
