use Rattle.history.proofs.Sanity.{exchange_agrees_lem}
use Rattle.history.proofs.exchange_agrees.Goals as goal

pub returns : goal.returns
returns g c = exchange_agrees_lem _
