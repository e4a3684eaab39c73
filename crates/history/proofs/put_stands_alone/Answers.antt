use Rattle.history.proofs.Sanity.{put_stands_alone_lem}
use Rattle.history.proofs.put_stands_alone.Goals as goal

pub returns : goal.returns
returns g c = put_stands_alone_lem _
