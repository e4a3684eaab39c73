use Rattle.history.proofs.Sanity.{put_is_held_lem}
use Rattle.history.proofs.put_is_held.Goals as goal

pub returns : goal.returns
returns g c = put_is_held_lem _
