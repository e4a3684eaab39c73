use Rattle.formats.proofs.Theorem.{one_frame_lem}
use Rattle.formats.proofs.one_frame.Goals as goal

pub returns : goal.returns
returns g c = let met = g.met.V.Value in one_frame_lem (record { most = met.small.1; fills = met.fills; back = met.back; forth = met.forth; fits = met.fits })
