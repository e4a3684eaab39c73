use Rattle.std.proofs.Common.{◌≡◌, length, arith, rules}
use Rattle.std.proofs.lemmas.Bool.Decides.{nat_tests}
use Rattle.media.proofs.Frames.{frames_past}
use Rattle.replay.proofs.seat_media.Holding.of.Goals as goal

pub returns : goal.returns
returns c =
    let ss = c.args.medium.now.slots in
    let sixteen : length ss ≡ 16 = search rules in
    record { frames = λ k. grind (arith, nat_tests, c.loop-key.invariant k, frames_past); rest = search rules }
