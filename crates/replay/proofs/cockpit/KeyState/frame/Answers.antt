use Rattle.std.proofs.Common.{◌≡◌, length, replicate, sym, refl, ◌∙◌, arith, rules}
use Rattle.replay.proofs.Sent.{sent, writing_is}
use Rattle.replay.proofs.cockpit.KeyState.frame.Goals as goal

pub unwrap-length-requires : goal.unwrap-length-requires
unwrap-length-requires c =
    let k = c.args.self.now in
    let rows : length k.rows ≡ 24 = search rules in
    let cells : length k.cells ≡ 96 = search rules in
    rw (c.write_frame.ensures.answer, writing_is k rows cells c.args.key (omega arith) (replicate 1756 0) refl)

pub returns : goal.returns
returns c =
    let k = c.args.self.now in
    let rows : length k.rows ≡ 24 = search rules in
    let cells : length k.cells ≡ 96 = search rules in
    let is = sent k rows cells c.args.key (omega arith) (replicate 1756 0) refl _ c.write_frame.new.out (sym c.unwrap-length.ensures ∙ c.write_frame.ensures.answer) c.write_frame.ensures.out (search rules) in
    record { length = is.0; bytes = is.1; used = is.2 }
