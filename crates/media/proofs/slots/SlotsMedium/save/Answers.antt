use Rattle.std.proofs.Common.{◌≡◌, length, Some, refl, ap, inl, arith, rules}
use Rattle.media.proofs.Frames.{bounds, frames_set}
use Rattle.media.proofs.slots.SlotsMedium.save.Goals as goal

pub of-requires : goal.of-requires
of-requires c =
    let b = bounds c.args.key (length c.args.frame.now) 1760 c.in_ok-admit.ensures in
    b.few

pub returns : goal.returns
returns c =
    let e = c.in_ok-admit.ensures in
    let b = bounds c.args.key (length c.args.frame.now) 1760 e in
    let is : c.from.result ≡ c.args.key = search rules in
    record {
      answers = e;
      frames = rw is (frames_set c.args.self.now.slots c.args.key _ _ (omega (arith, b.low_key, c.args.self.now.sixteen)) (ap Some c.of.ensures));
      taken = 0;
      takes = inl refl;
      falls = refl;
    }
