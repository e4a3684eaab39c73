use Rattle.std.proofs.Common.{◌≡◌, ◌≤◌, length, take, rules, refl, ◌∙◌, arith}
use Rattle.std.proofs.lemmas.List.{length-take}
use Rattle.formats.specs.Frames.{frame_length}
use Rattle.replay.proofs.Accepted.{frame_accepted}
use Rattle.replay.proofs.Giving.{given-append, option_map-giving}
use Rattle.replay.specs.Gifts.{given}
use Rattle.replay.specs.Keys.{key_at, meaning}
use Rattle.replay.specs.Sessions.{gets_of, media_of, sends_of, states_of}
use Rattle.replay.proofs.session.Session.answer.Goals as goal

pub returns-in_ok-map_err-in-Get-clause-answers : goal.returns-in_ok-map_err-in-Get-clause-answers
returns-in_ok-map_err-in-Get-clause-answers c =
    let grown = rw (← c.in_ok-map_err-in-Get.ensures.variant) at c.add.ensures in
    record {
      acts = rw c.in-Get.is (refl, refl, (c.in_ok-reading-in-Get.reading, refl, c.in_ok-reading-in-Get.ensures));
      gets = λ q k. rw grown (given-append (gets_of c.args.self.now) _ q k);
      sends = λ q k. refl;
    }

pub returns-in_ok-map_err-in-Send-clause-answers : goal.returns-in_ok-map_err-in-Send-clause-answers
returns-in_ok-map_err-in-Send-clause-answers c =
    let s = c.args.self.now in
    let frame = c.in_ok-frame-in-Send.frame in
    let kept = c.in_ok-from_slice-in-Send in
    let bytes : kept.field-0.items ≡ take frame.length frame.bytes = kept.ensures.items ∙ c.used.ensures in
    let grown = rw (← c.in_ok-map_err-in-Send.ensures.variant) at c.add-in-Send.ensures in
    record {
      acts = rw c.in-Send.is (refl, refl, (frame, refl, c.in_ok-frame-in-Send.ensures));
      gets = λ q k. refl;
      sends = λ q k. rw (grown, given-append (sends_of s)) (option_map-giving (λ v. v.items) c.args.number c.args.call.now.at.key kept.field-0 (take frame.length frame.bytes) (given (sends_of s)) q k bytes);
    }

pub returns-in_err-save-in-Save-clause-answers : goal.returns-in_err-save-in-Save-clause-answers
returns-in_err-save-in-Save-clause-answers c =
    let s = c.args.self.now in
    let at = c.args.call.now.at in
    let p = c.in_ok-place-in-Save.place in
    let frame = c.in_ok-frame-in-Save.frame in
    let six : length (media_of s) ≡ 6 = search rules in
    let seat : at.seat ≤ 5 = omega (arith, c.in_ok-place-in-Save.ensures.1, p.seats) in
    let whole : length frame.bytes ≡ 1756 = search rules in
    let long : length (take frame.length frame.bytes) ≡ frame_length 16 (meaning (key_at (states_of s) at)) = omega (arith, length-take frame.length frame.bytes, frame.within, c.in_ok-frame-in-Save.ensures.1) in
    let keeps = rw c.used-in-Save.ensures at c.in_err-save-in-Save.ensures in
    absurd (frame_accepted at.seat p.key (key_at (states_of s) at) (take frame.length frame.bytes) (media_of s) _ c.in_err-save-in-Save.field-0.0 six seat p.keys long keeps)

pub returns-in_ok-of-in-Save-clause-answers : goal.returns-in_ok-of-in-Save-clause-answers
returns-in_ok-of-in-Save-clause-answers c =
    let p = c.in_ok-place-in-Save in
    let keeps = rw (p.ensures.2, c.used-in-Save.ensures) at c.in_ok-save-in-Save.ensures in
    let lent = rw p.ensures.1 at c.medium-medium.ensures in
    record { acts = rw c.in-Save.is (refl, (c.in_ok-frame-in-Save.frame, c.in_ok-of-in-Save.field-0, c.medium-medium.result.now, refl, c.in_ok-frame-in-Save.ensures, keeps, lent, c.in_ok-of-in-Save.ensures)); gets = λ q k. refl; sends = λ q k. refl }
