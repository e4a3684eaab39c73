use Rattle.std.proofs.Common.{◌≡◌, length, Ok, sym, ap, ◌∙◌, arith, rules}
use Rattle.media.specs.Media.{laid, told}
use Rattle.replay.proofs.Held.{handed_is, held, told-none, told_is}
use Rattle.replay.proofs.seat_media.newest.Goals as goal

pub unwrap-requires : goal.unwrap-requires
unwrap-requires c =
    let out = c.deref_mut.result.now in
    let long : length out ≡ 1756 = search rules in
    let is = handed_is c.args.medium.now.slots c.args.key (length out) (omega arith) long in
    rw (c.read.ensures.answer, is) (told_is _)

pub returns-in_default : goal.returns-in_default
returns-in_default c =
    let out = c.deref_mut.result.now in
    let long : length out ≡ 1756 = search rules in
    let is = handed_is c.args.medium.now.slots c.args.key (length out) (omega arith) long in
    told-none _ (ap Ok (sym c.in_default.is) ∙ sym c.unwrap.ensures ∙ c.read.ensures.answer ∙ ap told is)

pub returns : goal.returns
returns c =
    let out = c.deref_mut.result.now in
    let long : length out ≡ 1756 = search rules in
    let whole : c.in_ok-frame.frame.len ≡ 1756 = search rules in
    let is = handed_is c.args.medium.now.slots c.args.key (length out) (omega arith) long in
    rw c.truncate.ensures.items
    (held c.args.medium.now.slots c.args.key _ _ out _ _ whole (ap Ok (sym c.in-Some.is) ∙ sym c.unwrap.ensures ∙ c.read.ensures.answer ∙ ap told is) (c.read.ensures.out ∙ ap (λ r. laid r out) is))
