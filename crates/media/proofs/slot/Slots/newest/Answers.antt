use Rattle.std.proofs.Common.{◌≡◌, Some, None, sym, ap, ◌∙◌, rules}
use Rattle.media.specs.Media.{behind}
use Rattle.media.specs.Slots.{frame_in}
use Rattle.std.specs.Option.{option_map}
use Rattle.media.proofs.Frames.{frame_at, frames_past}
use Rattle.media.proofs.slot.Slots.newest.Goals as goal

pub returns-in_err-get : goal.returns-in_err-get
returns-in_err-get c = search (rules, frames_past)

pub returns-in_err-slot : goal.returns-in_err-slot
returns-in_err-slot c =
    let at = c.in_ok-get.ensures.lookup in
    let none : c.in_ok-get.field-0.now ≡ None = search rules in
    ap behind c.from_residual-in_err-slot.ensures ∙ ap (option_map frame_in) (sym none) ∙ frame_at _ _ c.args.key _ (search rules) at.0 at.1

pub returns : goal.returns
returns c =
    let at = c.in_ok-get.ensures.lookup in
    let some : c.in_ok-get.field-0.now ≡ Some c.in_ok-slot.slot.now = search rules in
    ap Some c.frame.ensures ∙ ap (option_map frame_in) (sym some) ∙ frame_at _ _ c.args.key _ (search rules) at.0 at.1
