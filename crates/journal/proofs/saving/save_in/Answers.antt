use Rattle.std.proofs.Common.{◌+◌, ◌-◌, ◌≤◌, length, ap, ◌∙◌, arith}
use Rattle.std.proofs.lemmas.Result.{err_from_is_err_and}
use Rattle.std.proofs.lemmas.List.{length-drop, length-take}
use Rattle.media.specs.Media.{admitted}
use Rattle.media.proofs.Frames.{bounds}
use Rattle.journal.proofs.Appends.{put-appended}
use Rattle.journal.proofs.Saves.{saved, unsaved}
use Rattle.journal.proofs.saving.save_in.Goals as goal

pub append-requires : goal.append-requires
append-requires c =
    let b = bounds c.args.key (length c.args.frame.now) c.left_in-left.result c.in_ok-admit.ensures in
    let room : length c.args.frame.now + 4 ≤ c.left_in-left.result = b.room in
    let within : c.left_in-left.result ≤ length c.args.bytes.now = c.left_in-left.ensures.within in
    record { room = simp (length-take, length-drop) (omega arith); few = b.few }

pub returns-in_err-admit : goal.returns-in_err-admit
returns-in_err-admit c =
    let u = unsaved c.args.bytes.now c.args.key c.args.frame.now _ (c.in_err-admit.ensures ∙ ap (admitted c.args.key (length c.args.frame.now)) c.left_in-left.ensures.value) in
    let p = err_from_is_err_and c.from_residual.result c.from_residual.ensures.1 in
    rw (p.1, p.2) (record { saved = u.0; bytes = u.1 })

pub returns : goal.returns
returns c =
    let bs = c.args.bytes.now in
    let end = length bs - c.left_in-left.result in
    let ok = c.in_ok-admit.ensures ∙ ap (admitted c.args.key (length c.args.frame.now)) c.left_in-left.ensures.value in
    let s = saved bs c.args.key c.args.frame.now c.left_in-left.ensures.bytes ok _ end (ap (λ n. length bs - n) c.left_in-left.ensures.value) (put-appended bs c.append.new.out end (record { key = c.args.key; frame = c.args.frame.now }) c.append.ensures) in
    record { saved = s.0; bytes = s.1 }
