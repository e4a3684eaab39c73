use Rattle.std.proofs.Common.{is_err, refl, ap, ◌∙◌}
use Rattle.std.proofs.lemmas.Bool.{false≢true}
use Rattle.media.specs.Runs.{tried_all}
use Rattle.journal.specs.Buffers.{opened}
use Rattle.journal.proofs.Reopens.{reopened}
use Rattle.journal.proofs.reopening.save_and_reopen.Goals as goal

pub returns-in-Ok : goal.returns-in-Ok
returns-in-Ok c =
    let s = c.in-Ok.ensures in
    let ts = tried_all c.args.frames.now c.args.orders.now c.save_all.new.answers in
    let r = reopened c.args.journal.bytes.now c.save_all.new.medium.bytes.now ts (s.ran refl) c.open.result (c.open.ensures ∙ ap opened c.into_bytes-in-Ok.ensures) in
    record { opens = λ _ ok. r.0 ok; same = r.1; beyond = s.beyond; refused = λ e. absurd (false≢true (ap is_err s.answer ∙ e)) }
