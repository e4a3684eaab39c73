use Rattle.std.proofs.Common.{rules, true, refl, ap, ◌∙◌}
use Rattle.dvvset.specs.Clock.{merge}
use Rattle.clock.specs.Memory.{roomy}
use Rattle.host.proofs.Both.{kept_room, merged, taken, taking_near}
use Rattle.host.proofs.merging.merge_frames.Goals as goal

pub returns-in_err-key-clause-near : goal.returns-in_err-key-clause-near
returns-in_err-key-clause-near c = let near = taking_near c.args.first.now true _ _ c.in_err-key.ensures.answers in search rules

pub returns-in_err-other-clause-near : goal.returns-in_err-other-clause-near
returns-in_err-other-clause-near c = let near = taking_near c.args.second.now (roomy c.load_frame.new.rows c.load_frame.new.cells) _ _ c.in_err-other.ensures.answers in search rules

pub returns : goal.returns
returns c =
    let first = c.args.first.now in
    let second = c.args.second.now in
    let a = taken first true _ _ _ c.in_ok-key.key refl c.in_ok-key.ensures.answers c.in_ok-key.ensures.means in
    let room = kept_room c.load_frame.new.rows c.load_frame.new.cells c.load_frame.auto.rows c.load_frame.auto.cells in
    let b = taken second (roomy c.load_frame.new.rows c.load_frame.new.cells) _ _ _ c.in_ok-other.other room c.in_ok-other.ensures.answers c.in_ok-other.ensures.means in
    let enough = kept_room c.merge_frame.new.rows c.merge_frame.new.cells (c.merge_frame.auto.rows ∙ c.load_frame.auto.rows) (c.merge_frame.auto.cells ∙ c.load_frame.auto.cells) in
    let m = merged first second c.args.out.now c.write_frame.new.out c.write_frame.result a.0 b.0 c.in_ok-key.key c.in_ok-other.other c.merge_frame.new.rows c.merge_frame.new.cells
    a.1 b.1 a.2 b.2 c.if-key-other.false a.4 enough (b.3 ∙ ap (λ S. merge S b.0.what) a.3) c.write_frame.ensures.answer c.write_frame.ensures.out in
    record { answer = m.answers; out = m.memory; most = m.most; near = m.near }
