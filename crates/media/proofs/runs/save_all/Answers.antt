use Rattle.std.proofs.Common.{ltb, List, length, sym, refl, ◌∙◌, subst, arith}
use Rattle.std.proofs.lemmas.List.{drop-set-lt}
use Rattle.std.proofs.lemmas.Bool.{cond-false, false≢true, le-ltb}
use Rattle.media.specs.Runs.{Ran, Tried}
use Rattle.media.proofs.Trials.{ran_more, ran_none, tried_end, tried_more}
use Rattle.media.proofs.runs.save_all.Goals as goal

pub loop-i-init : goal.loop-i-init
loop-i-init g c = (ran_none _ _, refl)

pub loop-i-preserved : goal.loop-i-preserved
loop-i-preserved g c =
    let i = c.loop-i.i in
    let l = c.loop-i.auto.answers in
    let P : List Tried → Type 0 = λ ts. Ran (g.M.Medium.newest c.args.medium.now) (g.M.Medium.left c.args.medium.now) ts (g.M.Medium.newest c.carry_out.new.medium) (g.M.Medium.left c.carry_out.new.medium) in (
      subst P (sym (tried_more c.args.frames.now c.args.orders.now c.loop-i.answers i _ c.carry_out.result c.loop-i-test.true (omega arith))) (ran_more c.loop-i.invariant.0 c.carry_out.ensures),
      drop-set-lt (length c.args.orders.now) c.loop-i.answers i c.carry_out.result c.loop-i-test.true ∙ c.loop-i.invariant.1,
    )

pub returns : goal.returns
returns g c =
    let os = c.args.orders.now in
    let all = tried_end c.args.frames.now os c.loop-i.answers c.loop-i.i (omega arith) in
    let P : List Tried → Type 0 = λ ts. Ran (g.M.Medium.newest c.args.medium.now) (g.M.Medium.left c.args.medium.now) ts (g.M.Medium.newest c.loop-i.medium) (g.M.Medium.left c.loop-i.medium) in
    record {
      answer = sym (cond-false (ltb (length c.args.answers.now) (length os)) _ _ (le-ltb (length c.args.answers.now) (length os) c.if-answers-orders.false));
      ran = λ _. subst P all c.loop-i.invariant.0;
      beyond = c.loop-i.invariant.1;
      unchanged = λ e. absurd (false≢true e);
    }
