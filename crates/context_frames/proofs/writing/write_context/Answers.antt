use Rattle.std.proofs.Common.{◌≡◌, ℕ, ◌+◌, ◌-◌, ◌*◌, ◌≤◌, ◌++◌, length, get_or, take, drop, count_by, sym, ap, ◌∙◌, arith, rules}
use Rattle.std.proofs.lemmas.List.{length-append, take_all}
use Rattle.dvvset.specs.Clock.{after, answer}
use Rattle.formats.specs.Frames.{head_field, top_field}
use Rattle.context_frames.specs.Laying.{tops_laid}
use Rattle.context_frames.proofs.Lays.{context_written, too_short, none_laid, none_counted, one_laid, one_counted, one_fits, is_told, top_written}
use Rattle.context_frames.proofs.writing.write_context.Goals as goal
use Rattle.context_frames.proofs.writing.write_context.Goals.{then-top-ne0, else-top-ne0}

pub returns-then-out-size : goal.returns-then-out-size
returns-then-out-size c =
    let o = too_short c.args.key c.args.context.now.tops c.args.out.now (omega arith) c.context_size-size.result c.context_size-size.ensures (omega arith) in
    record { answer = sym (ap answer o); out = sym (ap (after c.args.out.now) o) }

pub slice_bounds-copy_from_slice-end-then-top-ne0 : goal.slice_bounds-copy_from_slice-end-then-top-ne0
slice_bounds-copy_from_slice-end-then-top-ne0 c =
    let fits = one_fits c.args.context.now.tops c.loop-c.c (omega (arith, c.args.context.now.wide)) c.if-top-ne0.true in
    let room : c.loop-c.at + 8 ≤ length c.loop-c.out = omega (arith, c.context_size-size.ensures) in
    search rules

pub loop-c-preserved : goal.loop-c-preserved
loop-c-preserved c =
    let C = c.args.context.now.tops in
    let i : ℕ = c.loop-c.c in
    let h : i + 1 ≤ length C = omega (arith, c.args.context.now.wide) in
    let J = head_field 3 c.args.key ++ tops_laid (take i C) in
    elim c.if-top-ne0.branch [
      | then-top-ne0 w ↦
          let field = top_field i (get_or C i 0) in
          let wrote : w.copy_from_slice-then-top-ne0.new.self ≡ field = search rules in
          let new = top_written J c.loop-c.out c.args.out.now w.copy_from_slice-then-top-ne0.new.self field c.loop-c.at (c.loop-c.at + 8 - c.loop-c.at) c.loop-c.invariant.1 c.loop-c.invariant.2 (omega arith) wrote in
          let laid = one_laid C i (omega arith) w.if-top-ne0.true in
          let same = ap (λ f. head_field 3 c.args.key ++ f) laid in
          let count = one_counted C i (omega arith) w.if-top-ne0.true in
          (omega (arith, w.at-is), omega (arith, ap length laid, length-append (tops_laid (take i C)) field, c.loop-c.invariant.1, w.at-is), w.out-is ∙ new ∙ ap (λ n. (J ++ field) ++ drop n c.args.out.now) (sym w.at-is) ∙ ap (λ f. f ++ drop c.if-top-ne0.at c.args.out.now) (sym same))
      | else-top-ne0 w ↦
          let same = ap (λ f. head_field 3 c.args.key ++ f) (none_laid C i (omega arith) w.if-top-ne0.false) in
          let count = none_counted C i (omega arith) w.if-top-ne0.false in
          (omega (arith, w.at-is), ap length same ∙ c.loop-c.invariant.1 ∙ sym w.at-is, w.out-is ∙ c.loop-c.invariant.2 ∙ ap (λ n. J ++ drop n c.args.out.now) (sym w.at-is) ∙ ap (λ f. f ++ drop c.if-top-ne0.at c.args.out.now) (sym same))
    ]

pub returns : goal.returns
returns c =
    let C = c.args.context.now.tops in
    let out = c.args.out.now in
    let wide = c.args.context.now.wide in
    let all : take c.loop-c.c C ≡ C = take_all c.loop-c.c C (omega arith) in
    let at : c.loop-c.at ≡ c.context_size-size.result = c.loop-c.invariant.0 ∙ ap (λ xs. 4 + 8 * count_by is_told xs) all ∙ sym c.context_size-size.ensures in
    let new = c.loop-c.invariant.2 ∙ ap (λ xs. (head_field 3 c.args.key ++ tops_laid xs) ++ drop c.loop-c.at out) all ∙ ap (λ n. (head_field 3 c.args.key ++ tops_laid C) ++ drop n out) at in
    let r = context_written c.args.key C out (omega arith) c.context_size-size.result c.context_size-size.ensures c.loop-c.out c.if-out-size.false new in
    record { answer = r.0; out = r.1 }
