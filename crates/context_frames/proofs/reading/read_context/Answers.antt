use Rattle.std.proofs.Common.{◌≡◌, refl, ◌∙◌, arith, rules}
use Rattle.std.proofs.lemmas.List.{length-set}
use Rattle.cursor.specs.Seen.{head_shown, top_shown}
use Rattle.context_frames.proofs.Walks.{head_refused, head_read, at_the_end, at_refused, at_past, at_next}
use Rattle.context_frames.proofs.reading.read_context.Goals as goal

pub returns-in_err-key : goal.returns-in_err-key
returns-in_err-key c =
    let h = rw (c.new-cursor.ensures.at, c.new-cursor.ensures.bytes) at c.in_err-key.ensures.value in
    let r = head_refused c.args.bytes.now _ h in
    search rules

pub loop-cursor-init : goal.loop-cursor-init
loop-cursor-init c =
    let h = rw (c.new-cursor.ensures.at, c.new-cursor.ensures.bytes) at c.in_ok-key.ensures.value in
    let r = head_read c.args.bytes.now (head_shown c.in_ok-key.field-0) h in
    let four : c.context_head.new.self.at ≡ 4 = omega (arith, c.in_ok-key.ensures.moved, r.0) in
    (c.in_ok-key.ensures.same ∙ c.new-cursor.ensures.bytes, refl, rw four r.1)

pub returns-in_err-field : goal.returns-in_err-field
returns-in_err-field c =
    let h = rw c.loop-cursor.invariant.0 at c.in_err-field.ensures.value in
    let r = at_refused c.args.bytes.now _ _ _ _ c.loop-cursor.invariant.2 _ (search rules) h in
    search rules

pub returns-then-field-from : goal.returns-then-field-from
returns-then-field-from c =
    let h = rw c.loop-cursor.invariant.0 at c.in_ok-field.ensures.value in
    at_past c.args.bytes.now _ _ _ _ c.loop-cursor.invariant.2 (top_shown c.in_ok-field.field) h c.if-field-from.true

pub loop-cursor-preserved : goal.loop-cursor-preserved
loop-cursor-preserved c =
    let h = rw c.loop-cursor.invariant.0 at c.in_ok-field.ensures.value in
    let next = at_next c.args.bytes.now _ _ _ _ c.loop-cursor.invariant.2 (top_shown c.in_ok-field.field) h c.if-field-from.false in
    (c.in_ok-field.ensures.same ∙ c.loop-cursor.invariant.0, length-set c.loop-cursor.tops _ _ ∙ c.loop-cursor.invariant.1, rw (c.in_ok-field.ensures.moved, c.from.ensures) next)

pub returns : goal.returns
returns c = at_the_end c.args.bytes.now _ _ _ _ c.loop-cursor.invariant.2 (search rules)
