use Rattle.std.proofs.Common.{◌≡◌, ◌∙◌, arith, rules}
use Rattle.cursor.specs.Seen.{column_shown, head_shown}
use Rattle.frames.proofs.Walks.{head_refused, head_read, at_the_end, at_refused, at_past, at_next}
use Rattle.frames.proofs.checking.check.Goals as goal

pub returns-in_err-key : goal.returns-in_err-key
returns-in_err-key g c =
    let bs = c.args.frame.now in
    let h = rw (c.new-cursor.ensures.at, c.new-cursor.ensures.bytes) at c.in_err-key.ensures.value in
    let r = head_refused g.V.Value.width g.V.Value.value_of bs _ h in
    search rules

pub loop-cursor-init : goal.loop-cursor-init
loop-cursor-init g c =
    let h = rw (c.new-cursor.ensures.at, c.new-cursor.ensures.bytes) at c.in_ok-key.ensures.value in
    let r = head_read g.V.Value.width g.V.Value.value_of c.args.frame.now (head_shown c.in_ok-key.field-0) h in
    let four : c.state_head.new.self.at ≡ 4 = omega (arith, c.in_ok-key.ensures.moved, r.0) in
    (c.in_ok-key.ensures.same ∙ c.new-cursor.ensures.bytes, omega arith, rw four r.1)

pub returns-in_err-field : goal.returns-in_err-field
returns-in_err-field g c =
    let h = rw c.loop-cursor.invariant.0 at c.in_err-field.ensures.value in
    let r = at_refused g.V.Value.width g.V.Value.value_of c.args.frame.now _ _ _ c.loop-cursor.invariant.2 _ (search rules) h in
    search rules

pub returns-then-field-from : goal.returns-then-field-from
returns-then-field-from g c =
    let h = rw c.loop-cursor.invariant.0 at c.in_ok-field.ensures.value in
    at_past g.V.Value.width g.V.Value.value_of c.args.frame.now _ _ _ c.loop-cursor.invariant.2 (column_shown c.in_ok-field.field) h c.if-field-from.true

pub loop-cursor-preserved : goal.loop-cursor-preserved
loop-cursor-preserved g c =
    let h = rw c.loop-cursor.invariant.0 at c.in_ok-field.ensures.value in
    let next = at_next g.V.Value.width g.V.Value.value_of c.args.frame.now _ _ _ c.loop-cursor.invariant.2 (column_shown c.in_ok-field.field) h c.if-field-from.false in
    let low = c.in_ok-field.field.low in
    (c.in_ok-field.ensures.same ∙ c.loop-cursor.invariant.0, omega arith, rw c.in_ok-field.ensures.moved next)

pub returns : goal.returns
returns g c =
    at_the_end g.V.Value.width g.V.Value.value_of c.args.frame.now _ _ _ c.loop-cursor.invariant.2 (search rules)
