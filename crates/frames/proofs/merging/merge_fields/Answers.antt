use Rattle.std.proofs.Common.{ℕ, ◌+◌, ◌-◌, ◌*◌, drop, refl, ◌∙◌, arith}
use Rattle.cursor.specs.Seen.{column_shown}
use Rattle.cursor.proofs.Founds.{column-found}
use Rattle.dvvset.specs.Clock.{no_writes}
use Rattle.formats.specs.Reading.{column_told}
use Rattle.formats.proofs.Walking.{walk_wide}
use Rattle.frames.proofs.Merges.{starts, finished, onward}
use Rattle.frames.proofs.merging.merge_fields.Goals as goal

pub invariant_of-cursor : goal.invariant_of-cursor
invariant_of-cursor g c = record { within = (starts g.V.Value.width g.V.Value.value_of c.args.frame.now c.requires.frame).0 }

pub loop-field-init : goal.loop-field-init
loop-field-init g c =
    let s = starts g.V.Value.width g.V.Value.value_of c.args.frame.now c.requires.frame in
    (refl, record { from = 0; low = omega arith; left = s.1; done = refl; rows_beyond = refl; cells_beyond = refl })

pub merge_field-requires-clause-values : goal.merge_field-requires-clause-values
merge_field-requires-clause-values g c =
    let h = rw c.loop-field.invariant.0 at c.in-Ok.ensures.value in
    (column-found g.V.Value.width c.loop-field.cursor.at (drop c.loop-field.cursor.at c.args.frame.now) (column_shown c.in-Ok.field) h).long

pub loop-field-preserved : goal.loop-field-preserved
loop-field-preserved g c =
    let w = g.V.Value.width in
    let frame = c.args.frame.now in
    let wide = walk_wide (column_told w g.V.Value.value_of) no_writes (λ p. refl) 24 0 4 (drop 4 frame) _ (starts w g.V.Value.value_of frame c.requires.frame).1 in
    let s = column_shown c.in-Ok.field in
    let j : ℕ = s.column in
    let c_is = c.from-c.ensures in
    let low = c.in-Ok.field.low in
    let h = rw c.loop-field.invariant.0 at c.in-Ok.ensures.value in
    let next = onward w g.V.Value.value_of frame c.args.rows.now c.args.cells.now wide c.loop-field.cursor.at c.loop-field.rows c.loop-field.cells c.loop-field.invariant.1 s h c.merge_field.result (4 * j + 4 - 4 * j) c.merge_field.new.cells (omega arith) (omega arith) (omega arith) (omega arith) (rw c_is at c.merge_field.ensures) in
    (c.in-Ok.ensures.same ∙ c.loop-field.invariant.0, rw (c.in-Ok.ensures.moved, c_is) next)

pub returns-clause-state : goal.returns-clause-state
returns-clause-state g c =
    let w = g.V.Value.width in
    let frame = c.args.frame.now in
    let wide = walk_wide (column_told w g.V.Value.value_of) no_writes (λ p. refl) 24 0 4 (drop 4 frame) _ (starts w g.V.Value.value_of frame c.requires.frame).1 in
    let h = rw c.loop-field.invariant.0 at c.in_default.ensures.value in
    finished w g.V.Value.value_of frame c.args.rows.now c.args.cells.now wide _ _ _ c.loop-field.invariant.1 _ h
