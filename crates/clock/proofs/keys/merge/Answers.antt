use Rattle.std.proofs.Common.{◌≡◌, ℕ, ◌+◌, ◌-◌, ◌*◌, ◌<◌, length, sym, ◌∙◌, arith}
use Rattle.std.proofs.lemmas.Bool.{and_from, cond-true}
use Rattle.std.proofs.lemmas.List.{drop-set-lt}
use Rattle.std.proofs.lemmas.Slice.{drop-put_mid}
use Rattle.dvvset.specs.Clock.{merge_column, merge, no_writes}
use Rattle.dvvset.proofs.Zips.{upto_more, upto_all}
use Rattle.clock.specs.Memory.{state}
use Rattle.clock.proofs.Puts.{leaves_accepted}
use Rattle.clock.proofs.Whole.{length-state, read-column, state-put}
use Rattle.clock.proofs.keys.merge.Goals as goal

pub loop-c-preserved : goal.loop-c-preserved
loop-c-preserved g c =
    let i : ℕ = c.loop-c.c in
    let k : ℕ = 4 * i + 4 - 4 * i in
    let four : k ≡ 4 = omega arith in
    let lt : i < 24 = omega arith in
    let rows = c.loop-c.rows in
    let cells = c.loop-c.cells in
    let ys = c.merge_column.new.cells in
    let len : length ys ≡ 4 = omega arith in
    let S = state c.args.rows.now c.args.cells.now in
    let T = state c.args.others.now c.args.values.now in
    let a = read-column rows cells i k no_writes lt four in
    let b = read-column c.args.others.now c.args.values.now i k no_writes lt four in
    let h = c.merge_column.ensures in (
      upto_more merge_column i S T no_writes no_writes (state rows cells) _ _ (omega (arith, length-state c.args.rows.now c.args.cells.now)) (omega (arith, length-state c.args.others.now c.args.values.now))
          c.loop-c.invariant.0 (cc) (state-put rows cells i c.merge_column.result lt (omega arith) k ys four len (omega arith)),
      drop-set-lt 24 rows i _ lt ∙ c.loop-c.invariant.1,
      drop-put_mid (4 * i) k cells ys 96 (omega arith) (omega arith) (omega arith) ∙ c.loop-c.invariant.2,
    )

pub returns : goal.returns
unfolding merge
returns g c =
    let rows = c.args.rows.now in
    let cells = c.args.cells.now in
    let others = c.args.others.now in
    let values = c.args.values.now in
    let n = length-state rows cells in
    let m = length-state others values in
    leaves_accepted rows cells _ tt _ c.loop-c.rows c.loop-c.cells (cond-true _ _ _ (and_from _ _ (sym c.if-not-has_room.ensures.value) (sym c.if-not-has_room-2.ensures.value)))
    (c.loop-c.invariant.0 ∙ upto_all merge_column c.loop-c.c _ _ (omega arith) (omega arith)) c.loop-c.invariant.1 c.loop-c.invariant.2
