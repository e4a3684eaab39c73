use Rattle.std.proofs.Common.{◌≡◌, ℕ, ◌+◌, ◌-◌, ◌*◌, ◌<◌, get_or, drop, sym, refl, ◌∙◌, arith, rules}
use Rattle.std.proofs.lemmas.List.{drop-set-lt}
use Rattle.std.proofs.lemmas.Slice.{drop-put_mid}
use Rattle.dvvset.specs.Clock.{discard_column, discard, no_writes}
use Rattle.dvvset.proofs.Zips.{upto_more, upto_all}
use Rattle.clock.specs.Memory.{state, no_row}
use Rattle.clock.proofs.One.{discard_is}
use Rattle.clock.proofs.Puts.{leaves_8, leaves_7, leaves_9, leaves_put}
use Rattle.clock.proofs.Whole.{length-state, get_or-state, column_part, state-row, state-put}
use Rattle.clock.proofs.keys.put.Goals as goal

pub returns-then-column-eq999999 : goal.returns-then-column-eq999999
returns-then-column-eq999999 g c =
    rw (← c.from-at.ensures) (leaves_8 c.args.rows.now c.args.cells.now c.args.context.now c.from-at.result c.args.value c.discard_row-mine.result (omega arith) (search rules) (omega arith))

pub returns-then-column-eq4 : goal.returns-then-column-eq4
returns-then-column-eq4 g c =
    rw (← c.from-at.ensures) (leaves_7 c.args.rows.now c.args.cells.now c.args.context.now c.from-at.result c.args.value c.discard_row-mine.result (omega arith) (search rules) (λ e. omega arith) (omega arith))

pub returns-then-not-has_room : goal.returns-then-not-has_room
returns-then-not-has_room g c =
    rw (← c.from-at.ensures) (leaves_9 c.args.rows.now c.args.cells.now c.args.context.now c.from-at.result c.args.value c.discard_row-mine.result (omega arith) (search rules) (λ e. omega arith) (λ e. omega arith) (sym c.if-not-has_room.ensures.value))

pub loop-c-preserved : goal.loop-c-preserved
loop-c-preserved g c =
    let i : ℕ = c.loop-c.c in
    let lt : i < 24 = omega arith in
    let rows = c.loop-c.rows in
    let cells = c.args.cells.now in
    let tops = c.args.context.now.tops in
    let long = c.if-not-has_room.ensures.enough.0 refl in
    let a = get_or-state rows cells i no_writes lt in
    let h = discard_is (get_or rows i no_row) c.discard_row.result (get_or tops i 0) (drop (4 * i) cells) c.discard_row.ensures.top c.discard_row.ensures.count in (
      upto_more discard_column i (state c.args.rows.now cells) tops no_writes 0 (state rows cells) _ _ (omega (arith, length-state c.args.rows.now cells)) (omega (arith, c.args.context.now.wide))
          c.loop-c.invariant.0 (cc) (state-row rows cells i c.discard_row.result lt (omega arith)),
      drop-set-lt 24 rows i _ lt ∙ c.loop-c.invariant.1,
    )

pub returns : goal.returns
unfolding discard
returns g c =
    let at : ℕ = c.from-at.result in
    let k : ℕ = 4 * at + 4 - 4 * at in
    let rows = c.args.rows.now in
    let cells = c.args.cells.now in
    let tops = c.args.context.now.tops in
    let mine = c.discard_row-mine.result in
    let ys = c.push_column.new.cells in
    let long = c.if-not-has_room.ensures.enough.0 refl in
    let w = c.args.context.now.wide in
    let n = length-state rows cells in
    let d : state c.loop-c.rows cells ≡ discard tops (state rows cells) = c.loop-c.invariant.0 ∙ upto_all discard_column c.loop-c.c _ _ (omega arith) (omega arith) in
    let s = state-put c.loop-c.rows cells at c.push_column.result (omega arith) (omega arith) k ys (omega arith) (omega arith) long.1 in
    let q = column_part mine k (drop (4 * at) cells) (omega arith) in
    let h = c.push_column.ensures in
    rw (← c.from-at.ensures)
    (leaves_put rows cells c.args.context.now at c.args.value mine (omega arith) (search rules) (λ e. omega arith) (λ e. omega arith) (sym c.if-not-has_room.ensures.value) long.1 _ c.from-column.ensures.0 _ _ (cc)
    (drop-set-lt 24 c.loop-c.rows at _ (omega arith) ∙ c.loop-c.invariant.1) (drop-put_mid (4 * at) k cells ys 96 (omega arith) (omega arith) (omega arith)))
