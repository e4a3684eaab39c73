use Rattle.std.proofs.Common.{sym, refl, ◌∙◌, arith}
use Rattle.std.proofs.lemmas.Bool.{cond-true}
use Rattle.std.proofs.lemmas.List.{length-take-le}
use Rattle.clock.proofs.Puts.{leaves_front_rows}
use Rattle.clock.proofs.Whole.{state_discarded}
use Rattle.clock.proofs.keys.discard.Goals as goal

pub copy_from_slice-requires : goal.copy_from_slice-requires
copy_from_slice-requires g c = length-take-le 24 c.args.rows.now (c.if-not-has_room.ensures.enough.0 refl).0 ∙ (omega arith)

pub slice_bounds-copy_from_slice-end-2 : goal.slice_bounds-copy_from_slice-end-2
slice_bounds-copy_from_slice-end-2 g c = sym (length-take-le 24 c.args.rows.now (c.if-not-has_room.ensures.enough.0 refl).0)

pub returns : goal.returns
returns g c =
    let rows = c.args.rows.now in
    let cells = c.args.cells.now in
    let left = c.discard_rows-left.result in
    rw c.copy_from_slice.ensures.after
    (leaves_front_rows rows cells _ tt _ left (cond-true _ _ _ (sym c.if-not-has_room.ensures.value)) (state_discarded rows left c.args.context.now.tops cells c.args.context.now.wide c.discard_rows-left.ensures) (omega arith))
