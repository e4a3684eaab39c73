use Rattle.std.proofs.Common.{drop, ◌∙◌}
use Rattle.std.proofs.lemmas.List.{drop_at, length-take-le}
use Rattle.values.specs.BigEndianLemmas.{bytes_typed}
use Rattle.frames.proofs.Loads.{loaded, state_cleared}
use Rattle.frames.proofs.taking.load_frame.Goals as goal

pub returns : goal.returns
returns g c =
    let met = g.met.V.Value in
    let bs = c.args.frame.now in
    let rest = drop 24 c.args.rows.now in
    let key = c.in_ok-key.ensures in
    let wide = length-take-le 24 c.args.rows.now key.room.0 in
    let cleared = state_cleared c.default.result _ c.fill.new.self rest c.args.cells.now c.default.ensures wide (c.fill.ensures.after (λ y e. e)) in
    let means = rw cleared at c.merge_fields.ensures.state in
    let beyond = c.merge_fields.ensures.rows ∙ drop_at c.fill.new.self rest 24 (c.fill.ensures.len ∙ wide) in
    loaded (record { most = met.small.1; fills = met.fills; back = met.back; forth = met.forth; fits = met.fits }) bs (bytes_typed bs c.type_inv.frame)
    c.args.rows.now c.merge_fields.new.rows c.args.cells.now c.merge_fields.new.cells c.in_ok-key.key key.answer means beyond c.merge_fields.ensures.cells
