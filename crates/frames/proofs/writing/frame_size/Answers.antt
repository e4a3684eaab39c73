use Rattle.std.proofs.Common.{◌≡◌, sum_by, rules}
use Rattle.frames.specs.Writing.{field_length}
use Rattle.frames.proofs.Writes.{fields_most}
use Rattle.frames.proofs.writing.frame_size.Goals as goal

pub overflow_add-result : goal.overflow_add-result
overflow_add-result g c =
    let w = g.V.Value.width in
    let all : c.sum.result ≡ sum_by (field_length w) c.args.rows.now = search rules in
    let most = fields_most w g.met.V.Value.small.1 c.args.rows.now in
    search rules
