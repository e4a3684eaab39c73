use Rattle.std.proofs.Common.{arith}
use Rattle.clock.proofs.One.{push_front}
use Rattle.clock.proofs.parts.push_column.Goals as goal

pub returns : goal.returns
returns g c =
    push_front c.args.row c.into.result c.args.cells.now c.rotate_right.new.self c.args.v c.requires.cells c.rotate_right.ensures.after c.requires.count (omega arith) (omega arith)
