use Rattle.std.proofs.Common.{take, arith}
use Rattle.std.proofs.lemmas.List.{length-take-le}
use Rattle.clock.proofs.Dots.{paste-dotted}
use Rattle.clock.proofs.listing.list_column.Goals as goal

pub loop-i-preserved : goal.loop-i-preserved
loop-i-preserved g c =
    let cells = c.args.cells.now in
    let n = length-take-le c.from-count.result cells (omega arith) in
    paste-dotted c.args.out.now c.loop-i.out c.args.at c.args.c c.from-column.result.top c.loop-i.i (take c.from-count.result cells) c.value-item.result c.loop-i.invariant (omega arith) c.loop-i-test.true c.value-item.is
