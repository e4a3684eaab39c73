use Rattle.std.proofs.Common.{arith}
use Rattle.std.proofs.lemmas.Bool.Decides.{nat_tests}
use Rattle.clock.proofs.One.{merge-left, merge_right}
use Rattle.clock.proofs.parts.merge_column.Goals as goal
use Rattle.clock.proofs.parts.merge_column.Goals.{then-b-a, else-b-a}

pub returns : goal.returns
returns g c =
    elim c.if-b-a.branch [
      | then-b-a w ↦ rw (w.cells-is, w.copy_from_slice.ensures.after) (merge_right c.args.mine c.args.theirs c.into.result c.args.cells.now c.args.values.now (omega arith) (omega arith) (omega arith) (grind (arith, nat_tests)))
      | else-b-a w ↦ rw w.cells-is (merge-left c.args.mine c.args.theirs c.into.result c.args.cells.now c.args.values.now (omega arith) (omega arith) (omega arith) (grind (arith, nat_tests)))
    ]
