use Rattle.std.proofs.Common.{arith}
use Rattle.std.proofs.lemmas.Bool.Decides.{nat_tests}
use Rattle.formats.specs.Reading.{values_of}
use Rattle.frames.proofs.ValuesRead.{length_values}
use Rattle.frames.proofs.FieldsMerged.{field-left, field_right}
use Rattle.frames.proofs.merging.merge_field.Goals as goal
use Rattle.frames.proofs.merging.merge_field.Goals.{then-b-a, else-b-a}

pub returns : goal.returns
returns g c =
    let v = g.V.Value in
    let f = c.args.field.now in
    let vs = values_of v.width v.value_of f.count f.values.now in
    let long = length_values v.width v.value_of f.count f.values.now in
    elim c.if-b-a.branch [
      | then-b-a w ↦ rw (w.cells-is, w.read_values.ensures) (field_right c.args.mine c.into.result f.top f.count c.args.cells.now vs f.few f.within f.top_low long _ (omega arith) (omega arith) (omega arith) (grind (arith, nat_tests)))
      | else-b-a w ↦ rw w.cells-is (field-left c.args.mine c.into.result f.top f.count c.args.cells.now vs f.few f.within f.top_low long (omega arith) (omega arith) (grind (arith, nat_tests)))
    ]
