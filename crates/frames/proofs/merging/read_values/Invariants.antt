use Rattle.std.proofs.Common.{◌≡◌}
use Rattle.frames.proofs.ValuesRead.{Midway}
use Rattle.frames.proofs.merging.read_values.Given as goal

abbrev pub invariant-loop-i : goal.invariant-loop-i
invariant-loop-i g l =
    let it = l.i-iterator in
    (it.iter.size ≡ g.V.Value.width) × Midway g.V.Value.width g.V.Value.value_of l.initial.cells l.field.count l.field.values.now it.count it.iter.rest.now l.cells
