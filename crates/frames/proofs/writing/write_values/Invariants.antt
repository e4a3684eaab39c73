use Rattle.std.proofs.Common.{◌≡◌, ◌*◌, ◌≤◌, ◌++◌, length, take, drop}
use Rattle.std.specs.List.{flat_map, AllByRecursion}
use Rattle.frames.proofs.writing.write_values.Given as goal

abbrev pub invariant-loop-v : goal.invariant-loop-v
invariant-loop-v g l =
    let code = g.V.Value in
    (l.v-index ≤ length l.values) × (l.at ≡ code.width * l.v-index) × (length (flat_map code.bytes_of (take l.v-index l.values)) ≡ l.at) × (l.out ≡ flat_map code.bytes_of (take l.v-index l.values) ++ drop l.at l.initial.out) × AllByRecursion code.valid (take l.v-index l.values)
