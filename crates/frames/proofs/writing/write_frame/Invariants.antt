use Rattle.std.proofs.Common.{◌≡◌, ℕ, ◌+◌, ◌<◌, ◌++◌, length, take, drop, sum_by}
use Rattle.std.specs.List.{AllByRecursion}
use Rattle.dvvset.specs.Clock.{column_at}
use Rattle.clock.specs.Memory.{state}
use Rattle.formats.specs.Frames.{head_field}
use Rattle.frames.specs.Writing.{field_length}
use Rattle.frames.proofs.Writes.{fields}
use Rattle.frames.proofs.writing.write_frame.Given as goal

abbrev pub invariant-loop-c : goal.invariant-loop-c
invariant-loop-c g l =
    let v = g.V.Value in
    let J = head_field 1 l.key ++ fields v.bytes_of l.rows l.cells l.c in
    (length l.row-items ≡ 24) × (l.at ≡ 4 + sum_by (field_length v.width) (take l.c l.rows)) × (length J ≡ l.at) × (l.out ≡ J ++ drop l.at l.fn.out) × ((i : ℕ) → i < l.c → AllByRecursion v.valid (column_at (state l.rows l.cells) i).values)
