use Rattle.std.proofs.Common.{◌≡◌, ◌+◌, ◌*◌, ◌++◌, length, take, drop, count_by}
use Rattle.formats.specs.Frames.{head_field}
use Rattle.context_frames.specs.Laying.{tops_laid}
use Rattle.context_frames.proofs.Lays.{is_told}
use Rattle.context_frames.proofs.writing.write_context.Given as goal

abbrev pub invariant-loop-c : goal.invariant-loop-c
invariant-loop-c l =
    let J = head_field 3 l.key ++ tops_laid (take l.c l.context.tops) in
    (l.at ≡ 4 + 8 * count_by is_told (take l.c l.context.tops)) × (length J ≡ l.at) × (l.out ≡ J ++ drop l.at l.fn.out)
