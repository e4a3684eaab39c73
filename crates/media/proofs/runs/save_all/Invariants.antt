use Rattle.std.proofs.Common.{◌≡◌, length, take, drop}
use Rattle.media.specs.Runs.{Ran, tried_all}
use Rattle.media.proofs.runs.save_all.Given as goal

abbrev pub invariant-loop-i : goal.invariant-loop-i
invariant-loop-i g l =
    Ran (g.M.Medium.newest l.initial.medium) (g.M.Medium.left l.initial.medium) (tried_all l.frames (take l.i l.orders) (take l.i l.answers)) (g.M.Medium.newest l.medium) (g.M.Medium.left l.medium)
    × (drop (length l.orders) l.answers ≡ drop (length l.orders) l.initial.answers)
