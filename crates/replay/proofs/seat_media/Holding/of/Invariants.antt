use Rattle.std.proofs.Common.{◌≡◌, ℕ, ltb, cond, None}
use Rattle.std.specs.Option.{option_map}
use Rattle.std.specs.Ordering.{nat_cmp}
use Rattle.std.specs.BTreeMap.{get}
use Rattle.media.specs.Slots.{frames_of}
use Rattle.replay.proofs.seat_media.Holding.of.Given as goal

abbrev pub invariant-loop-key : goal.invariant-loop-key
invariant-loop-key l = (k : ℕ) → option_map (λ f. f.items) (get nat_cmp l.frames k) ≡ cond (ltb k l.key) (frames_of l.medium.slots k) None
