use Rattle.std.proofs.Common.{◌≡◌, vec_len}
use Rattle.replay.specs.Saves.{AllFresh}
use Rattle.replay.proofs.seat_media.Media.new.Given as goal

abbrev pub invariant-loop : goal.invariant-loop
invariant-loop l = (vec_len l.slots ≡ l.counter) × AllFresh l.slots.items
