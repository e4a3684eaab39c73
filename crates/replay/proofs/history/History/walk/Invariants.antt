use Rattle.std.proofs.Common.{◌≡◌, drop}
use Rattle.replay.specs.Gifts.{given}
use Rattle.replay.proofs.history.History.walk.Given as goal

abbrev pub invariant-loop-gift : goal.invariant-loop-gift
invariant-loop-gift g l = given (drop l.gift-index l.self.gifts.items) l.call l.key ≡ given l.self.gifts.items l.call l.key
