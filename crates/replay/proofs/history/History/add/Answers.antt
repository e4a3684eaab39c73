use Rattle.replay.proofs.Rising.{rises-append}
use Rattle.replay.proofs.history.History.add.Goals as goal

pub invariant_of-self-2 : goal.invariant_of-self-2
invariant_of-self-2 g c = record { sorted = λ up. let e = c.rises_to-rising.ensures up in rw c.in_ok-push.ensures.items (rises-append c.args.self.now.gifts.items c.args.gift e.0 e.1) }
