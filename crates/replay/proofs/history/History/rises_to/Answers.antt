use Rattle.std.proofs.lemmas.Bool.{ltb-true}
use Rattle.replay.proofs.Rising.{below_last}
use Rattle.replay.proofs.history.History.rises_to.Goals as goal

pub returns-then-self : goal.returns-then-self
returns-then-self g c lower =
    let gs = c.args.self.now.gifts.items in
    let last = c.in-Some.last.now in
    let up = c.args.self.now.sorted c.if-self.true in
    (up, below_last gs c.args.call last up (rw c.deref.ensures.value at c.in-Some.ensures.value) (ltb-true last.call c.args.call lower))
