use Rattle.std.proofs.Common.{sym, rules}
use Rattle.std.proofs.lemmas.List.Sorted.{answers_always}
use Rattle.replay.proofs.Rising.{found, lent, unfound}
use Rattle.replay.proofs.history.History.search.Goals as goal

pub returns-in-Ok : goal.returns-in-Ok
returns-in-Ok g c =
    let gs = c.args.self.now.gifts.items in
    let facts = c.in-Ok.ensures in
    let by_call = facts.position (λ gift. gift.call) (answers_always _ _ _ (λ f a r q called. search rules)) in
    let is = found gs (c.args.self.now.sorted c.requires) c.args.call c.args.key c.in-Ok.at c.index-gift.result.now (rw c.deref.ensures.value at facts.bound) (rw c.deref.ensures.value at by_call) in
    rw (c.then_some.ensures, is, ← c.index-gift.ensures) (lent _ _)

pub returns-in-Err : goal.returns-in-Err
returns-in-Err g c =
    let gs = c.args.self.now.gifts.items in
    let facts = c.in-Err.ensures in
    let by_call = facts.position (λ gift. gift.call) (answers_always _ _ _ (λ f a r q called. search rules)) in
    sym (unfound gs (c.args.self.now.sorted c.requires) c.args.call c.args.key c.in-Err.field-0 (rw c.deref.ensures.value at facts.bound) (rw c.deref.ensures.value at by_call))
