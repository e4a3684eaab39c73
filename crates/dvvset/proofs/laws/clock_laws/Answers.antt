use Rattle.dvvset.proofs.Holding.{above, kept, discard_legal, newest, older, nothing_else, push_legal}
use Rattle.dvvset.proofs.laws.clock_laws.Goals as goal

pub returns : goal.returns
returns g c =
    record { above = above; kept = kept; discard_legal = discard_legal; newest = newest; older = older; nothing_else = nothing_else; push_legal = push_legal }
