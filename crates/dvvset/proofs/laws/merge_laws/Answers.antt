use Rattle.dvvset.proofs.Merging.{higher, longest, legal, idempotent, associative, commutative, natural}
use Rattle.dvvset.proofs.Holding.{only, every}
use Rattle.dvvset.proofs.laws.merge_laws.Goals as goal

pub returns : goal.returns
returns g c =
    record { only = only; every = every; higher = higher; longest = longest; legal = legal; idempotent = idempotent; associative = associative; commutative = commutative; natural = natural }
