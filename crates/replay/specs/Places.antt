-- Where the state of a seat and key stands. Assumes nothing.
use Rattle.std.specs.Prelude.{◌≡◌, ℕ, ◌+◌, ◌*◌, Bool, true, false, ◌&&◌, Result, MatchResult, nat_le}
use Rattle.refusals.specs.declared.Refusal.{Refusal}
use Rattle.refusals.specs.declared.Refusal.TheVariants.{NoSuchSeatOrKey}
use Rattle.scenario.specs.declared.calls.Spot.{Spot}
use Rattle.replay.specs.declared.places.SeatKey.{SeatKey}

abbrev pub there : Spot → Bool
there at = nat_le at.seat 5 && nat_le at.key 15

-- sixteen keys for each seat
abbrev pub place_of : Spot → ℕ
place_of at = 16 * at.seat + at.key

-- the same seat and key, where they are there
abbrev pub Placed : Spot → Result SeatKey Refusal → Type 0
Placed at r = MatchResult r (λ p. (there at ≡ true) × (p.seat ≡ at.seat) × (p.key ≡ at.key)) (λ e. (there at ≡ false) × (e ≡ NoSuchSeatOrKey))
