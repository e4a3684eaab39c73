-- What one expects of the machine: theorems that a machine which does nothing would fail. Assumes nothing.
use Rattle.std.specs.Prelude.{◌≡◌, ℕ, ◌+◌, ◌<◌, true, List, [], ◌∷◌, ◌++◌, length, Some}
use Rattle.std.specs.List.{ContainsAt as Has}
use Rattle.refusals.specs.declared.Refusal.TheVariants.{CounterExhausted}
use Rattle.dvvset.specs.declared.writes.Dot.{Dot}
use Rattle.dvvset.specs.Limits.{last_counter}
use Rattle.history.specs.Events.{Events, writes, highest}
use Rattle.history.specs.Calls.{Context, seen_at, Call, get, put, send, deliver, wrote, refused_by, named}
use Rattle.history.specs.Shown.{shown, listing}
use Rattle.history.specs.Machine.{World, own, context_for, step, next, after, start}

-- An accepted put is listed right after it, under the dot that it answered, whatever it has seen.
abbrev pub PutIsHeld : Type 0 → Type 0
PutIsHeld V =
    (bytes_of : V → List ℕ) (calls : List (Call V)) (s k : ℕ) (x : Context) (v : V) (d : Dot) → (step bytes_of (after bytes_of start calls) (put s k x v)).answer ≡ wrote d
    → Has (listing ((next bytes_of (after bytes_of start calls) (put s k x v)).known s k)) (record { dot = d; value = v })

-- A put with the context of a get just made is listed alone.
abbrev pub PutStandsAlone : Type 0 → Type 0
PutStandsAlone V =
    (bytes_of : V → List ℕ) (calls : List (Call V)) (s k : ℕ) (v : V) (d : Dot)
    → let w = after bytes_of start (calls ++ get s k ∷ []) in
    (step bytes_of w (put s k (seen_at (length calls)) v)).answer ≡ wrote d → listing ((next bytes_of w (put s k (seen_at (length calls)) v)).known s k) ≡ record { dot = d; value = v } ∷ []

-- seats s and t send each other all that they know of key k, the first send being the call numbered n
abbrev pub exchange : {V : Type 0} → ℕ → ℕ → ℕ → ℕ → List (Call V)
exchange s t k n = send s k ∷ send t k ∷ deliver t k n ∷ deliver s k (n + 1) ∷ []

-- Two seats that exchanged everything show the same.
abbrev pub ExchangeAgrees : Type 0 → Type 0
ExchangeAgrees V =
    (bytes_of : V → List ℕ) (calls : List (Call V)) (s t k : ℕ) → named s k ≡ true → named t k ≡ true
    → let w = after bytes_of start (calls ++ exchange s t k (length calls)) in
    shown (w.known s k) ≡ shown (w.known t k)

-- A put at the last counter is refused, in any world.
abbrev pub LastCounterRefused : Type 0 → Type 0
LastCounterRefused V =
    (bytes_of : V → List ℕ) (w : World V) (s k : ℕ) (x : Context) (v : V) (C : Events V) → named s k ≡ true → w.life s < 4 → context_for w k x ≡ Some C → highest (own w s) (writes (w.known s k)) ≡ last_counter
    → (step bytes_of w (put s k x v)).answer ≡ refused_by CounterExhausted
