-- What calls gave. Assumes nothing.
use Rattle.std.specs.Prelude.{ℕ, ◌<◌, cond, ◌&&◌, List, [], ◌∷◌, length, Some, None, Option, ◌==◌, slice_index_or}
use Rattle.std.specs.Option.{option_or}
use Rattle.replay.specs.declared.history.Gift.{Gift}

module _ {T : Type 0} where
  -- what the call with this number gave, if it was of this key
  abbrev pub given : List (Gift T) → ℕ → ℕ → Option T
  given [] call key = None
  given (g ∷ gs) call key = cond (g.call == call && g.key == key) (Some g.what) (given gs call key)

  -- what is given once a call of a key has given this, if anything: what was given before, else that
  abbrev pub giving : ℕ → ℕ → Option T → (ℕ → ℕ → Option T) → ℕ → ℕ → Option T
  giving call key None before c k = before c k
  giving call key (Some x) before c k = option_or (before c k) (cond (call == c && key == k) (Some x) None)

  -- the calls rise along the list
  abbrev pub Rises : List (Gift T) → Type 0
  Rises gs = (i j : ℕ) (d : Gift T) → i < j → j < length gs → (slice_index_or gs i d).call < (slice_index_or gs j d).call
