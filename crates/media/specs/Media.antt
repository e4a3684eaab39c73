-- What a save and a read make of a medium, which means two things: the newest frame of each key, and a number left. Assumes nothing.
use Rattle.std.specs.Prelude.{◌≡◌, ℕ, ◌+◌, ◌≤◌, cond, ◌||◌, ◌⊎◌, List, ◌++◌, length, drop, Some, None, Ok, Err, Option, Result, ◌==◌, nat_lt}
use Rattle.std.specs.Borrow.{Bor}
use Rattle.std.specs.Option.{option_map}
use Rattle.refusals.specs.declared.Refusal.{Refusal}
use Rattle.refusals.specs.declared.Refusal.TheVariants.{WrongLength, ShortMemory, NoSuchSeatOrKey, MediumFull}

abbrev pub Frames : Type 0
Frames = ℕ → Option (List ℕ)

-- a medium that nothing was saved on: the longest frame fits
pub record Fresh (newest : Frames) (left : ℕ) : Type 0 where
  pub none : (k : ℕ) → newest k ≡ None
  pub room : 1760 ≤ left

-- ---- saving

-- a frame of f bytes for a key, where so many bytes are left
abbrev pub admitted : ℕ → ℕ → ℕ → Result (Unit {0}) Refusal
admitted key f left =
    cond (nat_lt 15 key) (Err NoSuchSeatOrKey)
    (cond (nat_lt f 4 || nat_lt 1756 f) (Err (WrongLength 0))
    (cond (nat_lt left (f + 4)) (Err MediumFull)
    (Ok tt)))

-- the frames, but for one key
abbrev pub renewed : Frames → ℕ → List ℕ → Frames
renewed newest key frame k = cond (k == key) (Some frame) (newest k)

-- the frames after a save that was answered so
abbrev pub after_save : Result (Unit {0}) Refusal → Frames → ℕ → List ℕ → Frames
after_save (Ok u) newest key frame = renewed newest key frame
after_save (Err e) newest key frame = newest

-- What a save of f bytes takes from left: an accepted one nothing or f + 4, and which of the two each medium decides.
abbrev pub Takes : Result (Unit {0}) Refusal → ℕ → ℕ → Type 0
Takes (Ok u) f taken = (taken ≡ 0) ⊎ (taken ≡ f + 4)
Takes (Err e) f taken = taken ≡ 0

-- A save with the answer r: the frames and left before it and after it.
pub record Saved (newest : Frames) (left key : ℕ) (frame : List ℕ) (r : Result (Unit {0}) Refusal) (newest' : Frames) (left' : ℕ) : Type 0 where
  pub answers : r ≡ admitted key (length frame) left
  pub frames : (k : ℕ) → newest' k ≡ after_save r newest key frame k
  pub taken : ℕ
  pub takes : Takes r (length frame) taken
  pub falls : left ≡ left' + taken

-- ---- reading

-- a frame that is lent, or none
abbrev pub behind : Option (Bor (List ℕ)) → Option (List ℕ)
behind lent = option_map (λ f. f.now) lent

-- a frame that fits into so many bytes
abbrev pub within_room : ℕ → Option (List ℕ) → Result (Option (List ℕ)) Refusal
within_room room None = Ok None
within_room room (Some f) = cond (nat_lt room (length f)) (Err ShortMemory) (Ok (Some f))

-- what a read of a key hands over
abbrev pub handed : ℕ → Option (List ℕ) → ℕ → Result (Option (List ℕ)) Refusal
handed key newest room = cond (nat_lt 15 key) (Err NoSuchSeatOrKey) (within_room room newest)

-- its answer is the frame's length
abbrev pub told : Result (Option (List ℕ)) Refusal → Result (Option ℕ) Refusal
told (Ok None) = Ok None
told (Ok (Some f)) = Ok (Some (length f))
told (Err e) = Err e

-- and the frame goes to the front of the lent bytes
abbrev pub laid : Result (Option (List ℕ)) Refusal → List ℕ → List ℕ
laid (Ok None) out = out
laid (Ok (Some f)) out = f ++ drop (length f) out
laid (Err e) out = out
