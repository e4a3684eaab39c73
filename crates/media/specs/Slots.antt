-- The frames that slots hold. Assumes nothing.
use Rattle.std.specs.Prelude.{ℕ, zero, suc, List, [], ◌∷◌, take, None, Option}
use Rattle.std.specs.Option.{option_map}
use Rattle.media.specs.declared.slot.Slot.{Slot}
use Rattle.media.specs.Media.{Frames}

abbrev pub frame_in : Slot → List ℕ
frame_in s = take s.size s.bytes

-- slot 0 first
abbrev pub frames_of : List (Option Slot) → Frames
frames_of [] k = None
frames_of (s ∷ ss) zero = option_map frame_in s
frames_of (s ∷ ss) (suc k) = frames_of ss k

-- a save never lowers it
abbrev pub slots_left : ℕ
slots_left = 1760
