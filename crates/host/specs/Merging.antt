-- What the two calls answer. Assumes nothing.
use Rattle.std.specs.Prelude.{ℕ, ◌+◌, ◌*◌, cond, List, ◌++◌, length, drop, Ok, Err, Result, ◌==◌, nat_le}
use Rattle.refusals.specs.declared.Refusal.{Refusal}
use Rattle.refusals.specs.declared.Refusal.TheVariants.{Mismatch}
use Rattle.refusals.specs.Refusals.{number, offset}
use Rattle.values.specs.Layouts.{setting_bytes, setting_of}
use Rattle.values.specs.declared.setting.Setting.{Setting}
use Rattle.dvvset.specs.Clock.{Outcome, State, accepted, merge, refused}
use Rattle.clock.specs.Calls.{in_room}
use Rattle.formats.specs.Frames.{frame, frame_length}
use Rattle.formats.specs.Reading.{Keyed, reading}

abbrev pub code : Refusal → ℕ
code e = 65536 * number e + offset e

-- 0 for what was accepted
abbrev pub checked_code : Result ℕ Refusal → ℕ
checked_code (Ok key) = 0
checked_code (Err e) = code e

-- the number of bytes of what was written
abbrev pub merged_code : Result ℕ Refusal → ℕ
merged_code (Ok n) = n
merged_code (Err e) = code e

-- the frame of a state goes to the front of `out`, which is else as it was
abbrev pub laid : ℕ → State Setting → List ℕ → Outcome ℕ (List ℕ)
laid key S out = let n = frame_length 16 S in in_room (nat_le n (length out)) (accepted n (frame setting_bytes key S ++ drop n out))

-- both frames were read
abbrev pub joined : Keyed (State Setting) → Keyed (State Setting) → List ℕ → Outcome ℕ (List ℕ)
joined a b out = cond (a.key == b.key) (laid a.key (merge a.what b.what) out) (refused Mismatch)

abbrev pub second_read : Keyed (State Setting) → Result (Keyed (State Setting)) Refusal → List ℕ → Outcome ℕ (List ℕ)
second_read a (Err e) out = refused e
second_read a (Ok b) out = joined a b out

abbrev pub first_read : Result (Keyed (State Setting)) Refusal → Result (Keyed (State Setting)) Refusal → List ℕ → Outcome ℕ (List ℕ)
first_read (Err e) r out = refused e
first_read (Ok a) r out = second_read a r out

abbrev pub merging_frames : List ℕ → List ℕ → List ℕ → Outcome ℕ (List ℕ)
merging_frames first second out = first_read (reading 16 setting_of first) (reading 16 setting_of second) out
