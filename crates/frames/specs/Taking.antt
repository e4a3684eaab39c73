-- What a call with a frame comes to. Assumes nothing.
use Rattle.std.specs.Prelude.{ℕ, Bool, cond, ◌&&◌, List, ◌++◌, length, drop, Ok, Err, Result, nat_le}
use Rattle.refusals.specs.declared.Refusal.{Refusal}
use Rattle.refusals.specs.declared.Refusal.TheVariants.{NoSuchSeatOrKey}
use Rattle.dvvset.specs.Clock.{State, Outcome, refused, accepted, blank, merge}
use Rattle.clock.specs.Calls.{in_room}
use Rattle.clock.specs.Memory.{state, roomy}
use Rattle.clock.specs.declared.rows.Row.{Row}
use Rattle.formats.specs.Frames.{frame, frame_length}
use Rattle.formats.specs.Reading.{Keyed, reading}

-- the state that was read, if one was
abbrev pub state_read : {V : Type 0} → Result (Keyed (State V)) Refusal → State V
state_read (Ok k) = k.what
state_read (Err e) = blank

-- f of what was read, if there is room; the frame's refusal comes first
abbrev pub accepting : {A S : Type 0} → Bool → Result (Keyed A) Refusal → (A → S) → Outcome ℕ S
accepting room (Ok k) f = in_room room (accepted k.key (f k.what))
accepting room (Err e) f = refused e

-- a frame merged into a key's state, and one loaded in its place; the answer is the frame's key
abbrev pub merging_frame : {V : Type 0} → ℕ → (List ℕ → V) → List ℕ → List Row → List V → Outcome ℕ (State V)
merging_frame w value_of bs rows cells = accepting (roomy rows cells) (reading w value_of bs) (λ T. merge (state rows cells) T)

abbrev pub loading_frame : {V : Type 0} → ℕ → (List ℕ → V) → List ℕ → List Row → List V → Outcome ℕ (State V)
loading_frame w value_of bs rows cells = accepting (roomy rows cells) (reading w value_of bs) (λ T. T)

-- a state's frame, written to the front of `out`, which is else as it was; the answer is its length
abbrev pub writing_frame : {V : Type 0} → ℕ → (V → List ℕ) → ℕ → List Row → List V → List ℕ → Outcome ℕ (List ℕ)
writing_frame w bytes_of key rows cells out =
    let n = frame_length w (state rows cells) in
    cond (nat_le key 15) (in_room (roomy rows cells && nat_le n (length out)) (accepted n (frame bytes_of key (state rows cells) ++ drop n out))) (refused NoSuchSeatOrKey)
