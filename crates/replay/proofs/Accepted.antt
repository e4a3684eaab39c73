-- Slots take the frame of every state. Assumes nothing.
use Rattle.std.proofs.Common.{◌≡◌, ℕ, ◌≤◌, List, [], ◌∷◌, length, get_or, Ok, Err, Result, ◌∙◌, arith}
use Rattle.std.proofs.lemmas.Bool.Decides.{nat_tests}
use Rattle.refusals.specs.declared.Refusal.{Refusal}
use Rattle.std.proofs.lemmas.List.{get_or_default}
use Rattle.clock.proofs.Whole.{state_legal}
use Rattle.formats.specs.Frames.{frame_length}
use Rattle.formats.proofs.Offsets.{length_most}
use Rattle.media.specs.Media.{admitted}
use Rattle.media.specs.Slots.{slots_left}
use Rattle.media.specs.declared.slot.Slots.{Slots}
use Rattle.replay.specs.Keys.{meaning}
use Rattle.replay.specs.Saves.{Keeps}
use Rattle.replay.specs.declared.cockpit.KeyState.{KeyState}

admitted_is : (key f : ℕ) → key ≤ 15 → 4 ≤ f → f ≤ 1756 → admitted key f slots_left ≡ Ok tt
admitted_is key f low some few = grind (arith, nat_tests)

never_refused : (seat key : ℕ) (frame : List ℕ) (ms ms' : List Slots) (e : Refusal) → length ms ≡ 6 → seat ≤ 5 → key ≤ 15 → 4 ≤ length frame → length frame ≤ 1756 → Keeps seat key frame ms ms' (Err e) → ⊥
never_refused seat key frame [] ms' e six s k some few keeps = absurd (omega arith)
never_refused seat key frame (d ∷ ms) ms' e six s k some few keeps =
    let m = get_or (d ∷ ms) seat d in
    let there : m ≡ get_or (d ∷ ms) seat m = get_or_default (d ∷ ms) seat d m (omega arith) in
    let h : ◌≡◌ {A = Result (Unit {0}) Refusal} (Err e) (Ok tt) = (keeps.saved s m there).2.answers ∙ admitted_is key (length frame) k some few in
    cc

pub frame_accepted : (seat key : ℕ) (k : KeyState) (frame : List ℕ) (ms ms' : List Slots) (e : Refusal) → length ms ≡ 6 → seat ≤ 5 → key ≤ 15 → length frame ≡ frame_length 16 (meaning k) → Keeps seat key frame ms ms' (Err e) → ⊥
frame_accepted seat key k frame ms ms' e six s low is = never_refused seat key frame ms ms' e six s low (omega arith) (omega (arith, length_most 16 (meaning k) (state_legal k.rows k.cells)))
