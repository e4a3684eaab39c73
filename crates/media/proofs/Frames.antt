-- One slot among the others, and what is admitted. Assumes nothing.
use Rattle.std.proofs.Common.{◌≡◌, ℕ, zero, suc, ◌+◌, ◌<◌, ◌≤◌, eqb, ltb, true, List, [], ◌∷◌, length, get_or, set, Some, None, Ok, Option, sym, refl, ap, ◌∙◌, ⊎_elim, arith}
use Rattle.std.specs.Option.{option_map}
use Rattle.std.proofs.lemmas.Bool.{cases_eq, cond-true, cond-false, eq-eqb, ne_eqb}
use Rattle.std.proofs.lemmas.Bool.Decides.{nat_tests}
use Rattle.media.specs.declared.slot.Slot.{Slot}
use Rattle.media.specs.Media.{Frames, admitted, renewed}
use Rattle.media.specs.Slots.{frame_in, frames_of}

-- what is admitted is within the bounds
pub record Bounds (key f left : ℕ) : Type 0 where
  pub low_key : key ≤ 15
  pub some : 4 ≤ f
  pub few : f ≤ 1756
  pub room : f + 4 ≤ left

pub bounds : (key f left : ℕ) → Ok tt ≡ admitted key f left → Bounds key f left
bounds key f left e = record { low_key = grind (arith, nat_tests); some = grind (arith, nat_tests); few = grind (arith, nat_tests); room = grind (arith, nat_tests) }

-- ---- slots

pub frames_get : (ss : List (Option Slot)) (k : ℕ) (d : Option Slot) → k < length ss → frames_of ss k ≡ option_map frame_in (get_or ss k d)
frames_get [] k d h = absurd (omega arith)
frames_get (s ∷ ss) zero d h = refl
frames_get (s ∷ ss) (suc k) d h = frames_get ss k d (omega arith)

-- the slot that was found at a place
pub frame_at : (ss : List (Option Slot)) (place key : ℕ) (found : Option Slot) → place ≡ key → true ≡ ltb place (length ss) → found ≡ get_or ss place found → option_map frame_in found ≡ frames_of ss key
frame_at ss place key found is within at = ap (option_map frame_in) at ∙ sym (frames_get ss place found (grind (arith, nat_tests))) ∙ ap (frames_of ss) is

pub frames_past : (ss : List (Option Slot)) (k : ℕ) → length ss ≤ k → frames_of ss k ≡ None
frames_past [] k h = refl
frames_past (s ∷ ss) zero h = absurd (omega arith)
frames_past (s ∷ ss) (suc k) h = frames_past ss k (omega arith)

set_here : (ss : List (Option Slot)) (k : ℕ) (s : Option Slot) → k < length ss → frames_of (set ss k s) k ≡ option_map frame_in s
set_here [] k s h = absurd (omega arith)
set_here (t ∷ ss) zero s h = refl
set_here (t ∷ ss) (suc k) s h = set_here ss k s (omega arith)

set_there : (ss : List (Option Slot)) (key k : ℕ) (s : Option Slot) → (k ≡ key → ⊥) → frames_of (set ss key s) k ≡ frames_of ss k
set_there [] key k s h = refl
set_there (t ∷ ss) zero zero s h = absurd (h refl)
set_there (t ∷ ss) zero (suc k) s h = refl
set_there (t ∷ ss) (suc key) zero s h = refl
set_there (t ∷ ss) (suc key) (suc k) s h = set_there ss key k s (λ e. h (ap suc e))

pub renewed_here : (newest : Frames) (key k : ℕ) (f : List ℕ) → k ≡ key → renewed newest key f k ≡ Some f
renewed_here newest key k f e = cond-true (eqb k key) _ _ (eq-eqb k key e)

pub renewed-there : (newest : Frames) (key k : ℕ) (f : List ℕ) → (k ≡ key → ⊥) → renewed newest key f k ≡ newest k
renewed-there newest key k f h = cond-false (eqb k key) _ _ (ne_eqb k key h)

-- frames that differ at one key alone
pub renewed_by : (old new : Frames) (key : ℕ) (f : List ℕ) → new key ≡ Some f → ((k : ℕ) → (k ≡ key → ⊥) → new k ≡ old k) → (k : ℕ) → new k ≡ renewed old key f k
renewed_by old new key f here there k =
    ⊎_elim (λ e. ap new e ∙ here ∙ sym (renewed_here old key k f e)) (λ h. there k h ∙ sym (renewed-there old key k f h)) (cases_eq k key)

pub frames_set : (ss : List (Option Slot)) (key : ℕ) (s : Option Slot) (f : List ℕ) → key < length ss → option_map frame_in s ≡ Some f → (k : ℕ) → frames_of (set ss key s) k ≡ renewed (frames_of ss) key f k
frames_set ss key s f h e = renewed_by (frames_of ss) (frames_of (set ss key s)) key f (set_here ss key s h ∙ e) (λ k ne. set_there ss key k s ne)
