-- The same calls on dotted version vector sets: for each seat and key a state, which merge, discard and put change. Assumes nothing.
use Rattle.std.specs.Prelude.{ℕ, ◌+◌, Bool, true, false, cond, ◌&&◌, List, [], ◌∷◌, length, Some, None, Option, ◌==◌, nat_le, nat_lt}
use Rattle.refusals.specs.declared.Refusal.TheVariants.{MediumFull}
use Rattle.dvvset.specs.declared.writes.Dot.{Dot}
use Rattle.dvvset.specs.Limits.{owned}
use Rattle.dvvset.specs.Clock.{State, Outcome, refused, accepted, blank, no_context, context, merge, discard, put as clock_put}
use Rattle.dvvset.specs.Listing.{siblings}
use Rattle.formats.specs.Frames.{frame, context_frame}
use Rattle.history.specs.Calls.{Context, blind, seen_at, Call, get, put, delete, send, deliver, save, restart, Answer, wrote, got, sent, done, live, mute, refused_by, misnamed, named, next_life, spendable, spend, set_at, set_key}

-- What a call handed out: the tops at a get, or the state at a send, and its key.
pub data ClockGift (V : Type 0) : Type 0 where
  no_gift : ClockGift V
  context_of : ℕ → List ℕ → ClockGift V
  frame_of : ℕ → State V → ClockGift V

pub record ClockWorld (V : Type 0) : Type 0 where
  pub calls : ℕ
  pub life : ℕ → ℕ
  pub known : ℕ → ℕ → State V
  pub kept : ℕ → ℕ → State V
  pub saved : ℕ → ℕ → Bool
  pub owed : ℕ → ℕ → Option ℕ
  pub given : ℕ → ClockGift V

pub record ClockStep (V : Type 0) : Type 0 where
  pub world : ClockWorld V
  pub answer : Answer V

abbrev pub clock_to : {V : Type 0} → ClockWorld V → Answer V → ClockStep V
clock_to w a = record { world = w; answer = a }

-- ---- what becomes of a world

abbrev pub clock_learn : {V : Type 0} → ClockWorld V → ℕ → ℕ → State V → ClockWorld V
clock_learn w s k S =
    record { calls = w.calls; life = w.life; known = set_key w.known s k S; kept = w.kept; saved = w.saved; owed = w.owed; given = w.given }

abbrev pub clock_with_owed : {V : Type 0} → ClockWorld V → (ℕ → ℕ → Option ℕ) → ClockWorld V
clock_with_owed w f = record { calls = w.calls; life = w.life; known = w.known; kept = w.kept; saved = w.saved; owed = f; given = w.given }

abbrev pub clock_hand_out : {V : Type 0} → ClockWorld V → ClockGift V → ClockWorld V
clock_hand_out w g =
    record { calls = w.calls; life = w.life; known = w.known; kept = w.kept; saved = w.saved; owed = w.owed; given = set_at w.given w.calls g }

abbrev pub clock_keep : {V : Type 0} → ClockWorld V → ℕ → ℕ → ClockWorld V
clock_keep w s k =
    record {
      calls = w.calls;
      life = w.life;
      known = w.known;
      kept = set_key w.kept s k (w.known s k);
      saved = set_key w.saved s k true;
      owed = w.owed;
      given = w.given;
    }

abbrev pub clock_wake : {V : Type 0} → ClockWorld V → ℕ → ClockWorld V
clock_wake w s =
    record {
      calls = w.calls;
      life = set_at w.life s (next_life (w.life s));
      known = set_at w.known s (w.kept s);
      kept = w.kept;
      saved = w.saved;
      owed = set_at w.owed s (λ k. None);
      given = w.given;
    }

abbrev pub clock_tick : {V : Type 0} → ClockWorld V → ClockWorld V
clock_tick w = record { calls = w.calls + 1; life = w.life; known = w.known; kept = w.kept; saved = w.saved; owed = w.owed; given = w.given }

-- ---- one call

abbrev pub clock_context_in : {V : Type 0} → ℕ → ClockGift V → Option (List ℕ)
clock_context_in k no_gift = None
clock_context_in k (context_of j C) = cond (j == k) (Some C) None
clock_context_in k (frame_of j S) = None

abbrev pub clock_context_for : {V : Type 0} → ClockWorld V → ℕ → Context → Option (List ℕ)
clock_context_for w k blind = Some no_context
clock_context_for w k (seen_at t) = clock_context_in k (w.given t)

abbrev pub clock_frame_in : {V : Type 0} → ℕ → ClockGift V → Option (State V)
clock_frame_in k no_gift = None
clock_frame_in k (context_of j C) = None
clock_frame_in k (frame_of j S) = cond (j == k) (Some S) None

-- the step f with what the call names, if there is such a thing
abbrev pub with_named : {V A : Type 0} → ClockWorld V → Option A → (A → ClockStep V) → ClockStep V
with_named w None f = clock_to w misnamed
with_named w (Some x) f = f x

-- what a put comes to
abbrev pub settle : {V : Type 0} → ClockWorld V → ℕ → ℕ → Outcome Dot (State V) → ClockStep V
settle w s k (refused e) = clock_to w (refused_by e)
settle w s k (accepted d S) = clock_to (clock_with_owed (clock_learn w s k S) (set_key w.owed s k (Some w.calls))) (wrote d)

unfoldable pub clock_step : {V : Type 0} → (V → List ℕ) → ClockWorld V → Call V → ClockStep V
clock_step bytes_of w (get s k) =
    cond (named s k) (clock_to (clock_hand_out w (context_of k (context (w.known s k)))) (got (siblings (w.known s k)) (context_frame k (context (w.known s k))))) (clock_to w misnamed)
clock_step bytes_of w (put s k x v) =
    cond (named s k) (with_named w (owned s (w.life s)) (λ own. with_named w (clock_context_for w k x) (λ C. settle w s k (clock_put own C v (w.known s k))))) (clock_to w misnamed)
clock_step bytes_of w (delete s k x) =
    cond (named s k) (with_named w (clock_context_for w k x) (λ C. clock_to (clock_learn w s k (discard C (w.known s k))) done)) (clock_to w misnamed)
clock_step bytes_of w (send s k) =
    cond (named s k) (clock_to (clock_hand_out w (frame_of k (w.known s k))) (sent (frame bytes_of k (w.known s k)))) (clock_to w misnamed)
clock_step bytes_of w (deliver s k t) =
    cond (named s k) (with_named w (clock_frame_in k (w.given t)) (λ F. clock_to (clock_learn w s k (merge (w.known s k) F)) done)) (clock_to w misnamed)
clock_step bytes_of w (save s k r left) =
    cond (named s k && spendable r (w.owed s k))
    (cond (nat_le (length (frame bytes_of k (w.known s k)) + 4) left) (clock_to (clock_with_owed (clock_keep w s k) (spend r s k w.owed)) done)
    (clock_to w (refused_by MediumFull)))
    (clock_to w misnamed)
clock_step bytes_of w (restart s) = cond (nat_lt s 6) (clock_to (clock_wake w s) (cond (nat_lt (next_life (w.life s)) 4) live mute)) (clock_to w misnamed)

-- ---- lists of calls

abbrev pub clock_next : {V : Type 0} → (V → List ℕ) → ClockWorld V → Call V → ClockWorld V
clock_next bytes_of w c = clock_tick (clock_step bytes_of w c).world

abbrev pub clock_after : {V : Type 0} → (V → List ℕ) → ClockWorld V → List (Call V) → ClockWorld V
clock_after bytes_of w [] = w
clock_after bytes_of w (c ∷ cs) = clock_after bytes_of (clock_next bytes_of w c) cs

abbrev pub clock_answers : {V : Type 0} → (V → List ℕ) → ClockWorld V → List (Call V) → List (Answer V)
clock_answers bytes_of w [] = []
clock_answers bytes_of w (c ∷ cs) = (clock_step bytes_of w c).answer ∷ clock_answers bytes_of (clock_next bytes_of w c) cs

abbrev pub clock_start : {V : Type 0} → ClockWorld V
clock_start =
    record {
      calls = 0;
      life = λ s. 0;
      known = λ s k. blank;
      kept = λ s k. blank;
      saved = λ s k. false;
      owed = λ s k. None;
      given = λ t. no_gift;
    }
