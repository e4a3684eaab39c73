-- The plain machine: six seats, each with the set of the events that it knows of each key, and the set that it has saved. Assumes nothing.
use Rattle.std.specs.Prelude.{ℕ, ◌+◌, ◌*◌, Bool, true, false, cond, ◌&&◌, List, [], ◌∷◌, ◌++◌, length, Some, None, Option, ◌==◌, nat_le, nat_lt}
use Rattle.refusals.specs.declared.Refusal.TheVariants.{TooManySiblings, CounterExhausted, MediumFull}
use Rattle.dvvset.specs.declared.writes.Dot.{Dot}
use Rattle.dvvset.specs.Limits.{most_siblings, last_counter}
use Rattle.history.specs.Events.{Write, Events, writes, outside, held, highest, newest}
use Rattle.history.specs.Calls.{Context, blind, seen_at, Call, get, put, delete, send, deliver, save, restart, Answer, wrote, got, sent, done, live, mute, refused_by, misnamed, named, next_life, spendable, spend, set_at, set_key}
use Rattle.history.specs.Shown.{listing, frame_bytes, context_bytes}

-- What a call handed out: the set that was known at a get or a send, and its key.
pub data Gift (V : Type 0) : Type 0 where
  no_gift : Gift V
  context_of : ℕ → Events V → Gift V
  frame_of : ℕ → Events V → Gift V

pub record World (V : Type 0) : Type 0 where
  -- how many calls there were
  pub calls : ℕ
  -- how often a seat has restarted, at most 4
  pub life : ℕ → ℕ
  -- by seat and key
  pub known : ℕ → ℕ → Events V
  pub kept : ℕ → ℕ → Events V
  -- whether a save was accepted
  pub saved : ℕ → ℕ → Bool
  -- the put whose receipt is not yet spent
  pub owed : ℕ → ℕ → Option ℕ
  -- by the number of the call
  pub given : ℕ → Gift V

-- the column that a seat writes in: it has one for each of the lives 0 to 3
abbrev pub own : {V : Type 0} → World V → ℕ → ℕ
own w s = 4 * s + w.life s

-- ---- what becomes of a world

-- seat s knows K of key k from now on
abbrev pub learn : {V : Type 0} → World V → ℕ → ℕ → Events V → World V
learn w s k K =
    record { calls = w.calls; life = w.life; known = set_key w.known s k K; kept = w.kept; saved = w.saved; owed = w.owed; given = w.given }

abbrev pub with_owed : {V : Type 0} → World V → (ℕ → ℕ → Option ℕ) → World V
with_owed w f = record { calls = w.calls; life = w.life; known = w.known; kept = w.kept; saved = w.saved; owed = f; given = w.given }

-- the call hands out g
abbrev pub hand_out : {V : Type 0} → World V → Gift V → World V
hand_out w g =
    record { calls = w.calls; life = w.life; known = w.known; kept = w.kept; saved = w.saved; owed = w.owed; given = set_at w.given w.calls g }

-- seat s has saved what it knows of key k
abbrev pub keep : {V : Type 0} → World V → ℕ → ℕ → World V
keep w s k =
    record {
      calls = w.calls;
      life = w.life;
      known = w.known;
      kept = set_key w.kept s k (w.known s k);
      saved = set_key w.saved s k true;
      owed = w.owed;
      given = w.given;
    }

-- seat s knows what it saved last, of all keys, and begins its next life
abbrev pub wake : {V : Type 0} → World V → ℕ → World V
wake w s =
    record {
      calls = w.calls;
      life = set_at w.life s (next_life (w.life s));
      known = set_at w.known s (w.kept s);
      kept = w.kept;
      saved = w.saved;
      owed = set_at w.owed s (λ k. None);
      given = w.given;
    }

abbrev pub tick : {V : Type 0} → World V → World V
tick w = record { calls = w.calls + 1; life = w.life; known = w.known; kept = w.kept; saved = w.saved; owed = w.owed; given = w.given }

-- ---- one call

pub record Step (V : Type 0) : Type 0 where
  pub world : World V
  pub answer : Answer V

abbrev pub to : {V : Type 0} → World V → Answer V → Step V
to w a = record { world = w; answer = a }

-- the set that a put or a delete has seen, of key k
abbrev pub context_in : {V : Type 0} → ℕ → Gift V → Option (Events V)
context_in k no_gift = None
context_in k (context_of j C) = cond (j == k) (Some C) None
context_in k (frame_of j F) = None

abbrev pub context_for : {V : Type 0} → World V → ℕ → Context → Option (Events V)
context_for w k blind = Some []
context_for w k (seen_at t) = context_in k (w.given t)

-- the set that a deliver brings, of key k
abbrev pub frame_in : {V : Type 0} → ℕ → Gift V → Option (Events V)
frame_in k no_gift = None
frame_in k (context_of j C) = None
frame_in k (frame_of j F) = cond (j == k) (Some F) None

-- the step f with the set that the call names, if there is one
abbrev pub with_set : {V : Type 0} → World V → Option (Events V) → (Events V → Step V) → Step V
with_set w None f = to w misnamed
with_set w (Some C) f = f C

-- known, the context's set, and the new event, which covers every write of the context
abbrev pub join : {V : Type 0} → ℕ → Events V → Events V → Option (Write V) → Events V
join n K C x = K ++ C ++ (record { made_at = n; write = x; covers = writes C } ∷ [])

-- the write that a put makes, and its dot: in the own column, one above the highest known counter
abbrev pub new_dot : {V : Type 0} → World V → ℕ → ℕ → Dot
new_dot w s k = record { column = own w s; counter = highest (own w s) (writes (w.known s k)) + 1 }

abbrev pub new_write : {V : Type 0} → World V → ℕ → ℕ → V → Write V
new_write w s k v = record { column = own w s; counter = highest (own w s) (writes (w.known s k)) + 1; value = v }

-- the world after an accepted put, which is owed a save
abbrev pub put_world : {V : Type 0} → World V → ℕ → ℕ → Events V → V → World V
put_world w s k C v = with_owed (learn w s k (join w.calls (w.known s k) C (Some (new_write w s k v)))) (set_key w.owed s k (Some w.calls))

-- Refused at the last counter; otherwise where four writes of the own column are known, uncovered and outside the context.
abbrev pub put_at : {V : Type 0} → World V → ℕ → ℕ → Events V → V → Step V
put_at w s k C v =
    cond (highest (own w s) (writes (w.known s k)) == last_counter) (to w (refused_by CounterExhausted))
    (cond (length (newest (own w s) (outside (writes C) (held (w.known s k)))) == most_siblings) (to w (refused_by TooManySiblings))
    (to (put_world w s k C v) (wrote (new_dot w s k))))

-- A refused or misnamed call changes nothing. `bytes_of` gives the bytes of a value.
unfoldable pub step : {V : Type 0} → (V → List ℕ) → World V → Call V → Step V
step bytes_of w (get s k) =
    cond (named s k) (to (hand_out w (context_of k (w.known s k))) (got (listing (w.known s k)) (context_bytes k (w.known s k)))) (to w misnamed)
step bytes_of w (put s k x v) = cond (named s k && nat_lt (w.life s) 4) (with_set w (context_for w k x) (λ C. put_at w s k C v)) (to w misnamed)
step bytes_of w (delete s k x) =
    cond (named s k) (with_set w (context_for w k x) (λ C. to (learn w s k (join w.calls (w.known s k) C None)) done)) (to w misnamed)
step bytes_of w (send s k) = cond (named s k) (to (hand_out w (frame_of k (w.known s k))) (sent (frame_bytes bytes_of k (w.known s k)))) (to w misnamed)
step bytes_of w (deliver s k t) =
    cond (named s k) (with_set w (frame_in k (w.given t)) (λ F. to (learn w s k (w.known s k ++ F)) done)) (to w misnamed)
step bytes_of w (save s k r left) =
    cond (named s k && spendable r (w.owed s k))
    (cond (nat_le (length (frame_bytes bytes_of k (w.known s k)) + 4) left) (to (with_owed (keep w s k) (spend r s k w.owed)) done)
    (to w (refused_by MediumFull)))
    (to w misnamed)
step bytes_of w (restart s) = cond (nat_lt s 6) (to (wake w s) (cond (nat_lt (next_life (w.life s)) 4) live mute)) (to w misnamed)

-- ---- lists of calls

-- the world once a call is over
abbrev pub next : {V : Type 0} → (V → List ℕ) → World V → Call V → World V
next bytes_of w c = tick (step bytes_of w c).world

abbrev pub after : {V : Type 0} → (V → List ℕ) → World V → List (Call V) → World V
after bytes_of w [] = w
after bytes_of w (c ∷ cs) = after bytes_of (next bytes_of w c) cs

abbrev pub answers : {V : Type 0} → (V → List ℕ) → World V → List (Call V) → List (Answer V)
answers bytes_of w [] = []
answers bytes_of w (c ∷ cs) = (step bytes_of w c).answer ∷ answers bytes_of (next bytes_of w c) cs

-- all seats in life 0, with nothing known and nothing saved
abbrev pub start : {V : Type 0} → World V
start = record { calls = 0; life = λ s. 0; known = λ s k. []; kept = λ s k. []; saved = λ s k. false; owed = λ s k. None; given = λ t. no_gift }
