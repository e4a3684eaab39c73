-- The clocks take each step that the machine takes. Assumes nothing.
use Rattle.std.proofs.Common.{◌≡◌, ℕ, ◌+◌, ◌<◌, Bool, true, false, cond, ◌&&◌, eqb, ltb, leb, List, length, Some, None, Option, sym, refl, ap, ◌∙◌, ap₂, arith}
use mathlib.Core.Path.{fun_ext}
use Rattle.std.proofs.lemmas.Bool.{and_parts, ltb-true}
use Rattle.refusals.specs.declared.Refusal.TheVariants.{TooManySiblings, CounterExhausted, MediumFull}
use Rattle.dvvset.specs.Limits.{columns, most_siblings, last_counter}
use Rattle.dvvset.specs.Clock.{refused, accepted, put as clock_put}
use Rattle.formats.specs.Frames.{context_frame}
use Rattle.history.specs.Events.{Write, Events, writes, outside, held, highest, newest, tops}
use Rattle.history.specs.Calls.{Context, blind, seen_at, Call, get, put, delete, send, deliver, save, restart, Answer, wrote, got, sent, done, live, mute, refused_by, misnamed, named, next_life, spendable, spend, set_at, set_key}
use Rattle.history.specs.Shown.{shown, listing, frame_bytes}
use Rattle.history.specs.Machine as machine
use Rattle.history.specs.Machine.{Gift, World, own, learn, hand_out, keep, wake, Step, to, context_in, context_for, frame_in, with_set, join, put_at, new_write, put_world, step, start}
use Rattle.history.specs.Clocks as clocks
use Rattle.history.specs.Clocks.{ClockGift, ClockWorld, ClockStep, clock_to, clock_learn, clock_with_owed, clock_hand_out, clock_keep, clock_wake, clock_context_in, clock_context_for, clock_frame_in, with_named, settle, clock_step, clock_start}
use Rattle.history.proofs.Keys.{SoundSet, context_is, siblings_is, deliver_is, delete_is, put_is}
use Rattle.history.proofs.Good.{Good, context_fits, frame_fits}

cond_map : {A B : Type 0} (f : A → B) (b : Bool) (x y : A) → f (cond b x y) ≡ cond b (f x) (f y)
cond_map f true x y = refl
cond_map f false x y = refl

-- f of each entry of a table, before and after one is set
set_at-map : {A B : Type 0} (f : A → B) (g : ℕ → A) (i : ℕ) (x : A) → set_at (λ j. f (g j)) i (f x) ≡ (λ j. f (set_at g i x j))
set_at-map f g i x = fun_ext (λ j. sym (cond_map f (eqb j i) x (g j)))

set_key-map : {A B : Type 0} (f : A → B) (g : ℕ → ℕ → A) (s k : ℕ) (x : A) → set_key (λ r j. f (g r j)) s k (f x) ≡ (λ r j. f (set_key g s k x r j))
set_key-map f g s k x =
    ap (set_at (λ r j. f (g r j)) s) (set_at-map f (g s) k x) ∙ set_at-map (λ h j. f (h j)) g s (set_at (g s) k x)

abbrev map_option : {A B : Type 0} → (A → B) → Option A → Option B
map_option f None = None
map_option f (Some x) = Some (f x)

module _ {V : Type 0} where
  abbrev pub image_gift : Gift V → ClockGift V
  image_gift machine.no_gift = clocks.no_gift
  image_gift (machine.context_of k K) = clocks.context_of k (tops K)
  image_gift (machine.frame_of k K) = clocks.frame_of k (shown K)

  -- the machine's world with what each set shows in its place
  abbrev pub image : World V → ClockWorld V
  image w =
      record {
        calls = w.calls;
        life = w.life;
        known = λ s k. shown (w.known s k);
        kept = λ s k. shown (w.kept s k);
        saved = w.saved;
        owed = w.owed;
        given = λ t. image_gift (w.given t);
      }

  abbrev pub image_step : Step V → ClockStep V
  image_step r = record { world = image r.world; answer = r.answer }

  pub image-start : image start ≡ clock_start
  unfolding shown
  image-start = refl

  module _ (w : World V) where
    image_learn : (s k : ℕ) (X : Events V) → clock_learn (image w) s k (shown X) ≡ image (learn w s k X)
    image_learn s k X =
        ap (λ f. record { calls = w.calls; life = w.life; known = f; kept = λ s k. shown (w.kept s k); saved = w.saved; owed = w.owed; given = λ t. image_gift (w.given t) })
        (set_key-map shown w.known s k X)

    image_hand_out : (g : Gift V) → clock_hand_out (image w) (image_gift g) ≡ image (hand_out w g)
    image_hand_out g =
        ap (λ f. record { calls = w.calls; life = w.life; known = λ s k. shown (w.known s k); kept = λ s k. shown (w.kept s k); saved = w.saved; owed = w.owed; given = f })
        (set_at-map image_gift w.given w.calls g)

    image_keep : (s k : ℕ) → clock_keep (image w) s k ≡ image (keep w s k)
    image_keep s k =
        ap (λ f. record { calls = w.calls; life = w.life; known = λ s k. shown (w.known s k); kept = f; saved = set_key w.saved s k true; owed = w.owed; given = λ t. image_gift (w.given t) })
        (set_key-map shown w.kept s k (w.known s k))

    image_wake : (s : ℕ) → clock_wake (image w) s ≡ image (wake w s)
    image_wake s =
        ap (λ f. record { calls = w.calls; life = set_at w.life s (next_life (w.life s)); known = f; kept = λ s k. shown (w.kept s k); saved = w.saved; owed = set_at w.owed s (λ k. None); given = λ t. image_gift (w.given t) })
        (set_at-map (λ h k. shown (h k)) w.known s (w.kept s))

    -- what a call names
    image_context : (k : ℕ) (x : Context) → clock_context_for (image w) k x ≡ map_option tops (context_for w k x)
    image_context k blind = refl
    image_context k (seen_at t) = go (w.given t)
      where
        go : (g : Gift V) → clock_context_in k (image_gift g) ≡ map_option tops (context_in k g)
        go machine.no_gift = refl
        go (machine.context_of j K) = sym (cond_map (map_option tops) (eqb j k) (Some K) None)
        go (machine.frame_of j K) = refl

    image_frame : (k t : ℕ) → clock_frame_in k (image_gift (w.given t)) ≡ map_option shown (frame_in k (w.given t))
    image_frame k t = go (w.given t)
      where
        go : (g : Gift V) → clock_frame_in k (image_gift g) ≡ map_option shown (frame_in k g)
        go machine.no_gift = refl
        go (machine.context_of j K) = refl
        go (machine.frame_of j K) = sym (cond_map (map_option shown) (eqb j k) (Some K) None)

    image_with : {A : Type 0} (f : Events V → A) (o : Option (Events V)) (p : Option A) (d : A → ClockStep V) (m : Events V → Step V) → p ≡ map_option f o → ((C : Events V) → o ≡ Some C → d (f C) ≡ image_step (m C)) → with_named (image w) p d ≡ image_step (with_set w o m)
    image_with f None p d m e each = ap (λ q. with_named (image w) q d) e
    image_with f (Some C) p d m e each = ap (λ q. with_named (image w) q d) e ∙ each C refl

    -- a step that is taken where b is true
    image_when : (b : Bool) (x : ClockStep V) (y : Step V) (a : Answer V) → (b ≡ true → x ≡ image_step y) → cond b x (clock_to (image w) a) ≡ image_step (cond b y (to w a))
    image_when true x y a h = h refl
    image_when false x y a h = refl

  module _ (bytes_of : V → List ℕ) (w : World V) (good : Good w) where
    abbrev H : ℕ → List (Write V)
    H = good.all-writes

    sound_of : (s k : ℕ) → SoundSet (H k) (w.known s k)
    sound_of s k = (good.inv.knows s k).sound

    context_sound : (k : ℕ) (x : Context) (C : Events V) → context_for w k x ≡ Some C → SoundSet (H k) C
    context_sound k x C c = (context_fits H good.all_events w.calls w good.inv k x C c).sound

    putting : (s k : ℕ) (x : Context) (v : V) → named s k ≡ true → ltb (w.life s) 4 ≡ true → (C : Events V) → context_for w k x ≡ Some C
        → settle (image w) s k (clock_put (own w s) (tops C) v (shown (w.known s k))) ≡ image_step (put_at w s k C v)
    putting s k x v e l C c =
        ap (settle (image w) s k) (put_is (H k) (good.inv.full k) w.calls (own w s) (w.known s k) C (sound_of s k) (context_sound k x C c) (good.inv.mine s k alive) v inside)
        ∙ go (eqb top last_counter) (eqb (length (newest (own w s) (outside (writes C) (held (w.known s k))))) most_siblings)
      where
        alive : w.life s < 4
        alive = ltb-true (w.life s) 4 l

        inside : own w s < columns
        inside = omega (arith, alive, ltb-true s 6 (and_parts (ltb s 6) (ltb k 16) e).0)

        top : ℕ
        top = highest (own w s) (writes (w.known s k))

        after_put : Events V
        after_put = join w.calls (w.known s k) C (Some (new_write w s k v))

        go : (a b : Bool) → settle (image w) s k (cond a (refused CounterExhausted) (cond b (refused TooManySiblings) (accepted (record { column = own w s; counter = top + 1 }) (shown after_put))))
            ≡ image_step (cond a (to w (refused_by CounterExhausted)) (cond b (to w (refused_by TooManySiblings)) (to (put_world w s k C v) (wrote (record { column = own w s; counter = top + 1 })))))
        go true b = refl
        go false true = refl
        go false false = ap (λ D. clock_to (clock_with_owed D (set_key w.owed s k (Some w.calls))) (wrote (record { column = own w s; counter = top + 1 }))) (image_learn w s k after_put)

    pub image_of_step : (c : Call V) → clock_step bytes_of (image w) c ≡ image_step (step bytes_of w c)
    unfolding clock_step step
    image_of_step (get s k) =
        image_when w (named s k) _ _ misnamed (λ e.
        ap₂ (λ C xs. clock_to (clock_hand_out (image w) (clocks.context_of k C)) (got xs (context_frame k C))) (context_is (w.known s k)) (siblings_is (H k) (good.inv.full k) (w.known s k) (sound_of s k))
        ∙ ap (λ D. clock_to D (got (listing (w.known s k)) (context_frame k (tops (w.known s k))))) (image_hand_out w (machine.context_of k (w.known s k))))
    image_of_step (put s k x v) = go (named s k) refl (ltb (w.life s) 4) refl
      where
        go : (a : Bool) → named s k ≡ a → (b : Bool) → ltb (w.life s) 4 ≡ b
            → cond a (with_named (image w) (cond b (Some (own w s)) None) (λ o. with_named (image w) (clock_context_for (image w) k x) (λ C. settle (image w) s k (clock_put o C v (shown (w.known s k)))))) (clock_to (image w) misnamed)
            ≡ image_step (cond (a && b) (with_set w (context_for w k x) (λ C. put_at w s k C v)) (to w misnamed))
        go false e b l = refl
        go true e false l = refl
        go true e true l = image_with w tops (context_for w k x) (clock_context_for (image w) k x) _ _ (image_context w k x) (putting s k x v e l)
    image_of_step (delete s k x) =
        image_when w (named s k) _ _ misnamed (λ e. image_with w tops (context_for w k x) (clock_context_for (image w) k x) _ _ (image_context w k x) (λ C c.
        ap (λ D. clock_to D done) (ap (clock_learn (image w) s k) (delete_is (H k) (good.inv.full k) w.calls (w.known s k) C (sound_of s k) (context_sound k x C c)) ∙ image_learn w s k _)))
    image_of_step (send s k) = image_when w (named s k) _ _ misnamed (λ e. ap (λ D. clock_to D (sent (frame_bytes bytes_of k (w.known s k)))) (image_hand_out w (machine.frame_of k (w.known s k))))
    image_of_step (deliver s k t) =
        image_when w (named s k) _ _ misnamed (λ e. image_with w shown (frame_in k (w.given t)) _ _ _ (image_frame w k t) (λ F c.
        ap (λ D. clock_to D done) (ap (clock_learn (image w) s k) (deliver_is (H k) (good.inv.full k) (w.known s k) F (sound_of s k) (frame_fits H good.all_events w.calls w good.inv k t F c).sound) ∙ image_learn w s k _)))
    image_of_step (save s k r left) =
        image_when w (named s k && spendable r (w.owed s k)) _ _ misnamed (λ e.
        image_when w (leb (length (frame_bytes bytes_of k (w.known s k)) + 4) left) _ _ (refused_by MediumFull) (λ l.
        ap (λ D. clock_to (clock_with_owed D (spend r s k w.owed)) done) (image_keep w s k)))
    image_of_step (restart s) = image_when w (ltb s 6) _ _ misnamed (λ e. ap (λ D. clock_to D (cond (ltb (next_life (w.life s)) 4) live mute)) (image_wake w s))
