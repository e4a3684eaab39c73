-- Lists of calls, one call after another. Assumes nothing.
use Rattle.std.proofs.Common.{◌≡◌, ℕ, suc, ◌+◌, ◌-◌, ◌<◌, ◌≤◌, Bool, true, false, cond, ◌&&◌, eqb, leb, List, [], ◌∷◌, ◌++◌, length, get_or, sym, refl, ap, ◌∙◌, subst, ap₂, ⊎_elim, arith}
use Rattle.std.proofs.ByRecursion.{all_has_itself}
use Rattle.std.proofs.lemmas.Bool.{eq-eqb, ne_eqb, cond-true, cond-false, cases_eq}
use Rattle.refusals.specs.declared.Refusal.TheVariants.{MediumFull}
use Rattle.formats.specs.Frames.{frame}
use Rattle.history.specs.Events.{Events}
use Rattle.history.specs.Calls.{Receipt, Call, save, Answer, sent, done, refused_by, misnamed, named, spendable, spend}
use Rattle.history.specs.Shown.{frame_bytes}
use Rattle.history.specs.Machine.{Gift, no_gift, context_of, frame_of, World, with_owed, keep, Step, to, step, next, after, answers, start}
use Rattle.history.specs.Clocks.{ClockStep, clock_tick, clock_after, clock_answers, clock_start}
use Rattle.history.specs.Refines.{Within, was_sent, NothingForgotten, Refines}
use Rattle.history.proofs.Cases.{Ways, by_step}
use Rattle.history.proofs.Good.{set_key_same, set_key-all, within_all, Good, good_start, good-step}
use Rattle.history.proofs.Sane.{sane}
use Rattle.history.proofs.Image.{image, image-start, image_of_step}

module _ {V : Type 0} (bytes_of : V → List ℕ) where
  -- ---- a list and one more

  pub after-append : (w : World V) (xs ys : List (Call V)) → after bytes_of w (xs ++ ys) ≡ after bytes_of (after bytes_of w xs) ys
  after-append w [] ys = refl
  after-append w (x ∷ xs) ys = after-append (next bytes_of w x) xs ys

  pub after_push : (w : World V) (cs : List (Call V)) (c : Call V) → after bytes_of w (cs ++ c ∷ []) ≡ next bytes_of (after bytes_of w cs) c
  after_push w cs c = after-append w cs (c ∷ [])

  pub answers_push : (w : World V) (cs : List (Call V)) (c : Call V) → answers bytes_of w (cs ++ c ∷ []) ≡ answers bytes_of w cs ++ (step bytes_of (after bytes_of w cs) c).answer ∷ []
  answers_push w [] c = refl
  answers_push w (x ∷ xs) c = ap (λ more. (step bytes_of w x).answer ∷ more) (answers_push (next bytes_of w x) xs c)

  pub good-after : (w : World V) → Good w → (cs : List (Call V)) → Good (after bytes_of w cs)
  good-after w good [] = good
  good-after w good (c ∷ cs) = good-after (next bytes_of w c) (good-step bytes_of w good c) cs

  -- ---- the clocks

  pub image_of_run : (w : World V) → Good w → (cs : List (Call V)) → (clock_after bytes_of (image w) cs ≡ image (after bytes_of w cs)) × (clock_answers bytes_of (image w) cs ≡ answers bytes_of w cs)
  image_of_run w good [] = (refl, refl)
  image_of_run w good (c ∷ cs) =
      let e = image_of_step bytes_of w good c in
      let rest = image_of_run (next bytes_of w c) (good-step bytes_of w good c) cs in (
        ap (λ (r : ClockStep V). clock_after bytes_of (clock_tick r.world) cs) e ∙ rest.0,
        ap (λ (r : ClockStep V). r.answer ∷ clock_answers bytes_of (clock_tick r.world) cs) e ∙ ap (λ more. (step bytes_of w c).answer ∷ more) rest.1,
      )

  -- ---- what is saved

  pub kept_grows : (w : World V) → Good w → (c : Call V) (s k : ℕ) → Within (w.kept s k) ((next bytes_of w c).kept s k)
  kept_grows w good = by_step bytes_of w (λ r. (s k : ℕ) → Within (w.kept s k) (r.world.kept s k)) ways
    where
      same : (s k : ℕ) → Within (w.kept s k) (w.kept s k)
      same s k = all_has_itself (w.kept s k)

      ways : Ways bytes_of w (λ r. (s k : ℕ) → Within (w.kept s k) (r.world.kept s k))
      ways =
          record {
            refuses = λ e. same;
            misnames = same;
            gets = λ s k. same;
            sends = λ s k. same;
            puts = λ s k x v C c p. same;
            deletes = λ s k x C c. same;
            delivers = λ s k t F c. same;
            saves = λ s k r. set_key-all (λ i j K. Within (w.kept i j) K) w.kept s k (w.known s k) (good.inv.within s k) same;
            wakes = λ s a. same;
          }

  pub kept_lasts : (w : World V) → Good w → (cs : List (Call V)) (s k : ℕ) → Within (w.kept s k) ((after bytes_of w cs).kept s k)
  kept_lasts w good [] s k = all_has_itself (w.kept s k)
  kept_lasts w good (c ∷ cs) s k =
      within_all (w.kept s k) ((next bytes_of w c).kept s k) _ (kept_grows w good c s k) (kept_lasts (next bytes_of w c) (good-step bytes_of w good c) cs s k)

  -- an accepted save keeps what is known
  pub saved_now : (w : World V) (s k : ℕ) (r : Receipt) (left : ℕ) → (step bytes_of w (save s k r left)).answer ≡ done → (next bytes_of w (save s k r left)).kept s k ≡ w.known s k
  unfolding step
  saved_now w s k r left = go (named s k && spendable r (w.owed s k)) (leb (length (frame_bytes bytes_of k (w.known s k)) + 4) left)
    where
      saving : Step V
      saving = to (with_owed (keep w s k) (spend r s k w.owed)) done

      go : (a b : Bool) → (cond a (cond b saving (to w (refused_by MediumFull))) (to w misnamed)).answer ≡ done → (cond a (cond b saving (to w (refused_by MediumFull))) (to w misnamed)).world.kept s k ≡ w.known s k
      go true true e = set_key_same w.kept s k (w.known s k)
      go true false e = let z : ◌≡◌ {A = ℕ} 0 1 = cc in absurd (omega arith)
      go false b e = let z : ◌≡◌ {A = ℕ} 0 1 = cc in absurd (omega arith)

  pub nothing_forgotten : NothingForgotten bytes_of
  nothing_forgotten before more s k r left e =
      let w = after bytes_of start before in
      let good = good-after start good_start before in
      let v = next bytes_of w (save s k r left) in
      let u = after bytes_of v more in
      let good_v = good-step bytes_of w good (save s k r left) in
      let p : Within (w.known s k) (u.kept s k) = subst (λ K. Within K (u.kept s k)) (saved_now w s k r left e) (kept_lasts v good_v more s k) in
      let q : Within (w.known s k) (u.known s k) = within_all (w.known s k) (u.kept s k) (u.known s k) p ((good-after v good_v more).inv.within s k) in
      subst (λ x. Within (w.known s k) (x.known s k)) (sym (after-append start before (save s k r left ∷ more))) q

  -- ---- what is handed out

  -- a step hands out at most one frame, under the number of its call, and that is what it answers
  record Handed (w : World V) (r : Step V) : Type 0 where
    same_calls : r.world.calls ≡ w.calls
    old : (t : ℕ) → (t ≡ w.calls → ⊥) → r.world.given t ≡ w.given t
    new : (k : ℕ) (K : Events V) → w.given w.calls ≡ no_gift → r.world.given w.calls ≡ frame_of k K → r.answer ≡ sent (frame_bytes bytes_of k K)

  handed : (w : World V) (c : Call V) → Handed w (step bytes_of w c)
  handed w = by_step bytes_of w (Handed w) ways
    where
      none : (r : Step V) → r.world.calls ≡ w.calls → r.world.given ≡ w.given → Handed w r
      none r e f =
          record {
            same_calls = e;
            old = λ t d. ap (λ g. g t) f;
            new = λ k K n h. let p : r.world.given w.calls ≡ w.given w.calls = ap (λ g. g w.calls) f in let z : ◌≡◌ {A = ℕ} 0 1 = cc in absurd (omega arith);
          }

      elsewhere : (g : Gift V) (t : ℕ) → (t ≡ w.calls → ⊥) → cond (eqb t w.calls) g (w.given t) ≡ w.given t
      elsewhere g t d = cond-false (eqb t w.calls) g (w.given t) (ne_eqb t w.calls d)

      here : (g : Gift V) → cond (eqb w.calls w.calls) g (w.given w.calls) ≡ g
      here g = cond-true (eqb w.calls w.calls) g (w.given w.calls) (eq-eqb w.calls w.calls refl)

      ways : Ways bytes_of w (Handed w)
      ways =
          record {
            refuses = λ e. none _ refl refl;
            misnames = none _ refl refl;
            gets = λ s k. record {
              same_calls = refl;
              old = elsewhere _;
              new = λ j K n h. let p = here (context_of k (w.known s k)) in let z : ◌≡◌ {A = ℕ} 0 1 = cc in absurd (omega arith);
            };
            sends = λ s k. record {
              same_calls = refl;
              old = elsewhere _;
              new = λ j K n h. let p = here (frame_of k (w.known s k)) in
                  let a : k ≡ j = cc in
                  let b : w.known s k ≡ K = cc in
                  ap₂ (λ x y. sent (frame_bytes bytes_of x y)) a b;
            };
            puts = λ s k x v C c p. none _ refl refl;
            deletes = λ s k x C c. none _ refl refl;
            delivers = λ s k t F c. none _ refl refl;
            saves = λ s k r. none _ refl refl;
            wakes = λ s a. none _ refl refl;
          }

  next_calls : (w : World V) (c : Call V) → (next bytes_of w c).calls ≡ w.calls + 1
  next_calls w c = ap (λ n. n + 1) (handed w c).same_calls

  pub calls_after : (w : World V) (cs : List (Call V)) → (after bytes_of w cs).calls ≡ w.calls + length cs
  calls_after w [] = omega arith
  calls_after w (c ∷ cs) = omega (arith, calls_after (next bytes_of w c) cs, next_calls w c)

  pub given_lasts : (w : World V) (cs : List (Call V)) (t : ℕ) → t < w.calls → (after bytes_of w cs).given t ≡ w.given t
  given_lasts w [] t l = refl
  given_lasts w (c ∷ cs) t l = given_lasts (next bytes_of w c) cs t (omega (arith, next_calls w c)) ∙ (handed w c).old t (λ e. omega arith)

  abbrev Fresh : World V → Type 0
  Fresh w = (t : ℕ) → w.calls ≤ t → w.given t ≡ no_gift

  fresh_next : (w : World V) → Fresh w → (c : Call V) → Fresh (next bytes_of w c)
  fresh_next w fresh c t l = (handed w c).old t (λ e. omega (arith, next_calls w c)) ∙ fresh t (omega (arith, next_calls w c))

  sent_from : (w : World V) → Fresh w → (cs : List (Call V)) (t k : ℕ) (K : Events V) → w.calls ≤ t → (after bytes_of w cs).given t ≡ frame_of k K → get_or (answers bytes_of w cs) (t - w.calls) misnamed ≡ sent (frame_bytes bytes_of k K)
  sent_from w fresh [] t k K l e = let f = fresh t l in let z : ◌≡◌ {A = ℕ} 0 1 = cc in absurd (omega arith)
  sent_from w fresh (c ∷ cs) t k K l e = ⊎_elim here (λ d. there d (sent_from (next bytes_of w c) (fresh_next w fresh c) cs t k K (omega (arith, next_calls w c)) e)) (cases_eq t w.calls)
    where
      answer : Answer V
      answer = (step bytes_of w c).answer

      rest : List (Answer V)
      rest = answers bytes_of (next bytes_of w c) cs

      here : t ≡ w.calls → get_or (answer ∷ rest) (t - w.calls) misnamed ≡ sent (frame_bytes bytes_of k K)
      here p =
          let z : t - w.calls ≡ 0 = omega arith in
          let q : (step bytes_of w c).world.given w.calls ≡ frame_of k K =
          ap (step bytes_of w c).world.given (sym p) ∙ sym (given_lasts (next bytes_of w c) cs t (omega (arith, next_calls w c))) ∙ e in
          ap (λ i. get_or (answer ∷ rest) i misnamed) z ∙ (handed w c).new k K (fresh w.calls (omega arith)) q

      there : (t ≡ w.calls → ⊥) → get_or rest (t - (next bytes_of w c).calls) misnamed ≡ sent (frame_bytes bytes_of k K) → get_or (answer ∷ rest) (t - w.calls) misnamed ≡ sent (frame_bytes bytes_of k K)
      there d ih =
          let z : t - w.calls ≡ suc (t - (next bytes_of w c).calls) = omega (arith, next_calls w c) in
          ap (λ i. get_or (answer ∷ rest) i misnamed) z ∙ ih

  pub sent_bytes : (cs : List (Call V)) (t k : ℕ) (K : Events V) → (after bytes_of start cs).given t ≡ frame_of k K → get_or (answers bytes_of start cs) t misnamed ≡ sent (frame_bytes bytes_of k K)
  sent_bytes cs t k K e =
      let z : t - 0 ≡ t = omega arith in
      ap (λ i. get_or (answers bytes_of start cs) i misnamed) (sym z) ∙ sent_from start (λ t l. refl) cs t k K (omega arith) e

pub refines : (V : Type 0) → Refines V
refines V =
    record {
      refined = λ bytes_of calls.
          let good = good-after bytes_of start good_start calls in
          let run = image_of_run bytes_of start good_start calls in
          let world : clock_after bytes_of clock_start calls ≡ image (after bytes_of start calls) = ap (λ D. clock_after bytes_of D calls) (sym image-start) ∙ run.0 in
          record {
            same_answers = ap (λ D. clock_answers bytes_of D calls) (sym image-start) ∙ run.1;
            shows = record { lives = λ s. ap (λ D. D.life s) world; known = λ s k. ap (λ D. D.known s k) world; kept = λ s k. ap (λ D. D.kept s k) world };
            sane = sane (after bytes_of start calls) good;
            sent_bytes = sent_bytes bytes_of calls;
            equal_bytes = λ t u k K L p q same.
                sent_bytes bytes_of calls t k K p
                ∙ ap (λ S. sent (frame bytes_of k S)) ((sane (after bytes_of start calls) good).same_shown k K L (was_sent t p) (was_sent u q) same)
                ∙ sym (sent_bytes bytes_of calls u k L q);
          };
      nothing_forgotten = λ bytes_of. nothing_forgotten bytes_of;
    }
