-- The ways that a step of the machine can go, so that a proof names each once. Assumes nothing.
use Rattle.std.proofs.Common.{◌≡◌, ℕ, ◌+◌, ◌<◌, Bool, true, false, cond, ◌&&◌, eqb, ltb, leb, List, ◌++◌, length, Some, None, Option, refl}
use Rattle.std.proofs.lemmas.Bool.{and_parts, ltb-true, cond_both}
use Rattle.refusals.specs.declared.Refusal.{Refusal}
use Rattle.refusals.specs.declared.Refusal.TheVariants.{MediumFull}
use Rattle.dvvset.specs.Limits.{most_siblings, last_counter}
use Rattle.history.specs.Events.{Events, writes, outside, held, highest, newest}
use Rattle.history.specs.Calls.{Context, Receipt, Call, get, put, delete, send, deliver, save, restart, Answer, wrote, got, sent, done, refused_by, misnamed, named, spendable, spend}
use Rattle.history.specs.Shown.{listing, frame_bytes, context_bytes}
use Rattle.history.specs.Machine.{context_of, frame_of, World, own, learn, with_owed, hand_out, keep, wake, Step, to, context_for, frame_in, with_set, join, new_dot, put_world, step}

module _ {V : Type 0} where
  -- what an accepted put has found
  pub record Puttable (w : World V) (s k : ℕ) (C : Events V) : Type 0 where
    pub place : named s k ≡ true
    pub seat : s < 6
    pub alive : w.life s < 4
    pub counter_left : eqb (highest (own w s) (writes (w.known s k))) last_counter ≡ false
    pub room : eqb (length (newest (own w s) (outside (writes C) (held (w.known s k))))) most_siblings ≡ false

  -- P holds of whatever a call comes to
  pub record Ways (bytes_of : V → List ℕ) (w : World V) (P : Step V → Type 0) : Type 0 where
    pub refuses : (e : Refusal) → P (to w (refused_by e))
    pub misnames : P (to w misnamed)
    pub gets : (s k : ℕ) → P (to (hand_out w (context_of k (w.known s k))) (got (listing (w.known s k)) (context_bytes k (w.known s k))))
    pub sends : (s k : ℕ) → P (to (hand_out w (frame_of k (w.known s k))) (sent (frame_bytes bytes_of k (w.known s k))))
    pub puts : (s k : ℕ) (x : Context) (v : V) (C : Events V) → context_for w k x ≡ Some C → Puttable w s k C → P (to (put_world w s k C v) (wrote (new_dot w s k)))
    pub deletes : (s k : ℕ) (x : Context) (C : Events V) → context_for w k x ≡ Some C → P (to (learn w s k (join w.calls (w.known s k) C None)) done)
    pub delivers : (s k t : ℕ) (F : Events V) → frame_in k (w.given t) ≡ Some F → P (to (learn w s k (w.known s k ++ F)) done)
    pub saves : (s k : ℕ) (r : Receipt) → P (to (with_owed (keep w s k) (spend r s k w.owed)) done)
    pub wakes : (s : ℕ) (a : Answer V) → P (to (wake w s) a)

  module _ (w : World V) (P : Step V → Type 0) (refuses : (e : Refusal) → P (to w (refused_by e))) (misnames : P (to w misnamed)) where
    when : (b : Bool) (x : Step V) → (b ≡ true → P x) → P (cond b x (to w misnamed))
    when b x p = cond_both b x (to w misnamed) P p (λ e. misnames)

    given : (o : Option (Events V)) (f : Events V → Step V) → ((C : Events V) → o ≡ Some C → P (f C)) → P (with_set w o f)
    given None f p = misnames
    given (Some C) f p = p C refl

    -- the ways of a put
    pub by_put : (bytes_of : V → List ℕ) (s k : ℕ) (x : Context) (v : V) → ((C : Events V) → context_for w k x ≡ Some C → Puttable w s k C → P (to (put_world w s k C v) (wrote (new_dot w s k)))) → P (step bytes_of w (put s k x v))
    unfolding step
    by_put bytes_of s k x v puts =
        when (named s k && ltb (w.life s) 4) _ (λ e. given (context_for w k x) _ (λ C c.
        let alive = and_parts (named s k) (ltb (w.life s) 4) e in
        cond_both _ _ _ P (λ h. refuses _) (λ h. cond_both _ _ _ P (λ l. refuses _) (λ l.
        puts C c (record {
          place = alive.0;
          seat = ltb-true s 6 (and_parts (ltb s 6) (ltb k 16) alive.0).0;
          alive = ltb-true (w.life s) 4 alive.1;
          counter_left = h;
          room = l;
        })))))

  -- the ways of any call
  module _ (bytes_of : V → List ℕ) (w : World V) (P : Step V → Type 0) (ways : Ways bytes_of w P) where
    abbrev r : (e : Refusal) → P (to w (refused_by e))
    r = ways.refuses

    abbrev m : P (to w misnamed)
    m = ways.misnames

    pub by_step : (c : Call V) → P (step bytes_of w c)
    unfolding step
    by_step (get s k) = when w P r m (named s k) _ (λ e. ways.gets s k)
    by_step (put s k x v) = by_put w P r m bytes_of s k x v (ways.puts s k x v)
    by_step (delete s k x) = when w P r m (named s k) _ (λ e. given w P r m (context_for w k x) _ (λ C c. ways.deletes s k x C c))
    by_step (send s k) = when w P r m (named s k) _ (λ e. ways.sends s k)
    by_step (deliver s k t) = when w P r m (named s k) _ (λ e. given w P r m (frame_in k (w.given t)) _ (λ F c. ways.delivers s k t F c))
    by_step (save s k x left) =
        when w P r m (named s k && spendable x (w.owed s k)) _ (λ e.
        cond_both (leb (length (frame_bytes bytes_of k (w.known s k)) + 4) left) _ _ P (λ f. ways.saves s k x) (λ f. r MediumFull))
    by_step (restart s) = when w P r m (ltb s 6) _ (λ e. ways.wakes s _)
