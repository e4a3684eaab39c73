-- What a good world is worth. Assumes nothing.
use Rattle.std.proofs.Common.{◌≡◌, ℕ, ◌+◌, ◌*◌, ◌<◌, ◌≤◌, Bool, true, false, cond, ltb, List, [], ◌∷◌, get_or, refl, ap, ◌∙◌, subst, ap₂, arith}
use Rattle.std.specs.List.{ContainsAt as Has}
use Rattle.std.proofs.ByRecursion.{all-has}
use Rattle.std.proofs.lemmas.Bool.{ltb-false}
use Rattle.dvvset.specs.Limits.{columns}
use Rattle.dvvset.specs.Clock.{column_at}
use Rattle.history.specs.Events.{Write, Event, Events, writes, highest, the, tops}
use Rattle.history.specs.Calls.{next_life}
use Rattle.history.specs.Shown.{shown}
use Rattle.history.specs.Machine.{World, own}
use Rattle.history.specs.Refines.{InPlay, is_known, is_kept, was_seen, was_sent, Sane}
use Rattle.history.proofs.Columns.{Named}
use Rattle.history.proofs.Tables.{at_column}
use Rattle.history.proofs.Keys.{shown_at, same_members, legal_shown}
use Rattle.history.proofs.Listed.{listed_held}
use Rattle.history.proofs.Good.{Own, Fit, FitGift, Inv, Good}

module _ {V : Type 0} (H : ℕ → List (Write V)) (E : ℕ → Event V) (n : ℕ) (w : World V) (inv : Inv H E n w) where
  pub fit_in_play : (k : ℕ) (K : Events V) → InPlay w k K → Fit (H k) E n K
  fit_in_play k K (is_known s e) = subst (Fit (H k) E n) e (inv.knows s k)
  fit_in_play k K (is_kept s e) = subst (Fit (H k) E n) e (inv.keeps s k)
  fit_in_play k K (was_seen t e) = subst (FitGift H E n) e (inv.gave t)
  fit_in_play k K (was_sent t e) = subst (FitGift H E n) e (inv.gave t)

  its_event : (k : ℕ) (K : Events V) → InPlay w k K → (e : Event V) → Has K e → E e.made_at ≡ e
  its_event k K p e h = (all-has (Own E n) K e (fit_in_play k K p).traced h).0

  its_write : (k : ℕ) (K : Events V) → InPlay w k K → (x : Write V) → Has (writes K) x → the x.column x.counter (H k) ≡ x ∷ []
  its_write k K p x h = (all-has (Named (H k)) (writes K) x (fit_in_play k K p).sound.real h).0

  sane_in : Sane w
  sane_in =
      record {
        one_event = λ i j K L p q d e f g same. let a = its_event i K p d f in let b = its_event j L q e g in cc;
        one_write = λ k K L p q x y f g c m.
            let a = its_write k K p x f in
            let b = its_write k L q y g in
            let e : the x.column x.counter (H k) ≡ the y.column y.counter (H k) = ap₂ (λ i j. the i j (H k)) c m in
            cc;
        same_shown = λ k K L p q m. same_members (H k) (inv.full k) K L (fit_in_play k K p).sound (fit_in_play k L q).sound m.0 m.1;
        all_listed = λ k K p. listed_held (H k) K (fit_in_play k K p).sound;
        own_top = λ s k K alive p. omega (arith, inv.mine s k alive, (fit_in_play k K p).sound.within (own w s));
        unwritten = λ s l k K after under p. omega (arith, inv.later s k l after under, (fit_in_play k K p).sound.within (4 * s + l));
        kept_known = inv.within;
        unsaved = inv.unsaved;
        last_life = inv.last_life;
        legal = λ k K p. legal_shown (H k) (inv.full k) K (fit_in_play k K p).sound (inv.bounded k);
      }

pub sane : {V : Type 0} (w : World V) → Good w → Sane w
sane w good = sane_in good.all-writes good.all_events w.calls w good.inv

-- ---- the same of states: why no frame, context or waking is refused for its own column

module _ {V : Type 0} (w : World V) (good : Good w) (s k : ℕ) (seat : s < 6) where
  -- the top of the seat's column in the life l
  abbrev pub top_in : ℕ → Events V → ℕ
  top_in l K = (column_at (shown K) (4 * s + l)).top

  top_is : (l : ℕ) (K : Events V) → l < 4 → top_in l K ≡ highest (4 * s + l) (writes K)
  top_is l K h = ap (λ a. a.top) (shown_at K (4 * s + l) (omega (arith, h)))

  module _ (alive : w.life s < 4) (K : Events V) (p : InPlay w k K) where
    pub frame_allowed : top_in (w.life s) K ≤ top_in (w.life s) (w.known s k)
    frame_allowed = omega (arith, top_is (w.life s) K alive, top_is (w.life s) (w.known s k) alive, (sane w good).own_top s k K alive p)

    pub context_allowed : get_or (tops K) (own w s) 0 ≤ top_in (w.life s) (w.known s k)
    context_allowed =
        let inside : own w s < columns = omega arith in
        omega (arith, at_column (λ c. highest c (writes K)) (own w s) 0 inside, top_is (w.life s) (w.known s k) alive, (sane w good).own_top s k K alive p)

  -- what was saved has nothing in the column of the next life
  pub waking_allowed : next_life (w.life s) < 4 → top_in (next_life (w.life s)) (w.kept s k) ≡ 0
  waking_allowed = go (ltb (w.life s) 4) refl
    where
      go : (b : Bool) → ltb (w.life s) 4 ≡ b → cond b (w.life s + 1) (w.life s) < 4 → top_in (cond b (w.life s + 1) (w.life s)) (w.kept s k) ≡ 0
      go true e l = top_is (w.life s + 1) (w.kept s k) l ∙ (sane w good).unwritten s (w.life s + 1) k (w.kept s k) (omega arith) l (is_kept s refl)
      go false e l = absurd (omega (arith, ltb-false (w.life s) 4 e))
