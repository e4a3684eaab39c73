-- What every call keeps true of the machine's world. Assumes nothing.
use Rattle.std.proofs.Common.{◌≡◌, ℕ, ◌+◌, ◌*◌, ◌<◌, ◌≤◌, max, Bool, true, false, cond, eqb, ltb, List, [], ◌∷◌, ◌++◌, Some, None, Option, sym, refl, ap, ◌∙◌, subst, arith}
use Rattle.std.specs.List.{ContainsAt as Has, AllByRecursion}
use Rattle.std.proofs.ByRecursion.{All-weaker, all-has, all_has_itself, All-append, has_append_left}
use Rattle.std.proofs.lemmas.Bool.{eqb-true, eqb-false, eq-eqb, ne_eqb, ltb-true, ltb-false, cond-true, cond-false, cond_both}
use Rattle.dvvset.specs.Limits.{columns, last_counter}
use Rattle.history.specs.Events.{Write, Event, Events, writes, covered, highest}
use Rattle.history.specs.Calls.{Context, blind, seen_at, Call, next_life, set_at, set_key}
use Rattle.history.specs.Machine.{Gift, no_gift, context_of, frame_of, World, own, learn, with_owed, hand_out, keep, wake, tick, context_in, context_for, frame_in, join, new_write, step, next as next_world, start}
use Rattle.history.specs.Refines.{Within}
use Rattle.history.proofs.Sets.{writes_subset}
use Rattle.history.proofs.Columns.{Full, next, full_next, sound_old, highest_other, highest-own}
use Rattle.history.proofs.Keys.{SoundSet, sound_nothing, sound_union, sound_delete, sound-put, top-own}
use Rattle.history.proofs.Cases.{Puttable, Ways, by_step}

-- ---- tables

-- what holds of x at i, and of f elsewhere
pub set_at-all : {A : Type 0} (P : ℕ → A → Type 0) (f : ℕ → A) (i : ℕ) (x : A) → P i x → ((j : ℕ) → (j ≡ i → ⊥) → P j (f j)) → (j : ℕ) → P j (set_at f i x j)
set_at-all P f i x here there j = go (eqb j i) refl
  where
    go : (b : Bool) → eqb j i ≡ b → P j (cond b x (f j))
    go true e = subst (λ m. P m x) (sym (eqb-true j i e)) here
    go false e = there j (eqb-false j i e)

pub set_key-all : {A : Type 0} (P : ℕ → ℕ → A → Type 0) (f : ℕ → ℕ → A) (s k : ℕ) (x : A) → P s k x → ((r j : ℕ) → P r j (f r j)) → (r j : ℕ) → P r j (set_key f s k x r j)
set_key-all P f s k x here there =
    set_at-all (λ r y. (j : ℕ) → P r j (y j)) f s (set_at (f s) k x) (set_at-all (P s) (f s) k x here (λ j d. there s j)) (λ r d. there r)

-- what holds of two tables that are set at the same place
set_key_both : {A B : Type 0} (P : A → B → Type 0) (f : ℕ → ℕ → A) (g : ℕ → ℕ → B) (s k : ℕ) (x : A) (y : B) → P x y → ((r j : ℕ) → P (f r j) (g r j)) → (r j : ℕ) → P (set_key f s k x r j) (set_key g s k y r j)
set_key_both P f g s k x y here there r j = go (eqb r s)
  where
    go : (a : Bool) → P (cond a (λ i. cond (eqb i k) x (f s i)) (f r) j) (cond a (λ i. cond (eqb i k) y (g s i)) (g r) j)
    go true = inner (eqb j k)
      where
        inner : (b : Bool) → P (cond b x (f s j)) (cond b y (g s j))
        inner true = here
        inner false = there s j
    go false = there r j

pub set_key_same : {A : Type 0} (f : ℕ → ℕ → A) (s k : ℕ) (x : A) → set_key f s k x s k ≡ x
set_key_same f s k x = ap (λ g. g k) (cond-true (eqb s s) (set_at (f s) k x) (f s) (eq-eqb s s refl)) ∙ cond-true (eqb k k) x (f s k) (eq-eqb k k refl)

pub set_key_other : {A : Type 0} (f : ℕ → ℕ → A) (s k : ℕ) (x : A) (r : ℕ) → (r ≡ s → ⊥) → set_key f s k x r k ≡ f r k
set_key_other f s k x r d = ap (λ g. g k) (cond-false (eqb r s) (set_at (f s) k x) (f r) (ne_eqb r s d))

-- ---- sets within sets

pub within_all : {A : Type 0} (xs ys zs : List A) → Within xs ys → Within ys zs → Within xs zs
within_all xs ys zs p q = All-weaker (Has ys) (Has zs) (λ x h. all-has (Has zs) ys x q h) xs p

pub within_left : {A : Type 0} (xs ys : List A) → Within xs (xs ++ ys)
within_left xs ys = All-weaker (Has xs) (Has (xs ++ ys)) (λ x h. has_append_left xs ys x h) xs (all_has_itself xs)

module _ {V : Type 0} where
  -- ---- one set

  -- e is the event that E has for its call, one of the first n
  abbrev pub Own : (ℕ → Event V) → ℕ → Event V → Type 0
  Own E n e = (E e.made_at ≡ e) × (e.made_at < n)

  -- a set of a key with the writes H, of the first n calls, with the events E
  pub record Fit (H : List (Write V)) (E : ℕ → Event V) (n : ℕ) (K : Events V) : Type 0 where
    pub sound : SoundSet H K
    pub traced : AllByRecursion (Own E n) K

  abbrev pub FitGift : (ℕ → List (Write V)) → (ℕ → Event V) → ℕ → Gift V → Type 0
  FitGift H E n no_gift = Unit {0}
  FitGift H E n (context_of k K) = Fit (H k) E n K
  FitGift H E n (frame_of k K) = Fit (H k) E n K

  -- if every set that fits fits another way, so does every gift
  fit_gift : (H H' : ℕ → List (Write V)) (E E' : ℕ → Event V) (n n' : ℕ) → ((k : ℕ) (K : Events V) → Fit (H k) E n K → Fit (H' k) E' n' K) → (g : Gift V) → FitGift H E n g → FitGift H' E' n' g
  fit_gift H H' E E' n n' f no_gift h = tt
  fit_gift H H' E E' n n' f (context_of k K) h = f k K h
  fit_gift H H' E E' n n' f (frame_of k K) h = f k K h

  -- ---- the world

  -- H has all the writes so far, by key, and E the event of each call
  pub record Inv (H : ℕ → List (Write V)) (E : ℕ → Event V) (n : ℕ) (w : World V) : Type 0 where
    pub count : n ≤ w.calls + 1
    pub full : (k : ℕ) → Full (H k)
    pub bounded : (k c : ℕ) → highest c (H k) ≤ last_counter
    pub knows : (s k : ℕ) → Fit (H k) E n (w.known s k)
    pub keeps : (s k : ℕ) → Fit (H k) E n (w.kept s k)
    pub gave : (t : ℕ) → FitGift H E n (w.given t)
    -- a seat knows all writes of its own column, and no later life has written
    pub mine : (s k : ℕ) → w.life s < 4 → highest (own w s) (writes (w.known s k)) ≡ highest (own w s) (H k)
    pub later : (s k l : ℕ) → w.life s < l → l < 4 → highest (4 * s + l) (H k) ≡ 0
    pub within : (s k : ℕ) → Within (w.kept s k) (w.known s k)
    pub unsaved : (s k : ℕ) → w.saved s k ≡ false → w.kept s k ≡ []
    pub last_life : (s : ℕ) → w.life s ≤ 4

  pub record GoodAt (n : ℕ) (w : World V) : Type 0 where
    pub all-writes : ℕ → List (Write V)
    pub all_events : ℕ → Event V
    pub inv : Inv all-writes all_events n w

  abbrev pub Good : World V → Type 0
  Good w = GoodAt w.calls w

  pub good_start : Good start
  good_start =
      record {
        all-writes = λ k. [];
        all_events = λ n. record { made_at = 0; write = None; covers = [] };
        inv =
            record {
              count = omega arith;
              full = λ k c n l. absurd (omega arith);
              bounded = λ k c. omega arith;
              knows = λ s k. nothing;
              keeps = λ s k. nothing;
              gave = λ t. tt;
              mine = λ s k l. refl;
              later = λ s k l m n. refl;
              within = λ s k. tt;
              unsaved = λ s k e. refl;
              last_life = λ s. omega arith;
            };
      }
    where
      nothing : {E : ℕ → Event V} → Fit [] E 0 []
      nothing = record { sound = sound_nothing [] (λ c n l. absurd (omega arith)); traced = tt }

  -- ---- more calls

  module _ (H : ℕ → List (Write V)) (E : ℕ → Event V) (n : ℕ) (w : World V) (inv : Inv H E n w) where
    inv_events : (E' : ℕ → Event V) (n' : ℕ) → n' ≤ w.calls + 1 → ((e : Event V) → Own E n e → Own E' n' e) → Inv H E' n' w
    inv_events E' n' l f =
        record {
          count = l;
          full = inv.full;
          bounded = inv.bounded;
          knows = λ s k. fits k _ (inv.knows s k);
          keeps = λ s k. fits k _ (inv.keeps s k);
          gave = λ t. fit_gift H H E E' n n' fits (w.given t) (inv.gave t);
          mine = inv.mine;
          later = inv.later;
          within = inv.within;
          unsaved = inv.unsaved;
          last_life = inv.last_life;
        }
      where
        fits : (k : ℕ) (K : Events V) → Fit (H k) E n K → Fit (H k) E' n' K
        fits k K h = record { sound = h.sound; traced = All-weaker (Own E n) (Own E' n') f K h.traced }

    inv_more : (n' : ℕ) → n ≤ n' → n' ≤ w.calls + 1 → Inv H E n' w
    inv_more n' l m = inv_events E n' m (λ e h. (h.0, omega (arith, h.1)))

    -- the call numbered n makes the event e
    inv_event : (e : Event V) → n + 1 ≤ w.calls + 1 → Inv H (set_at E n e) (n + 1) w
    inv_event e m = inv_events (set_at E n e) (n + 1) m (λ d h. (cond-false (eqb d.made_at n) e (E d.made_at) (ne_eqb d.made_at n (λ p. omega (arith, h.1))) ∙ h.0, omega (arith, h.1)))

    good_tick : GoodAt (w.calls + 1) (tick w)
    good_tick =
        let more = inv_more (w.calls + 1) inv.count (omega arith) in
        record {
          all-writes = H;
          all_events = E;
          inv = record { count = omega arith; full = more.full; bounded = more.bounded; knows = more.knows; keeps = more.keeps; gave = more.gave; mine = more.mine; later = more.later; within = more.within; unsaved = more.unsaved; last_life = more.last_life };
        }

  -- ---- what becomes of a world

  -- all writes, with one more of key k, in column o
  abbrev with_write : (ℕ → List (Write V)) → ℕ → ℕ → V → ℕ → List (Write V)
  with_write H o k v = set_at H k (next o v (H k) ∷ H k)

  module _ (H : ℕ → List (Write V)) (E : ℕ → Event V) (n : ℕ) (w : World V) (inv : Inv H E n w) where
    inv_owed : (f : ℕ → ℕ → Option ℕ) → Inv H E n (with_owed w f)
    inv_owed f =
        record { count = inv.count; full = inv.full; bounded = inv.bounded; knows = inv.knows; keeps = inv.keeps; gave = inv.gave; mine = inv.mine; later = inv.later; within = inv.within; unsaved = inv.unsaved; last_life = inv.last_life }

    inv_hand_out : (g : Gift V) → FitGift H E n g → Inv H E n (hand_out w g)
    inv_hand_out g h =
        record {
          count = inv.count;
          full = inv.full;
          bounded = inv.bounded;
          knows = inv.knows;
          keeps = inv.keeps;
          gave = set_at-all (λ t x. FitGift H E n x) w.given w.calls g h (λ t d. inv.gave t);
          mine = inv.mine;
          later = inv.later;
          within = inv.within;
          unsaved = inv.unsaved;
          last_life = inv.last_life;
        }

    inv_keep : (s k : ℕ) → Inv H E n (keep w s k)
    inv_keep s k =
        record {
          count = inv.count;
          full = inv.full;
          bounded = inv.bounded;
          knows = inv.knows;
          keeps = set_key-all (λ r j K. Fit (H j) E n K) w.kept s k (w.known s k) (inv.knows s k) inv.keeps;
          gave = inv.gave;
          mine = inv.mine;
          later = inv.later;
          within = set_key-all (λ r j K. Within K (w.known r j)) w.kept s k (w.known s k) (all_has_itself (w.known s k)) inv.within;
          unsaved = set_key_both (λ b K. b ≡ false → K ≡ []) w.saved w.kept s k true (w.known s k) (λ e. let z : ◌≡◌ {A = ℕ} 0 1 = cc in absurd (omega arith)) inv.unsaved;
          last_life = inv.last_life;
        }

    -- a seat learns, and writes nothing
    inv_learn : (s k : ℕ) (X : Events V) → Fit (H k) E n X → Within (w.known s k) X → Inv H E n (learn w s k X)
    inv_learn s k X h more =
        record {
          count = inv.count;
          full = inv.full;
          bounded = inv.bounded;
          knows = set_key-all (λ r j K. Fit (H j) E n K) w.known s k X h inv.knows;
          keeps = inv.keeps;
          gave = inv.gave;
          mine = set_key-all (λ r j K. w.life r < 4 → highest (own w r) (writes K) ≡ highest (own w r) (H j)) w.known s k X
              (λ l. omega (arith, inv.mine s k l, writes_subset (own w s) (w.known s k) X more, h.sound.within (own w s))) inv.mine;
          later = inv.later;
          within = set_key-all (λ r j K. Within (w.kept r j) K) w.known s k X (within_all (w.kept s k) (w.known s k) X (inv.within s k) more) inv.within;
          unsaved = inv.unsaved;
          last_life = inv.last_life;
        }

    inv_wake : (s : ℕ) → Inv H E n (wake w s)
    inv_wake s =
        record {
          count = inv.count;
          full = inv.full;
          bounded = inv.bounded;
          knows = set_at-all (λ r x. (k : ℕ) → Fit (H k) E n (x k)) w.known s (w.kept s) (inv.keeps s) (λ r d. inv.knows r);
          keeps = inv.keeps;
          gave = inv.gave;
          mine = λ r k. again r k (eqb r s) refl;
          later = λ r k. set_at-all (λ r x. (l : ℕ) → x < l → l < 4 → highest (4 * r + l) (H k) ≡ 0) w.life s (next_life (w.life s)) (λ l m n. inv.later s k l (next_above l m) n) (λ r d. inv.later r k) r;
          within = set_at-all (λ r x. (k : ℕ) → Within (w.kept r k) (x k)) w.known s (w.kept s) (λ k. all_has_itself (w.kept s k)) (λ r d. inv.within r);
          unsaved = inv.unsaved;
          last_life = set_at-all (λ r x. x ≤ 4) w.life s (next_life (w.life s)) (next_most (w.life s) (inv.last_life s)) (λ r d. inv.last_life r);
        }
      where
        unwritten : (k : ℕ) → next_life (w.life s) < 4 → highest (4 * s + next_life (w.life s)) (H k) ≡ 0
        unwritten k = go (ltb (w.life s) 4) refl
          where
            go : (b : Bool) → ltb (w.life s) 4 ≡ b → cond b (w.life s + 1) (w.life s) < 4 → highest (4 * s + cond b (w.life s + 1) (w.life s)) (H k) ≡ 0
            go true e l = inv.later s k (w.life s + 1) (omega arith) l
            go false e l = absurd (omega (arith, ltb-false (w.life s) 4 e))

        again : (r k : ℕ) (b : Bool) → eqb r s ≡ b → cond b (next_life (w.life s)) (w.life r) < 4 → highest (4 * r + cond b (next_life (w.life s)) (w.life r)) (writes (cond b (w.kept s) (w.known r) k)) ≡ highest (4 * r + cond b (next_life (w.life s)) (w.life r)) (H k)
        again r k true e l =
            subst (λ m. highest (4 * m + next_life (w.life s)) (writes (w.kept s k)) ≡ highest (4 * m + next_life (w.life s)) (H k)) (sym (eqb-true r s e))
            (omega (arith, unwritten k l, (inv.keeps s k).sound.within (4 * s + next_life (w.life s))))
        again r k false e l = inv.mine r k l

        next_most : (n : ℕ) → n ≤ 4 → next_life n ≤ 4
        next_most n h = cond_both (ltb n 4) (n + 1) n (λ x. x ≤ 4) (λ e. omega (arith, ltb-true n 4 e)) (λ e. h)

        next_above : (l : ℕ) → next_life (w.life s) < l → w.life s < l
        next_above l = go (ltb (w.life s) 4)
          where
            go : (b : Bool) → cond b (w.life s + 1) (w.life s) < l → w.life s < l
            go true m = omega arith
            go false m = m

    -- a seat writes v, and knows X after it
    module _ (s k : ℕ) (v : V) (X : Events V) (seat : s < 6) (alive : w.life s < 4)
        (counter_left : eqb (highest (own w s) (writes (w.known s k))) last_counter ≡ false)
        (fits : Fit (next (own w s) v (H k) ∷ H k) E n X) (more : Within (w.known s k) X)
        (top : highest (own w s) (writes X) ≡ highest (own w s) (H k) + 1) where
      abbrev o : ℕ
      o = own w s

      abbrev writes_after : ℕ → List (Write V)
      writes_after = with_write H o k v

      grow : (j : ℕ) (K : Events V) → Fit (H j) E n K → Fit (writes_after j) E n K
      grow j K = set_at-all (λ j xs. Fit (H j) E n K → Fit xs E n K) H k (next o v (H k) ∷ H k) (λ g. record { sound = sound_old (H k) (inv.full k) o v (writes K) (covered K) g.sound; traced = g.traced }) (λ j d g. g) j

      -- in another column nothing is new
      elsewhere : (c j : ℕ) → (o ≡ c → ⊥) → highest c (writes_after j) ≡ highest c (H j)
      elsewhere c j d = set_at-all (λ j xs. highest c xs ≡ highest c (H j)) H k (next o v (H k) ∷ H k) (highest_other (H k) (inv.full k) o v c d) (λ j e. refl) j

      -- no column of a later life
      not_later : (r l : ℕ) → w.life r < l → l < 4 → o ≡ 4 * r + l → ⊥
      not_later r l m n e = let p : s ≡ r = omega arith in let q : w.life s ≡ w.life r = ap w.life p in omega arith

      pub inv_write : Inv writes_after E n (learn w s k X)
      inv_write =
          record {
            count = inv.count;
            full = set_at-all (λ j xs. Full xs) H k (next o v (H k) ∷ H k) (full_next (H k) (inv.full k) o v) (λ j d. inv.full j);
            bounded = set_at-all (λ j xs. (c : ℕ) → highest c xs ≤ last_counter) H k (next o v (H k) ∷ H k) bounded_here (λ j d. inv.bounded j);
            knows = set_at-all (λ r x. (j : ℕ) → Fit (writes_after j) E n (x j)) w.known s (set_at (w.known s) k X) knows_here (λ r d j. grow j (w.known r j) (inv.knows r j));
            keeps = λ r j. grow j (w.kept r j) (inv.keeps r j);
            gave = λ t. fit_gift H writes_after E E n n grow (w.given t) (inv.gave t);
            mine = set_at-all (λ r x. (j : ℕ) → w.life r < 4 → highest (own w r) (writes (x j)) ≡ highest (own w r) (writes_after j)) w.known s (set_at (w.known s) k X) mine_here
                (λ r d j l. inv.mine r j l ∙ sym (elsewhere (own w r) j (λ e. d (omega arith))));
            later = λ r j l m n. elsewhere (4 * r + l) j (not_later r l m n) ∙ inv.later r j l m n;
            within = set_key-all (λ r j K. Within (w.kept r j) K) w.known s k X (within_all (w.kept s k) (w.known s k) X (inv.within s k) more) inv.within;
            unsaved = inv.unsaved;
            last_life = inv.last_life;
          }
        where
          bounded_here : (c : ℕ) → highest c (next o v (H k) ∷ H k) ≤ last_counter
          bounded_here c = go (eqb o c)
            where
              go : (b : Bool) → max (cond b (highest o (H k) + 1) 0) (highest c (H k)) ≤ last_counter
              go true = omega (arith, inv.bounded k c, inv.bounded k o, inv.mine s k alive, eqb-false (highest o (writes (w.known s k))) last_counter counter_left)
              go false = omega (arith, inv.bounded k c)

          knows_here : (j : ℕ) → Fit (writes_after j) E n (set_at (w.known s) k X j)
          knows_here j = go (eqb j k)
            where
              go : (b : Bool) → Fit (cond b (next o v (H k) ∷ H k) (H j)) E n (cond b X (w.known s j))
              go true = fits
              go false = inv.knows s j

          mine_here : (j : ℕ) → w.life s < 4 → highest o (writes (set_at (w.known s) k X j)) ≡ highest o (writes_after j)
          mine_here j l = go (eqb j k)
            where
              go : (b : Bool) → highest o (writes (cond b X (w.known s j))) ≡ highest o (cond b (next o v (H k) ∷ H k) (H j))
              go true = top ∙ sym (highest-own (H k) (inv.full k) o v)
              go false = inv.mine s j l

    -- ---- what a call names fits

    fit_at : (j k : ℕ) (K C : Events V) → Fit (H j) E n K → cond (eqb j k) (Some K) None ≡ Some C → Fit (H k) E n C
    fit_at j k K C g = go (eqb j k) refl
      where
        go : (b : Bool) → eqb j k ≡ b → cond b (Some K) None ≡ Some C → Fit (H k) E n C
        go true e c = let p : K ≡ C = cc in subst (Fit (H k) E n) p (subst (λ i. Fit (H i) E n K) (eqb-true j k e) g)
        go false e c = let z : ◌≡◌ {A = ℕ} 0 1 = cc in absurd (omega arith)

    pub frame_fits : (k t : ℕ) (F : Events V) → frame_in k (w.given t) ≡ Some F → Fit (H k) E n F
    frame_fits k t F = go (w.given t) (inv.gave t)
      where
        go : (g : Gift V) → FitGift H E n g → frame_in k g ≡ Some F → Fit (H k) E n F
        go no_gift h c = let z : ◌≡◌ {A = ℕ} 0 1 = cc in absurd (omega arith)
        go (context_of j K) h c = let z : ◌≡◌ {A = ℕ} 0 1 = cc in absurd (omega arith)
        go (frame_of j K) h c = fit_at j k K F h c

    pub context_fits : (k : ℕ) (x : Context) (C : Events V) → context_for w k x ≡ Some C → Fit (H k) E n C
    context_fits k blind C c =
        let p : [] ≡ C = cc in subst (Fit (H k) E n) p (record { sound = sound_nothing (H k) (inv.full k); traced = tt })
    context_fits k (seen_at t) C c = go (w.given t) (inv.gave t) c
      where
        go : (g : Gift V) → FitGift H E n g → context_in k g ≡ Some C → Fit (H k) E n C
        go no_gift h c = let z : ◌≡◌ {A = ℕ} 0 1 = cc in absurd (omega arith)
        go (context_of j K) h c = fit_at j k K C h c
        go (frame_of j K) h c = let z : ◌≡◌ {A = ℕ} 0 1 = cc in absurd (omega arith)

  -- ---- each call

  traced_join : (E : ℕ → Event V) (n : ℕ) (K C : Events V) (x : Option (Write V)) → AllByRecursion (Own E (n + 1)) K → AllByRecursion (Own E (n + 1)) C → E n ≡ record { made_at = n; write = x; covers = writes C } → AllByRecursion (Own E (n + 1)) (join n K C x)
  traced_join E n K C x p q e = All-append (Own E (n + 1)) (K ++ C) _ (All-append (Own E (n + 1)) K C p q) ((e, omega arith), tt)

  module _ (bytes_of : V → List ℕ) (w : World V) (good : Good w) where
    abbrev H : ℕ → List (Write V)
    H = good.all-writes

    abbrev E : ℕ → Event V
    E = good.all_events

    -- with no event at this call
    at_next : Inv H E (w.calls + 1) w
    at_next = inv_more H E w.calls w good.inv (w.calls + 1) (omega arith) (omega arith)

    abbrev plainly : (v : World V) → Inv H E (w.calls + 1) v → GoodAt (w.calls + 1) v
    plainly v i = record { all-writes = H; all_events = E; inv = i }

    abbrev event : Events V → Option (Write V) → Event V
    event C x = record { made_at = w.calls; write = x; covers = writes C }

    abbrev e_with : Events V → Option (Write V) → ℕ → Event V
    e_with C x = set_at E w.calls (event C x)

    with_event : (C : Events V) (x : Option (Write V)) → Inv H (e_with C x) (w.calls + 1) w
    with_event C x = inv_event H E w.calls w good.inv (event C x) (omega arith)

    its_event : (C : Events V) (x : Option (Write V)) → e_with C x w.calls ≡ event C x
    its_event C x = cond-true (eqb w.calls w.calls) (event C x) (E w.calls) (eq-eqb w.calls w.calls refl)

    within_join : (s k : ℕ) (C : Events V) (x : Option (Write V)) → Within (w.known s k) (join w.calls (w.known s k) C x)
    within_join s k C x = within_all (w.known s k) (w.known s k ++ C) _ (within_left (w.known s k) C) (within_left (w.known s k ++ C) _)

    ways : Ways bytes_of w (λ r. GoodAt (w.calls + 1) r.world)
    ways =
        record {
          refuses = λ e. plainly w at_next;
          misnames = plainly w at_next;
          gets = λ s k. plainly _ (inv_hand_out H E (w.calls + 1) w at_next _ (at_next.knows s k));
          sends = λ s k. plainly _ (inv_hand_out H E (w.calls + 1) w at_next _ (at_next.knows s k));
          puts = putting;
          deletes = deleting;
          delivers = λ s k t F c. let h = frame_fits H E (w.calls + 1) w at_next k t F c in
              plainly _ (inv_learn H E (w.calls + 1) w at_next s k (w.known s k ++ F)
              (record { sound = sound_union (H k) (at_next.full k) (w.known s k) F (at_next.knows s k).sound h.sound; traced = All-append _ (w.known s k) F (at_next.knows s k).traced h.traced })
              (within_left (w.known s k) F));
          saves = λ s k r. plainly _ (inv_owed H E (w.calls + 1) (keep w s k) (inv_keep H E (w.calls + 1) w at_next s k) _);
          wakes = λ s a. plainly _ (inv_wake H E (w.calls + 1) w at_next s);
        }
      where
        deleting : (s k : ℕ) (x : Context) (C : Events V) → context_for w k x ≡ Some C → GoodAt (w.calls + 1) (learn w s k (join w.calls (w.known s k) C None))
        deleting s k x C c =
            let i = with_event C None in
            let h = context_fits H (e_with C None) (w.calls + 1) w i k x C c in
            record {
              all-writes = H;
              all_events = e_with C None;
              inv =
                  inv_learn H (e_with C None) (w.calls + 1) w i s k _
                  (record { sound = sound_delete (H k) (i.full k) w.calls (w.known s k) C (i.knows s k).sound h.sound; traced = traced_join (e_with C None) w.calls (w.known s k) C None (i.knows s k).traced h.traced (its_event C None) })
                  (within_join s k C None);
            }

        putting : (s k : ℕ) (x : Context) (v : V) (C : Events V) → context_for w k x ≡ Some C → Puttable w s k C
            → GoodAt (w.calls + 1) (with_owed (learn w s k (join w.calls (w.known s k) C (Some (new_write w s k v)))) (set_key w.owed s k (Some w.calls)))
        putting s k x v C c p =
            let y : Option (Write V) = Some (new_write w s k v) in
            let i = with_event C y in
            let h = context_fits H (e_with C y) (w.calls + 1) w i k x C c in
            let inside : own w s < columns = omega (arith, p.seat, p.alive) in
            let mine = i.mine s k p.alive in
            let K = w.known s k in
            record {
              all-writes = with_write H (own w s) k v;
              all_events = e_with C y;
              inv =
                  inv_owed (with_write H (own w s) k v) (e_with C y) (w.calls + 1) (learn w s k (join w.calls K C y)) (inv_write H (e_with C y) (w.calls + 1) w i s k v (join w.calls K C y) p.seat p.alive p.counter_left
                  (record {
                    sound = sound-put (H k) (i.full k) w.calls (own w s) K C (i.knows s k).sound h.sound mine v p.room inside;
                    traced = traced_join (e_with C y) w.calls K C y (i.knows s k).traced h.traced (its_event C y);
                  })
                  (within_join s k C y)
                  (top-own (H k) (i.full k) w.calls (own w s) K C (i.knows s k).sound h.sound mine v p.room inside)) _;
            }

    pub good-step : (c : Call V) → Good (next_world bytes_of w c)
    good-step c =
        let g = by_step bytes_of w (λ r. GoodAt (w.calls + 1) r.world) ways c in
        good_tick g.all-writes g.all_events (w.calls + 1) (step bytes_of w c).world g.inv
