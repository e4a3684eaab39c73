-- A column of a set of events by two numbers, the highest counter and the highest one covered; and what merge, discard and put make of them. Assumes nothing.
use Rattle.std.proofs.Common.{◌≡◌, ℕ, zero, suc, ◌+◌, ◌-◌, ◌<◌, ◌≤◌, min, max, Bool, true, false, cond, eqb, List, [], ◌∷◌, ◌++◌, map, length, take, sym, refl, ap, ◌∙◌, subst, ⊎_elim, add-one, arith, length-take}
use lib.ListN.{length-map}
use lib.Seq.{take-nil}
use Rattle.std.specs.List.{AllByRecursion}
use Rattle.std.proofs.ByRecursion.{All-append, All-push, All-weaker}
use Rattle.std.proofs.lemmas.Bool.{eqb-true, eqb-false, eq-eqb, ne_eqb, and_parts, and_from, and_cases, cond-true, cond-false, cases_lt, cases_eq, both_ways, or_left, or_right}
use Rattle.history.specs.Shown.{sibling}
use Rattle.history.specs.Events.{Write, has_dot, among, outside, highest, the, down, newest}
use Rattle.dvvset.specs.Limits.{columns, most_siblings}
use Rattle.dvvset.specs.Clock.{ColumnState, merge_column, discard_column, push}
use Rattle.dvvset.specs.Listing.{dotted}
use Rattle.dvvset.proofs.Lists.{take_min}
use Rattle.dvvset.proofs.Merging.{merge-left, merge_right, first-first}
use Rattle.history.proofs.Sets.{highest-++, among-++, the-left, the_right, none_above, among-the, the-outside, down_stop, length-down, down_cut, down_same}

module _ {V : Type 0} where
  -- H, all the writes of a key so far, has one write under each dot up to the highest
  abbrev pub Full : List (Write V) → Type 0
  Full H = (c k : ℕ) → suc k ≤ highest c H → length (the c (suc k) H) ≡ 1

  -- w is the write of H under its dot, which is a proper one
  abbrev pub Named : List (Write V) → Write V → Type 0
  Named H w = (the w.column w.counter H ≡ w ∷ []) × (w.column < columns) × (1 ≤ w.counter)

  -- ws has in column c what H has above f and up to t
  pub record Cut (H ws : List (Write V)) (c t f : ℕ) : Type 0 where
    pub low : (k : ℕ) → suc k ≤ f → the c (suc k) ws ≡ []
    pub mid : (k : ℕ) → f ≤ k → suc k ≤ t → the c (suc k) ws ≡ the c (suc k) H
    pub high : (k : ℕ) → t ≤ k → the c (suc k) ws ≡ []

  pub cut_newest : (H ws : List (Write V)) (c t f : ℕ) → Full H → t ≤ highest c H → Cut H ws c t f → newest c ws ≡ take (t - f) (down c t H)
  cut_newest H ws c t f full h cut =
      let n : ℕ = max t (highest c ws) in
      sym (down_stop c (highest c ws) n ws (omega arith) (λ k l. (none_above c (suc k) ws (omega arith)).0))
      ∙ down_stop c t n ws (omega arith) cut.high
      ∙ down_cut c t f t H ws (λ k l. full c k (omega arith)) cut.low cut.mid (omega arith)

  pub cut_outside : (H ws xs : List (Write V)) (c t f : ℕ) → Cut H ws c t f → ((k : ℕ) → suc k ≤ highest c xs → among c (suc k) xs ≡ true) → Cut H (outside xs ws) c t (max f (highest c xs))
  cut_outside H ws xs c t f cut all =
      record {
        low = λ k l. the-outside c (suc k) xs ws ∙ ⊎_elim (λ (m : k < highest c xs). cond-true (among c (suc k) xs) [] (the c (suc k) ws) (all k m)) (λ (m : highest c xs ≤ k). gone k (cut.low k (omega arith))) (cases_lt k (highest c xs));
        mid = λ k l m. the-outside c (suc k) xs ws ∙ cond-false (among c (suc k) xs) [] (the c (suc k) ws) (none_above c (suc k) xs (omega arith)).1 ∙ cut.mid k (omega arith) m;
        high = λ k l. the-outside c (suc k) xs ws ∙ gone k (cut.high k l);
      }
    where
      gone : (k : ℕ) → the c (suc k) ws ≡ [] → cond (among c (suc k) xs) [] (the c (suc k) ws) ≡ []
      gone k e = go (among c (suc k) xs)
        where
          go : (b : Bool) → cond b [] (the c (suc k) ws) ≡ []
          go true = refl
          go false = e

  -- The writes ws and what is covered, cs, of a set of events: in each column the first of all writes, each with its value in H, of which the first are covered.
  pub record Sound (H ws cs : List (Write V)) : Type 0 where
    pub below : (c : ℕ) → highest c cs ≤ highest c ws
    pub room : (c : ℕ) → highest c ws ≤ highest c cs + most_siblings
    pub within : (c : ℕ) → highest c ws ≤ highest c H
    pub same : (c k : ℕ) → suc k ≤ highest c ws → the c (suc k) ws ≡ the c (suc k) H
    pub all : (c k : ℕ) → suc k ≤ highest c cs → among c (suc k) cs ≡ true
    pub real : AllByRecursion (Named H) ws

  module _ (H : List (Write V)) (full : Full H) where
    pub one : (ws cs : List (Write V)) → Sound H ws cs → (c k : ℕ) → suc k ≤ highest c ws → length (the c (suc k) ws) ≡ 1
    one ws cs g c k l = ap length (g.same c k l) ∙ full c k (omega (arith, g.within c))

    pub has : (ws cs : List (Write V)) → Sound H ws cs → (c k : ℕ) → suc k ≤ highest c ws → among c (suc k) ws ≡ true
    has ws cs g c k l = among-the c (suc k) ws (omega (arith, one ws cs g c k l))

    pub sound_cut : (ws cs : List (Write V)) → Sound H ws cs → (c : ℕ) → Cut H ws c (highest c ws) 0
    sound_cut ws cs g c =
        record {
          low = λ k l. absurd (omega arith);
          mid = λ k l m. g.same c k m;
          high = λ k l. (none_above c (suc k) ws (omega arith)).0;
        }

    pub sound-held : (ws cs : List (Write V)) → Sound H ws cs → (c : ℕ) → Cut H (outside cs ws) c (highest c ws) (max 0 (highest c cs))
    sound-held ws cs g c = cut_outside H ws cs c (highest c ws) 0 (sound_cut ws cs g c) (g.all c)

    pub newest-held : (ws cs : List (Write V)) → Sound H ws cs → (c : ℕ) → newest c (outside cs ws) ≡ take (highest c ws - highest c cs) (down c (highest c ws) H)
    newest-held ws cs g c =
        let e : highest c ws - max 0 (highest c cs) ≡ highest c ws - highest c cs = omega arith in
        cut_newest H (outside cs ws) c (highest c ws) (max 0 (highest c cs)) full (g.within c) (sound-held ws cs g c) ∙ ap (λ m. take m (down c (highest c ws) H)) e

    pub newest-outside : (ws cs xs ys : List (Write V)) → Sound H ws cs → Sound H xs ys → (c : ℕ) → newest c (outside xs (outside cs ws)) ≡ take (highest c ws - max (highest c cs) (highest c xs)) (down c (highest c ws) H)
    newest-outside ws cs xs ys g h c =
        let e : highest c ws - max (max 0 (highest c cs)) (highest c xs) ≡ highest c ws - max (highest c cs) (highest c xs) = omega arith in
        cut_newest H (outside xs (outside cs ws)) c (highest c ws) (max (max 0 (highest c cs)) (highest c xs)) full (g.within c) (cut_outside H (outside cs ws) xs c (highest c ws) (max 0 (highest c cs)) (sound-held ws cs g c) (has xs ys h c)) ∙ ap (λ m. take m (down c (highest c ws) H)) e

    -- a union
    pub sound-++ : (ws cs xs ys : List (Write V)) → Sound H ws cs → Sound H xs ys → Sound H (ws ++ xs) (cs ++ ys)
    sound-++ ws cs xs ys g h =
        record {
          below = λ c. rw (highest-++, highest-++) (omega (arith, g.below c, h.below c));
          room = λ c. rw (highest-++, highest-++) (omega (arith, g.room c, h.room c));
          within = λ c. rw highest-++ (omega (arith, g.within c, h.within c));
          same = λ c k l. let m : suc k ≤ max (highest c ws) (highest c xs) = rw highest-++ at l in
              ⊎_elim (λ (p : k < highest c ws). the-left c (suc k) ws xs (omega (arith, one ws cs g c k p)) ∙ g.same c k p)
              (λ (p : highest c ws ≤ k). the_right c (suc k) ws xs (none_above c (suc k) ws (omega arith)).0 ∙ h.same c k (omega arith))
              (cases_lt k (highest c ws));
          all = λ c k l. let m : suc k ≤ max (highest c cs) (highest c ys) = rw highest-++ at l in
              among-++ c (suc k) cs ys ∙
              ⊎_elim (λ (p : k < highest c cs). or_left (among c (suc k) cs) (among c (suc k) ys) (g.all c k p))
              (λ (p : highest c cs ≤ k). or_right (among c (suc k) cs) (among c (suc k) ys) (h.all c k (omega arith)))
              (cases_lt k (highest c cs));
          real = All-append (Named H) ws xs g.real h.real;
        }

    -- an event of ws that covers all of xs
    pub sound_cover : (ws cs xs ys : List (Write V)) → Sound H ws cs → Sound H xs ys → ((c : ℕ) → highest c xs ≤ highest c ws) → Sound H ws (cs ++ xs)
    sound_cover ws cs xs ys g h le =
        record {
          below = λ c. rw highest-++ (omega (arith, g.below c, le c));
          room = λ c. rw highest-++ (omega (arith, g.room c));
          within = g.within;
          same = g.same;
          all = λ c k l. let m : suc k ≤ max (highest c cs) (highest c xs) = rw highest-++ at l in
              among-++ c (suc k) cs xs ∙
              ⊎_elim (λ (p : k < highest c cs). or_left (among c (suc k) cs) (among c (suc k) xs) (g.all c k p))
              (λ (p : highest c cs ≤ k). or_right (among c (suc k) cs) (among c (suc k) xs) (has xs ys h c k (omega arith)))
              (cases_lt k (highest c cs));
          real = g.real;
        }

  -- ---- one more write

  -- the write of v in column o, after all of H
  abbrev pub next : (o : ℕ) → V → List (Write V) → Write V
  next o v H = record { column = o; counter = highest o H + 1; value = v }

  module _ (H : List (Write V)) (full : Full H) (o : ℕ) (v : V) where
    new_dot : (c n : ℕ) → has_dot c n (next o v H) ≡ true → (o ≡ c) × (highest o H + 1 ≡ n)
    new_dot c n h =
        let both = and_parts (eqb o c) (eqb (highest o H + 1) n) h in
        (eqb-true o c both.0, eqb-true (highest o H + 1) n both.1)

    -- a dot that H has is no new one
    old_dot : (c n : ℕ) → n ≤ highest c H → has_dot c n (next o v H) ≡ false
    old_dot c n l = go (has_dot c n (next o v H)) refl
      where
        go : (b : Bool) → has_dot c n (next o v H) ≡ b → b ≡ false
        go true e = let d = new_dot c n e in let f : highest o H ≡ highest c H = ap (λ x. highest x H) d.0 in absurd (omega (arith, d.1))
        go false e = refl

    the_old : (c n : ℕ) → n ≤ highest c H → the c n (next o v H ∷ H) ≡ the c n H
    the_old c n l = cond-false (has_dot c n (next o v H)) (next o v H ∷ []) (the c n H) (old_dot c n l)

    pub down_old : (c n : ℕ) → n ≤ highest c H → down c n (next o v H ∷ H) ≡ down c n H
    down_old c n l = down_same c n (next o v H ∷ H) H (λ k m. the_old c (suc k) (omega arith))

    -- the highest counter of the columns, with the new write
    pub highest-own : highest o (next o v H ∷ H) ≡ highest o H + 1
    highest-own = rw (cond-true (eqb o o) (highest o H + 1) 0 (eq-eqb o o refl)) (omega arith)

    pub highest_other : (c : ℕ) → (o ≡ c → ⊥) → highest c (next o v H ∷ H) ≡ highest c H
    highest_other c d = rw (cond-false (eqb o c) (highest o H + 1) 0 (ne_eqb o c d)) (omega arith)

    -- a dot up to the highest that is not the new one is an old one
    not_next : (c n m : ℕ) → (o ≡ c → m ≡ highest o H) → has_dot c n (next o v H) ≡ false → n ≤ max (cond (eqb o c) (highest o H + 1) 0) m → n ≤ m
    not_next c n m same e l = ⊎_elim here there (cases_eq o c)
      where
        here : o ≡ c → n ≤ m
        here p =
            let q : eqb o c ≡ true = eq-eqb o c p in
            let r : cond (eqb o c) (highest o H + 1) 0 ≡ highest o H + 1 = cond-true (eqb o c) (highest o H + 1) 0 q in
            let f : eqb (highest o H + 1) n ≡ false = ⊎_elim (λ z. absurd (both_ways (eqb o c) z q)) (λ z. z) (and_cases (eqb o c) (eqb (highest o H + 1) n) e) in
            omega (arith, same p, eqb-false (highest o H + 1) n f)

        there : (o ≡ c → ⊥) → n ≤ m
        there d = let r : cond (eqb o c) (highest o H + 1) 0 ≡ 0 = cond-false (eqb o c) (highest o H + 1) 0 (ne_eqb o c d) in omega arith

    pub full_next : Full (next o v H ∷ H)
    full_next c k l = go (has_dot c (suc k) (next o v H)) refl
      where
        go : (b : Bool) → has_dot c (suc k) (next o v H) ≡ b → length (cond b (next o v H ∷ []) (the c (suc k) H)) ≡ 1
        go true e = refl
        go false e = full c k (not_next c (suc k) (highest c H) (λ p. ap (λ x. highest x H) (sym p)) e l)

    named_old : (ws : List (Write V)) → AllByRecursion (Named H) ws → AllByRecursion (Named (next o v H ∷ H)) ws
    named_old ws = All-weaker (Named H) (Named (next o v H ∷ H)) one_old ws
      where
        one_old : (w : Write V) → Named H w → Named (next o v H ∷ H) w
        one_old w e = ⊎_elim (λ (l : highest w.column H < w.counter). gone (none_above w.column w.counter H l).0) (λ (l : w.counter ≤ highest w.column H). (the_old w.column w.counter l ∙ e.0, e.1, e.2)) (cases_lt (highest w.column H) w.counter)
          where
            gone : the w.column w.counter H ≡ [] → Named (next o v H ∷ H) w
            gone z = let no_one : ◌≡◌ {A = ℕ} 1 0 = ap length (sym e.0 ∙ z) in absurd (omega arith)

    pub sound_old : (ws cs : List (Write V)) → Sound H ws cs → Sound (next o v H ∷ H) ws cs
    sound_old ws cs g =
        record {
          below = g.below;
          room = g.room;
          within = λ c. omega (arith, g.within c);
          same = λ c k l. g.same c k l ∙ sym (the_old c (suc k) (omega (arith, g.within c)));
          all = g.all;
          real = named_old ws g.real;
        }

    pub sound-next : (ws cs : List (Write V)) → Sound H ws cs → highest o ws ≡ highest o H → highest o H + 1 ≤ highest o cs + most_siblings → o < columns → Sound (next o v H ∷ H) (ws ++ next o v H ∷ []) cs
    sound-next ws cs g e free inside =
        record {
          below = λ c. rw highest-++ (omega (arith, g.below c));
          room = λ c. rw highest-++ (omega (arith, g.room c, roomy c));
          within = λ c. rw highest-++ (omega (arith, g.within c));
          same = λ c k l. go c k (rw highest-++ at l) (has_dot c (suc k) (next o v H)) refl;
          all = g.all;
          real = All-push (Named (next o v H ∷ H)) ws (next o v H) (named_old ws g.real) (named_new, inside, omega arith);
        }
      where
        named_new : the o (highest o H + 1) (next o v H ∷ H) ≡ next o v H ∷ []
        named_new = cond-true (has_dot o (highest o H + 1) (next o v H)) (next o v H ∷ []) (the o (highest o H + 1) H) (and_from (eqb o o) (eqb (highest o H + 1) (highest o H + 1)) (eq-eqb o o refl) (eq-eqb (highest o H + 1) (highest o H + 1) refl))

        roomy : (c : ℕ) → cond (eqb o c) (highest o H + 1) 0 ≤ highest c cs + most_siblings
        roomy c = go (eqb o c) refl
          where
            go : (b : Bool) → eqb o c ≡ b → cond b (highest o H + 1) 0 ≤ highest c cs + most_siblings
            go true p = subst (λ x. highest o H + 1 ≤ highest x cs + most_siblings) (eqb-true o c p) free
            go false p = omega arith

        go : (c k : ℕ) → suc k ≤ max (highest c ws) (max (cond (eqb o c) (highest o H + 1) 0) 0) → (b : Bool) → has_dot c (suc k) (next o v H) ≡ b → the c (suc k) (ws ++ next o v H ∷ []) ≡ cond b (next o v H ∷ []) (the c (suc k) H)
        go c k l true d =
            let p = new_dot c (suc k) d in
            let q : highest o H ≡ highest c H = ap (λ x. highest x H) p.0 in
            the_right c (suc k) ws (next o v H ∷ []) (none_above c (suc k) ws (omega (arith, p.1, g.within c))).0 ∙ cond-true (has_dot c (suc k) (next o v H)) (next o v H ∷ []) [] d
        go c k l false d =
            let m : suc k ≤ highest c ws = not_next c (suc k) (highest c ws) (λ p. ap (λ x. highest x ws) (sym p) ∙ e) d (omega arith) in
            the-left c (suc k) ws (next o v H ∷ []) (omega (arith, one H full ws cs g c k m)) ∙ g.same c k m

  -- ---- columns

  -- column c up to the counter t, without what is covered, up to f
  abbrev pub column_of : List (Write V) → ℕ → ℕ → ℕ → ColumnState V
  column_of H c t f = record { top = t; values = take (t - f) (map (λ w. w.value) (down c t H)) }

  abbrev made : ℕ → List V → ColumnState V
  made t vs = record { top = t; values = vs }

  module _ (H : List (Write V)) (full : Full H) (c : ℕ) where
    pub length-column : (t f : ℕ) → t ≤ highest c H → length (column_of H c t f).values ≡ t - f
    length-column t f l =
        let d : length (down c t H) ≡ t = length-down c t H (λ k m. full c k (omega arith)) in
        simp (length-take, length-map) (omega arith)

    -- discard
    pub discard_of : (t f n : ℕ) → f ≤ t → discard_column (column_of H c t f) n ≡ column_of H c (max t n) (max f n)
    unfolding discard_column
    discard_of t f n l = ⊎_elim over under (cases_lt t n)
      where
        vs : ℕ → List V
        vs m = map (λ w. w.value) (down c m H)

        over : t < n → discard_column (column_of H c t f) n ≡ column_of H c (max t n) (max f n)
        over h =
            let y : t - n ≡ 0 = omega arith in
            let z : max t n - max f n ≡ 0 = omega arith in
            ap (λ m. made (max t n) (take m (take (t - f) (vs t)))) y ∙ sym (ap (λ m. made (max t n) (take m (vs (max t n)))) z)

        under : n ≤ t → discard_column (column_of H c t f) n ≡ column_of H c (max t n) (max f n)
        under h =
            let y : min (t - n) (t - f) ≡ t - max f n = omega arith in
            let z : max t n ≡ t = omega arith in
            ap (λ r. made (max t n) r) (take_min (t - n) (t - f) (vs t)) ∙ ap (λ m. made (max t n) (take m (vs t))) y ∙ ap (λ m. made m (take (t - max f n) (vs t))) z ∙ sym (ap (λ m. column_of H c m (max f n)) z)

    -- merge
    pub merge_of : (t f u g : ℕ) → f ≤ t → g ≤ u → t ≤ highest c H → u ≤ highest c H → merge_column (column_of H c t f) (column_of H c u g) ≡ column_of H c (max t u) (max f g)
    merge_of t f u g l m tH uH = ⊎_elim over under (cases_lt t u)
      where
        vs : ℕ → List V
        vs m = map (λ w. w.value) (down c m H)

        under : u ≤ t → merge_column (column_of H c t f) (column_of H c u g) ≡ column_of H c (max t u) (max f g)
        under h =
            let len : length (take (u - g) (vs u)) ≡ u - g = length-column u g uH in
            let y : min (t - u + length (take (u - g) (vs u))) (t - f) ≡ t - max f g = omega arith in
            let z : max t u ≡ t = omega arith in
            merge-left (column_of H c t f) (column_of H c u g) h ∙ first-first _ (t - f) (made t (vs t)) ∙ ap (λ m. made t (take m (vs t))) y ∙ sym (ap (λ m. column_of H c m (max f g)) z)

        over : t < u → merge_column (column_of H c t f) (column_of H c u g) ≡ column_of H c (max t u) (max f g)
        over h =
            let len : length (take (t - f) (vs t)) ≡ t - f = length-column t f tH in
            let y : min (u - t + length (take (t - f) (vs t))) (u - g) ≡ u - max f g = omega arith in
            let z : max t u ≡ u = omega arith in
            merge_right (column_of H c t f) (column_of H c u g) h ∙ first-first _ (u - g) (made u (vs u)) ∙ ap (λ m. made u (take m (vs u))) y ∙ sym (ap (λ m. column_of H c m (max f g)) z)

    -- an old column, after one more write
    pub column_old : (o : ℕ) (v : V) (t f : ℕ) → t ≤ highest c H → column_of (next o v H ∷ H) c t f ≡ column_of H c t f
    column_old o v t f l = ap (λ ws. made t (take (t - f) (map (λ w. w.value) ws))) (down_old H full o v c t l)

    -- the column, with one more write
    pub down-next : (v : V) → down c (highest c H + 1) (next c v H ∷ H) ≡ next c v H ∷ down c (highest c H) H
    down-next v =
        let t : ℕ = highest c H in
        let dot : has_dot c (suc t) (next c v H) ≡ true = and_from (eqb c c) (eqb (t + 1) (suc t)) (eq-eqb c c refl) (eq-eqb (t + 1) (suc t) (add-one t)) in
        ap (λ m. down c m (next c v H ∷ H)) (add-one t)
        ∙ ap (λ x. x ++ down c t (next c v H ∷ H)) (cond-true (has_dot c (suc t) (next c v H)) (next c v H ∷ []) (the c (suc t) H) dot)
        ∙ ap (λ x. next c v H ∷ x) (down_old H full c v c t (omega arith))

    -- put
    pub push_of : (v : V) (f : ℕ) → f ≤ highest c H → push v (column_of H c (highest c H) f) ≡ column_of (next c v H ∷ H) c (highest c H + 1) f
    unfolding push
    push_of v f l =
        let t : ℕ = highest c H in
        let y : suc (t - f) ≡ t + 1 - f = omega arith in
        ap (λ m. made (t + 1) (take m (v ∷ map (λ w. w.value) (down c t H)))) y
        ∙ sym (ap (λ ws. made (t + 1) (take (t + 1 - f) (map (λ w. w.value) ws))) (down-next v))

    -- ---- dots

    the_dot : (n : ℕ) (ws : List (Write V)) → 1 ≤ length (the c n ws) → (v : V) × (the c n ws ≡ record { column = c; counter = n; value = v } ∷ [])
    the_dot n [] h = absurd (omega arith)
    the_dot n (w ∷ ws) h = go (has_dot c n w) refl h (the_dot n ws)
      where
        go : (b : Bool) → has_dot c n w ≡ b → 1 ≤ length (cond b (w ∷ []) (the c n ws)) → (1 ≤ length (the c n ws) → (v : V) × (the c n ws ≡ record { column = c; counter = n; value = v } ∷ [])) → (v : V) × (cond b (w ∷ []) (the c n ws) ≡ record { column = c; counter = n; value = v } ∷ [])
        go true e h ih =
            let both = and_parts (eqb w.column c) (eqb w.counter n) e in
            let p : w.column ≡ c = eqb-true w.column c both.0 in
            let q : w.counter ≡ n = eqb-true w.counter n both.1 in
            (w.value, λ i. record { column = p i; counter = q i; value = w.value } ∷ [])
        go false e h ih = ih h

    -- the values of a column, newest first, with their dots
    pub dotted-down : (n m : ℕ) → n ≤ highest c H → dotted c n (take m (map (λ w. w.value) (down c n H))) ≡ map sibling (take m (down c n H))
    dotted-down zero m l = ap (dotted c 0) (take-nil m) ∙ sym (ap (map sibling) (take-nil m))
    dotted-down (suc n) zero l = refl
    dotted-down (suc n) (suc m) l =
        let one : length (the c (suc n) H) ≡ 1 = full c n l in
        let w = the_dot (suc n) H (omega arith) in
        let x : Write V = record { column = c; counter = suc n; value = w.0 } in
        let z : suc n - 1 ≡ n = omega arith in
        let d : down c (suc n) H ≡ x ∷ down c n H = ap (λ xs. xs ++ down c n H) w.1 in
        ap (λ ws. dotted c (suc n) (take (suc m) (map (λ w. w.value) ws))) d
        ∙ ap (λ k. sibling x ∷ dotted c k (take m (map (λ w. w.value) (down c n H)))) z
        ∙ ap (λ ws. sibling x ∷ ws) (dotted-down n m (omega arith))
        ∙ sym (ap (λ ws. map sibling (take (suc m) ws)) d)
