-- What a union of writes has: `highest` goes to `max`, `among` to `◌||◌`, and `the` to the first that has one. Assumes nothing.
use Rattle.std.proofs.Common.{◌≡◌, ℕ, zero, suc, ◌+◌, ◌-◌, ◌<◌, ◌≤◌, max, Bool, true, false, cond, not, ◌||◌, eqb, List, [], ◌∷◌, ◌++◌, length, take, sym, refl, ap, ◌∙◌, ⊎_elim, append_assoc, arith, length-append}
use lib.Seq.{take-nil, take-append-add}
use Rattle.std.specs.List.{flat_map, ContainsAt as Has, AllByRecursion}
use Rattle.std.proofs.ByRecursion.{All-weaker, all-has}
use Rattle.std.proofs.lemmas.Bool.{eqb-true, and_parts, cond-true, cond-false, cases_lt}
use Rattle.std.proofs.lemmas.Bool.Decides.{nat_tests}
use Rattle.history.specs.Events.{Write, Event, Events, as_list, writes, covered, has_dot, among, outside, highest, the, down}

joined-++ : {X A : Type 0} (f : X → List A) (xs ys : List X) → flat_map f (xs ++ ys) ≡ flat_map f xs ++ flat_map f ys
joined-++ f [] ys = refl
joined-++ f (x ∷ xs) ys = ap (λ more. f x ++ more) (joined-++ f xs ys) ∙ sym (append_assoc (f x) (flat_map f xs) (flat_map f ys))

module _ {V : Type 0} where
  pub writes-++ : (K L : Events V) → writes (K ++ L) ≡ writes K ++ writes L
  writes-++ K L = joined-++ (λ e. as_list e.write) K L

  pub covered-++ : (K L : Events V) → covered (K ++ L) ≡ covered K ++ covered L
  covered-++ K L = joined-++ (λ e. e.covers) K L

  pub highest-++ : (c : ℕ) (xs ys : List (Write V)) → highest c (xs ++ ys) ≡ max (highest c xs) (highest c ys)
  highest-++ c [] ys = omega arith
  highest-++ c (x ∷ xs) ys = omega (arith, highest-++ c xs ys)

  pub among-++ : (c n : ℕ) (xs ys : List (Write V)) → among c n (xs ++ ys) ≡ (among c n xs || among c n ys)
  among-++ c n [] ys = refl
  among-++ c n (x ∷ xs) ys = go (has_dot c n x) (among-++ c n xs ys)
    where
      go : (b : Bool) → among c n (xs ++ ys) ≡ (among c n xs || among c n ys) → (b || among c n (xs ++ ys)) ≡ ((b || among c n xs) || among c n ys)
      go true e = refl
      go false e = e

  -- the write of xs, if it has one
  pub the-left : (c n : ℕ) (xs ys : List (Write V)) → 1 ≤ length (the c n xs) → the c n (xs ++ ys) ≡ the c n xs
  the-left c n [] ys h = absurd (omega arith)
  the-left c n (x ∷ xs) ys h = go (has_dot c n x) h (the-left c n xs ys)
    where
      go : (b : Bool) → 1 ≤ length (cond b (x ∷ []) (the c n xs)) → (1 ≤ length (the c n xs) → the c n (xs ++ ys) ≡ the c n xs) → cond b (x ∷ []) (the c n (xs ++ ys)) ≡ cond b (x ∷ []) (the c n xs)
      go true h ih = refl
      go false h ih = ih h

  pub the_right : (c n : ℕ) (xs ys : List (Write V)) → the c n xs ≡ [] → the c n (xs ++ ys) ≡ the c n ys
  the_right c n [] ys h = refl
  the_right c n (x ∷ xs) ys h = go (has_dot c n x) h (the_right c n xs ys)
    where
      go : (b : Bool) → cond b (x ∷ []) (the c n xs) ≡ [] → (the c n xs ≡ [] → the c n (xs ++ ys) ≡ the c n ys) → cond b (x ∷ []) (the c n (xs ++ ys)) ≡ the c n ys
      go true h ih = let z : ◌≡◌ {A = ℕ} 1 0 = ap length h in absurd (omega arith)
      go false h ih = ih h

  -- a write with the dot (c, n) is one of column c, and n is at most the highest counter
  pub dot_below : (c n : ℕ) (w : Write V) → has_dot c n w ≡ true → n ≤ cond (eqb w.column c) w.counter 0
  dot_below c n w h = grind (arith, nat_tests)

  pub none_above : (c n : ℕ) (ws : List (Write V)) → highest c ws < n → (the c n ws ≡ []) × (among c n ws ≡ false)
  none_above c n [] h = (refl, refl)
  none_above c n (w ∷ ws) h = go (has_dot c n w) refl (none_above c n ws (omega arith))
    where
      go : (b : Bool) → has_dot c n w ≡ b → (the c n ws ≡ []) × (among c n ws ≡ false) → (cond b (w ∷ []) (the c n ws) ≡ []) × ((b || among c n ws) ≡ false)
      go true e ih = absurd (omega (arith, dot_below c n w e))
      go false e ih = ih

  pub among-the : (c n : ℕ) (ws : List (Write V)) → 1 ≤ length (the c n ws) → among c n ws ≡ true
  among-the c n [] h = absurd (omega arith)
  among-the c n (w ∷ ws) h = go (has_dot c n w) h (among-the c n ws)
    where
      go : (b : Bool) → 1 ≤ length (cond b (w ∷ []) (the c n ws)) → (1 ≤ length (the c n ws) → among c n ws ≡ true) → (b || among c n ws) ≡ true
      go true h ih = refl
      go false h ih = ih h

  same_dot : (c n : ℕ) (w : Write V) (xs : List (Write V)) → has_dot c n w ≡ true → among w.column w.counter xs ≡ among c n xs
  same_dot c n w xs h =
      let both = and_parts (eqb w.column c) (eqb w.counter n) h in
      ap (λ x. among x w.counter xs) (eqb-true w.column c both.0) ∙ ap (λ x. among c x xs) (eqb-true w.counter n both.1)

  -- what stands outside xs: the write of ws, unless xs has its dot
  pub the-outside : (c n : ℕ) (xs ws : List (Write V)) → the c n (outside xs ws) ≡ cond (among c n xs) [] (the c n ws)
  the-outside c n xs [] = go (among c n xs)
    where
      go : (b : Bool) → ◌≡◌ {A = List (Write V)} [] (cond b [] [])
      go true = refl
      go false = refl
  the-outside c n xs (w ∷ ws) = go (has_dot c n w) refl (among w.column w.counter xs) refl (the-outside c n xs ws)
    where
      go : (b : Bool) → has_dot c n w ≡ b → (a : Bool) → among w.column w.counter xs ≡ a → the c n (outside xs ws) ≡ cond (among c n xs) [] (the c n ws) → the c n (cond (not a) (w ∷ outside xs ws) (outside xs ws)) ≡ cond (among c n xs) [] (cond b (w ∷ []) (the c n ws))
      go true e true f ih = let g : among c n xs ≡ true = sym (same_dot c n w xs e) ∙ f in ih ∙ cond-true (among c n xs) _ _ g ∙ sym (cond-true (among c n xs) _ _ g)
      go true e false f ih = let g : among c n xs ≡ false = sym (same_dot c n w xs e) ∙ f in cond-true (has_dot c n w) _ _ e ∙ sym (cond-false (among c n xs) _ _ g)
      go false e true f ih = ih
      go false e false f ih = cond-false (has_dot c n w) _ _ e ∙ ih

  -- ---- a column, newest first

  -- nothing stands above t
  pub down_stop : (c t n : ℕ) (ws : List (Write V)) → t ≤ n → ((k : ℕ) → t ≤ k → the c (suc k) ws ≡ []) → down c n ws ≡ down c t ws
  down_stop c t zero ws h none = let e : 0 ≡ t = omega arith in ap (λ m. down c m ws) e
  down_stop c t (suc n) ws h none = ⊎_elim here (λ l. below l (down_stop c t n ws l none)) (cases_lt n t)
    where
      here : n < t → down c (suc n) ws ≡ down c t ws
      here l = let e : suc n ≡ t = omega arith in ap (λ m. down c m ws) e

      below : t ≤ n → down c n ws ≡ down c t ws → down c (suc n) ws ≡ down c t ws
      below l ih = ap (λ x. x ++ down c n ws) (none n l) ∙ ih

  pub length-down : (c n : ℕ) (H : List (Write V)) → ((k : ℕ) → suc k ≤ n → length (the c (suc k) H) ≡ 1) → length (down c n H) ≡ n
  length-down c zero H full = refl
  length-down c (suc n) H full =
      let ih = length-down c n H (λ k l. full k (omega arith)) in
      let one : length (the c (suc n) H) ≡ 1 = full n (omega arith) in
      rw length-append (omega arith)

  -- ws has what H has above f and up to n, and nothing up to f
  pub down_cut : (c t f n : ℕ) (H ws : List (Write V)) → ((k : ℕ) → suc k ≤ t → length (the c (suc k) H) ≡ 1) → ((k : ℕ) → suc k ≤ f → the c (suc k) ws ≡ []) → ((k : ℕ) → f ≤ k → suc k ≤ t → the c (suc k) ws ≡ the c (suc k) H) → n ≤ t → down c n ws ≡ take (n - f) (down c n H)
  down_cut c t f zero H ws full low mid h = sym (take-nil (0 - f))
  down_cut c t f (suc n) H ws full low mid h =
      let ih = down_cut c t f n H ws full low mid (omega arith) in
      ⊎_elim (under ih) (over ih) (cases_lt n f)
    where
      under : down c n ws ≡ take (n - f) (down c n H) → n < f → down c (suc n) ws ≡ take (suc n - f) (down c (suc n) H)
      under ih l =
          let z : n - f ≡ 0 = omega arith in
          let y : suc n - f ≡ 0 = omega arith in
          ap (λ x. x ++ down c n ws) (low n l) ∙ ih ∙ ap (λ m. take m (down c n H)) z ∙ sym (ap (λ m. take m (down c (suc n) H)) y)

      over : down c n ws ≡ take (n - f) (down c n H) → f ≤ n → down c (suc n) ws ≡ take (suc n - f) (down c (suc n) H)
      over ih l =
          let one : length (the c (suc n) H) ≡ 1 = full n h in
          let e : length (the c (suc n) H) + (n - f) ≡ suc n - f = omega arith in
          ap (λ x. x ++ down c n ws) (mid n l h) ∙ ap (λ x. the c (suc n) H ++ x) ih ∙ sym (take-append-add (the c (suc n) H) (down c n H) (n - f)) ∙ ap (λ m. take m (down c (suc n) H)) e

  pub down_same : (c n : ℕ) (xs ys : List (Write V)) → ((k : ℕ) → suc k ≤ n → the c (suc k) xs ≡ the c (suc k) ys) → down c n xs ≡ down c n ys
  down_same c zero xs ys same = refl
  down_same c (suc n) xs ys same =
      ap (λ x. x ++ down c n xs) (same n (omega arith)) ∙ ap (λ x. the c (suc n) ys ++ x) (down_same c n xs ys (λ k l. same k (omega arith)))

  -- ---- sets: what the members alone decide

  highest_member : (f : Event V → List (Write V)) (c : ℕ) (L : Events V) → AllByRecursion (λ e. highest c (f e) ≤ highest c (flat_map f L)) L
  highest_member f c [] = tt
  highest_member f c (e ∷ L) =
      (omega (arith, highest-++ c (f e) (flat_map f L)), All-weaker (λ x. highest c (f x) ≤ highest c (flat_map f L)) (λ x. highest c (f x) ≤ highest c (f e ++ flat_map f L)) (λ x h. omega (arith, highest-++ c (f e) (flat_map f L))) L (highest_member f c L))

  highest_subset : (f : Event V → List (Write V)) (c : ℕ) (K L : Events V) → AllByRecursion (Has L) K → highest c (flat_map f K) ≤ highest c (flat_map f L)
  highest_subset f c [] L h = omega arith
  highest_subset f c (e ∷ K) L h =
      let one = all-has (λ x. highest c (f x) ≤ highest c (flat_map f L)) L e (highest_member f c L) h.0 in
      omega (arith, highest-++ c (f e) (flat_map f K), highest_subset f c K L h.1)

  pub writes_subset : (c : ℕ) (K L : Events V) → AllByRecursion (Has L) K → highest c (writes K) ≤ highest c (writes L)
  writes_subset = highest_subset (λ e. as_list e.write)

  pub covered_subset : (c : ℕ) (K L : Events V) → AllByRecursion (Has L) K → highest c (covered K) ≤ highest c (covered L)
  covered_subset = highest_subset (λ e. e.covers)
