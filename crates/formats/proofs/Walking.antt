-- The reader of rising columns, as a walk from field to field has it. Assumes nothing.
use Rattle.std.proofs.Common.{◌≡◌, ℕ, zero, suc, ◌+◌, ◌<◌, cond, eqb, ltb, List, [], ◌∷◌, length, get_or, drop, replicate, Ok, Err, Result, sym, refl, ap, ◌∙◌, ⊎_elim, arith}
use Rattle.std.proofs.lemmas.Bool.{eq-eqb, ne_eqb, le-ltb, lt-ltb, cond-true, cond-false, cases_order}
use Rattle.refusals.specs.declared.Refusal.{Refusal}
use Rattle.refusals.specs.declared.Refusal.TheVariants.{Truncated, OutOfOrder}
use Rattle.formats.specs.Reading.{Told, then, in_front, rising, verdict}
use Rattle.formats.proofs.Steps.{ok_same, then_ok}

module _ {A : Type 0} (told : ℕ → List ℕ → Result (Told A) Refusal) (nothing : A) (at_end : (at : ℕ) → told at [] ≡ Err (Truncated at)) where
  abbrev read : ℕ → ℕ → ℕ → List ℕ → Result (List A) Refusal
  read = rising told nothing

  -- ---- one turn, where there is a field at the front

  turn : (n c at : ℕ) (bs : List ℕ) (f : Told A) → told at bs ≡ Ok f → read (suc n) c at bs ≡ cond (ltb f.column c) (Err (OutOfOrder at)) (cond (eqb f.column c) (in_front f.what (read n (c + 1) f.next f.rest)) (in_front nothing (read n (c + 1) at bs)))
  unfolding rising
  turn n c at [] f e = absurd (let p = at_end at in let z : ◌≡◌ {A = ℕ} 0 1 = cc in omega arith)
  turn n c at (b ∷ bs) f e = ap (λ r. then r (λ g. cond (ltb g.column c) (Err (OutOfOrder at)) (cond (eqb g.column c) (in_front g.what (rising told nothing n (c + 1) g.next g.rest)) (in_front nothing (rising told nothing n (c + 1) at (b ∷ bs)))))) e

  pub turn_here : (n c at : ℕ) (bs : List ℕ) (f : Told A) → told at bs ≡ Ok f → f.column ≡ c → read (suc n) c at bs ≡ in_front f.what (read n (c + 1) f.next f.rest)
  turn_here n c at bs f e is = turn n c at bs f e ∙ cond-false (ltb f.column c) _ _ (le-ltb f.column c (omega arith)) ∙ cond-true (eqb f.column c) _ _ (eq-eqb f.column c is)

  pub turn_later : (n c at : ℕ) (bs : List ℕ) (f : Told A) → told at bs ≡ Ok f → c < f.column → read (suc n) c at bs ≡ in_front nothing (read n (c + 1) at bs)
  turn_later n c at bs f e lt = turn n c at bs f e ∙ cond-false (ltb f.column c) _ _ (le-ltb f.column c (omega arith)) ∙ cond-false (eqb f.column c) _ _ (ne_eqb f.column c (λ (p : f.column ≡ c). omega arith))

  pub turn_earlier : (n c at : ℕ) (bs : List ℕ) (f : Told A) → told at bs ≡ Ok f → f.column < c → read (suc n) c at bs ≡ Err (OutOfOrder at)
  turn_earlier n c at bs f e lt = turn n c at bs f e ∙ cond-true (ltb f.column c) _ _ (lt-ltb f.column c lt)

  -- ---- a walk

  -- at the end of the bytes
  pub walk_end : (n c at : ℕ) → read n c at [] ≡ Ok (replicate n nothing)
  unfolding rising
  walk_end zero c at = refl
  walk_end (suc n) c at = ap (in_front nothing) (walk_end n (c + 1) at)

  -- at a field that is refused
  pub walk_refused : (n c at : ℕ) (bs : List ℕ) (e : Refusal) → 0 < length bs → told at bs ≡ Err e → read n c at bs ≡ Err e
  unfolding rising
  walk_refused n c at [] e l h = absurd (omega arith)
  walk_refused zero c at (b ∷ bs) e l h = ap (λ r. then r (λ f. Err (OutOfOrder at))) h
  walk_refused (suc n) c at (b ∷ bs) e l h = ap (λ r. then r (λ f. cond (ltb f.column c) (Err (OutOfOrder at)) (cond (eqb f.column c) (in_front f.what (rising told nothing n (c + 1) f.next f.rest)) (in_front nothing (rising told nothing n (c + 1) at (b ∷ bs)))))) h

  -- at a field of a column that is past
  pub walk_past : (n c at : ℕ) (bs : List ℕ) (f : Told A) → told at bs ≡ Ok f → f.column < c → read n c at bs ≡ Err (OutOfOrder at)
  unfolding rising
  walk_past zero c at [] f h l = absurd (let p = at_end at in let z : ◌≡◌ {A = ℕ} 0 1 = cc in omega arith)
  walk_past zero c at (b ∷ bs) f h l = ap (λ r. then r (λ g. Err (OutOfOrder at))) h
  walk_past (suc n) c at bs f h l = turn_earlier n c at bs f h l

  front_verdict : (a : A) (r : Result (List A) Refusal) → verdict (in_front a r) ≡ verdict r
  front_verdict a (Ok xs) = refl
  front_verdict a (Err e) = refl

  -- past a field: k columns without one come before it
  pub walk_verdict : (k n c at : ℕ) (bs : List ℕ) (f : Told A) → told at bs ≡ Ok f → f.column ≡ c + k → verdict (read (k + suc n) c at bs) ≡ verdict (read n (f.column + 1) f.next f.rest)
  walk_verdict zero n c at bs f h e =
      let p : 0 + suc n ≡ suc n = omega arith in
      let q : c + 1 ≡ f.column + 1 = omega arith in
      ap (λ m. verdict (read m c at bs)) p ∙ ap verdict (turn_here n c at bs f h (omega arith)) ∙ front_verdict f.what (read n (c + 1) f.next f.rest) ∙ ap (λ d. verdict (read n d f.next f.rest)) q
  walk_verdict (suc k) n c at bs f h e =
      let p : suc k + suc n ≡ suc (k + suc n) = omega arith in
      ap (λ m. verdict (read m c at bs)) p ∙ ap verdict (turn_later (k + suc n) c at bs f h (omega arith)) ∙ front_verdict nothing (read (k + suc n) (c + 1) at bs) ∙ walk_verdict k n (c + 1) at bs f h (omega arith)

  pub record Walked (xs : List A) (k n : ℕ) (f : Told A) : Type 0 where
    pub before : (i : ℕ) → i < k → get_or xs i nothing ≡ nothing
    pub here : get_or xs k nothing ≡ f.what
    pub rest : read n (f.column + 1) f.next f.rest ≡ Ok (drop (k + 1) xs)

  -- what an accepted walk found there
  pub walk_found : (k n c at : ℕ) (bs : List ℕ) (f : Told A) (xs : List A) → told at bs ≡ Ok f → f.column ≡ c + k → read (k + suc n) c at bs ≡ Ok xs → Walked xs k n f
  walk_found zero n c at bs f xs h e is =
      let p : 0 + suc n ≡ suc n = omega arith in
      let q : c + 1 ≡ f.column + 1 = omega arith in
      let u = then_ok (read n (c + 1) f.next f.rest) _ xs (sym (turn_here n c at bs f h (omega arith)) ∙ ap (λ m. read m c at bs) (sym p) ∙ is) in
      first u.0 (sym (ok_same u.2)) (ap (λ d. read n d f.next f.rest) (sym q) ∙ u.1)
    where
      first : (ys : List A) → xs ≡ f.what ∷ ys → read n (f.column + 1) f.next f.rest ≡ Ok ys → Walked xs 0 n f
      first ys x r = rw x (record { before = λ i l. absurd (omega arith); here = refl; rest = r })
  walk_found (suc k) n c at bs f xs h e is =
      let p : suc k + suc n ≡ suc (k + suc n) = omega arith in
      let u = then_ok (read (k + suc n) (c + 1) at bs) _ xs (sym (turn_later (k + suc n) c at bs f h (omega arith)) ∙ ap (λ m. read m c at bs) (sym p) ∙ is) in
      more u.0 (sym (ok_same u.2)) (walk_found k n (c + 1) at bs f u.0 h (omega arith) u.1)
    where
      more : (ys : List A) → xs ≡ nothing ∷ ys → Walked ys k n f → Walked xs (suc k) n f
      more ys x w = rw x (record { before = go; here = w.here; rest = w.rest ∙ (let q : suc k + 1 ≡ suc (k + 1) = omega arith in ap (λ j. Ok (drop j (nothing ∷ ys))) (sym q)) })
        where
          go : (i : ℕ) → i < suc k → get_or (nothing ∷ ys) i nothing ≡ nothing
          go zero l = refl
          go (suc i) l = w.before i (omega arith)

  wide_front : (a : A) (n : ℕ) (r : Result (List A) Refusal) (xs : List A) → ((ys : List A) → r ≡ Ok ys → length ys ≡ n) → in_front a r ≡ Ok xs → length xs ≡ suc n
  wide_front a n r xs h e = let u = then_ok r _ xs e in ap length (sym (ok_same u.2)) ∙ ap suc (h u.0 u.1)

  -- an accepted walk tells of each column
  pub walk_wide : (n c at : ℕ) (bs : List ℕ) (xs : List A) → read n c at bs ≡ Ok xs → length xs ≡ n
  unfolding rising
  walk_wide zero c at [] xs e = ap length (sym (ok_same e))
  walk_wide zero c at (b ∷ bs) xs e = absurd (let u = then_ok (told at (b ∷ bs)) _ xs e in let p = u.2 in let z : ◌≡◌ {A = ℕ} 0 1 = cc in omega arith)
  walk_wide (suc n) c at [] xs e = wide_front nothing n (read n (c + 1) at []) xs (λ ys p. walk_wide n (c + 1) at [] ys p) e
  walk_wide (suc n) c at (b ∷ bs) xs e = let u = then_ok (told at (b ∷ bs)) _ xs e in split u.0 u.1 (λ next rest ys p. walk_wide n (c + 1) next rest ys p)
    where
      split : (f : Told A) → told at (b ∷ bs) ≡ Ok f → ((next : ℕ) (rest : List ℕ) (ys : List A) → read n (c + 1) next rest ≡ Ok ys → length ys ≡ n) → length xs ≡ suc n
      split f t h =
          ⊎_elim (λ (p : f.column ≡ c). wide_front f.what n (read n (c + 1) f.next f.rest) xs (h f.next f.rest) (sym (turn_here n c at (b ∷ bs) f t p) ∙ e))
          (⊎_elim (λ (p : f.column < c). absurd (let q = sym (turn_earlier n c at (b ∷ bs) f t p) ∙ e in let z : ◌≡◌ {A = ℕ} 0 1 = cc in omega arith))
          (λ (p : c < f.column). wide_front nothing n (read n (c + 1) at (b ∷ bs)) xs (h at (b ∷ bs)) (sym (turn_later n c at (b ∷ bs) f t p) ∙ e)))
          (cases_order f.column c)
