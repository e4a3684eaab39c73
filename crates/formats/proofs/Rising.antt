-- Fields of rising columns: what is written reads back, and what is read was so written. Assumes nothing.
use Rattle.std.proofs.Common.{◌≡◌, ℕ, zero, suc, ◌+◌, ◌≤◌, Bool, true, false, cond, eqb, ltb, ◌⊎◌, List, [], ◌∷◌, ◌++◌, length, Ok, Err, Result, sym, refl, ap, ◌∙◌, inl, inr, ⊎_elim, arith}
use Rattle.std.proofs.lemmas.Bool.{eqb-true, cond-true, cond-false, cases_Bool}
use Rattle.std.specs.List.{AllByRecursion}
use Rattle.refusals.specs.declared.Refusal.{Refusal}
use Rattle.refusals.specs.declared.Refusal.TheVariants.{Truncated, OutOfOrder}
use Rattle.values.specs.BigEndian.{Bytes}
use Rattle.formats.specs.Frames.{rising_fields}
use Rattle.formats.specs.Reading.{Told, in_front, rising}
use Rattle.formats.proofs.Steps.{ok_same, then_ok}
use Rattle.formats.proofs.Walking.{turn_here, turn_later}

-- One kind of field: `field_of` writes it, and `told` reads it.
pub record Kind {A : Type 0} (absent : A → Bool) (field_of : ℕ → A → List ℕ) (told : ℕ → List ℕ → Result (Told A) Refusal) (nothing : A) (good : A → Type 0) : Type 0 where
  pub nothing_good : good nothing
  pub nothing_absent : absent nothing ≡ true
  pub absent_nothing : (a : A) → good a → absent a ≡ true → a ≡ nothing
  pub at_end : (at : ℕ) → told at [] ≡ Err (Truncated at)
  pub written : (at c : ℕ) (a : A) (rest : List ℕ) → c ≤ 23 → good a → absent a ≡ false → (next : ℕ) × (told at (field_of c a ++ rest) ≡ Ok (record { column = c; what = a; next = next; rest = rest }))
  pub was_written : (at : ℕ) (bs : List ℕ) (f : Told A) → Bytes bs → told at bs ≡ Ok f → (bs ≡ field_of f.column f.what ++ f.rest) × good f.what × (absent f.what ≡ false) × Bytes f.rest

module _ {A : Type 0} (absent : A → Bool) (field_of : ℕ → A → List ℕ) (told : ℕ → List ℕ → Result (Told A) Refusal) (nothing : A) (good : A → Type 0) (kind : Kind absent field_of told nothing good) where
  abbrev fields : ℕ → List A → List ℕ
  fields = rising_fields absent field_of

  abbrev read : ℕ → ℕ → ℕ → List ℕ → Result (List A) Refusal
  read = rising told nothing

  -- ---- what is written reads back

  fields_gone : (c : ℕ) (a : A) (xs : List A) → absent a ≡ true → fields c (a ∷ xs) ≡ fields (c + 1) xs
  fields_gone c a xs p = ap (λ bs. bs ++ fields (c + 1) xs) (cond-true (absent a) [] (field_of c a) p)

  fields_here : (c : ℕ) (a : A) (xs : List A) → absent a ≡ false → fields c (a ∷ xs) ≡ field_of c a ++ fields (c + 1) xs
  fields_here c a xs p = ap (λ bs. bs ++ fields (c + 1) xs) (cond-false (absent a) [] (field_of c a) p)

  -- the first field, if there is one, is of no earlier column
  abbrev First : ℕ → ℕ → List ℕ → Type 0
  First at c bs = (bs ≡ []) ⊎ ((f : Told A) × (told at bs ≡ Ok f) × (c ≤ f.column))

  first_field : (at c : ℕ) (xs : List A) → c + length xs ≡ 24 → AllByRecursion good xs → First at c (fields c xs)
  first_field at c [] e h = inl refl
  first_field at c (a ∷ xs) e h = split (first_field at (c + 1) xs (omega arith) h.1)
    where
      split : First at (c + 1) (fields (c + 1) xs) → First at c (fields c (a ∷ xs))
      split later =
          ⊎_elim (λ p. ⊎_elim (λ q. inl (fields_gone c a xs p ∙ q)) (λ q. inr (q.0, ap (told at) (fields_gone c a xs p) ∙ q.1, omega (arith, q.2))) later)
          (λ p. let w = kind.written at c a (fields (c + 1) xs) (omega arith) h.0 p in inr (_, ap (told at) (fields_here c a xs p) ∙ w.1, omega arith)) (cases_Bool (absent a))

  -- a column without a field is passed over
  pass : (n c at : ℕ) (bs : List ℕ) → First at (c + 1) bs → read (suc n) c at bs ≡ in_front nothing (read n (c + 1) at bs)
  unfolding rising
  pass n c at bs first =
      ⊎_elim (λ (p : bs ≡ []). rw p refl) (λ q. turn_later told nothing kind.at_end n c at bs q.0 q.1 (omega (arith, q.2))) first

  pub reads_back : (n c at : ℕ) (xs : List A) → length xs ≡ n → c + n ≡ 24 → AllByRecursion good xs → read n c at (fields c xs) ≡ Ok xs
  unfolding rising
  reads_back zero c at [] l e h = refl
  reads_back (suc n) c at [] l e h = absurd (omega arith)
  reads_back zero c at (a ∷ xs) l e h = absurd (omega arith)
  reads_back (suc n) c at (a ∷ xs) l e h = split (λ next. reads_back n (c + 1) next xs (omega arith) (omega arith) h.1)
    where
      split : ((next : ℕ) → read n (c + 1) next (fields (c + 1) xs) ≡ Ok xs) → read (suc n) c at (fields c (a ∷ xs)) ≡ Ok (a ∷ xs)
      split rest =
          ⊎_elim
          (λ (p : absent a ≡ true). ap (read (suc n) c at) (fields_gone c a xs p) ∙ pass n c at (fields (c + 1) xs) (first_field at (c + 1) xs (omega arith) h.1) ∙ ap (in_front nothing) (rest at) ∙ ap (λ b. Ok (b ∷ xs)) (sym (kind.absent_nothing a h.0 p)))
          (λ (p : absent a ≡ false).
          let w = kind.written at c a (fields (c + 1) xs) (omega arith) h.0 p in
          ap (read (suc n) c at) (fields_here c a xs p) ∙ turn_here told nothing kind.at_end n c at (field_of c a ++ fields (c + 1) xs) _ w.1 refl ∙ ap (in_front a) (rest w.0))
          (cases_Bool (absent a))

  -- ---- what is read was so written

  pub record Wrote (n c : ℕ) (bs : List ℕ) (xs : List A) : Type 0 where
    pub wide : length xs ≡ n
    pub each : AllByRecursion good xs
    pub is : fields c xs ≡ bs

  front_of : (a : A) (r : Result (List A) Refusal) (xs : List A) → in_front a r ≡ Ok xs → (ys : List A) × (r ≡ Ok ys) × (xs ≡ a ∷ ys)
  front_of a r xs e = let u = then_ok r _ xs e in (u.0, u.1, sym (ok_same u.2))

  wrote_gone : (n c : ℕ) (bs : List ℕ) (xs ys : List A) → xs ≡ nothing ∷ ys → Wrote n (c + 1) bs ys → Wrote (suc n) c bs xs
  wrote_gone n c bs xs ys e w = rw e (record { wide = ap suc w.wide; each = (kind.nothing_good, w.each); is = fields_gone c nothing ys kind.nothing_absent ∙ w.is })

  pub was_written : (n c at : ℕ) (bs : List ℕ) (xs : List A) → Bytes bs → read n c at bs ≡ Ok xs → Wrote n c bs xs
  unfolding rising
  was_written zero c at [] xs b e = rw (← ok_same e) (record { wide = refl; each = tt; is = refl })
  was_written zero c at (x ∷ bs) xs b e = absurd (let u = then_ok (told at (x ∷ bs)) _ xs e in let p = u.2 in let z : ◌≡◌ {A = ℕ} 0 1 = cc in omega arith)
  was_written (suc n) c at [] xs b e = let u = front_of nothing (read n (c + 1) at []) xs e in wrote_gone n c [] xs u.0 u.2 (was_written n (c + 1) at [] u.0 b u.1)
  was_written (suc n) c at (x ∷ bs) xs b e =
      let u = then_ok (told at (x ∷ bs)) _ xs e in
      split u.0 u.1 u.2 (λ ys p. was_written n (c + 1) at (x ∷ bs) ys b p) (λ ys p. was_written n (c + 1) u.0.next u.0.rest ys (kind.was_written at (x ∷ bs) u.0 b u.1).3 p)
    where
      split : (f : Told A) → told at (x ∷ bs) ≡ Ok f → cond (ltb f.column c) (Err (OutOfOrder at)) (cond (eqb f.column c) (in_front f.what (read n (c + 1) f.next f.rest)) (in_front nothing (read n (c + 1) at (x ∷ bs)))) ≡ Ok xs →
          ((ys : List A) → read n (c + 1) at (x ∷ bs) ≡ Ok ys → Wrote n (c + 1) (x ∷ bs) ys) → ((ys : List A) → read n (c + 1) f.next f.rest ≡ Ok ys → Wrote n (c + 1) f.rest ys) → Wrote (suc n) c (x ∷ bs) xs
      split f t is later rest =
          ⊎_elim (λ (p : ltb f.column c ≡ true). absurd (let q = sym (cond-true (ltb f.column c) _ _ p) ∙ is in let z : ◌≡◌ {A = ℕ} 0 1 = cc in omega arith))
          (λ (p : ltb f.column c ≡ false).
          let q = sym (cond-false (ltb f.column c) _ _ p) ∙ is in
          ⊎_elim (λ (h : eqb f.column c ≡ true). here (eqb-true f.column c h) (sym (cond-true (eqb f.column c) _ _ h) ∙ q))
          (λ (h : eqb f.column c ≡ false). let v = front_of nothing (read n (c + 1) at (x ∷ bs)) xs (sym (cond-false (eqb f.column c) _ _ h) ∙ q) in wrote_gone n c (x ∷ bs) xs v.0 v.2 (later v.0 v.1))
          (cases_Bool (eqb f.column c)))
          (cases_Bool (ltb f.column c))
        where
          here : f.column ≡ c → in_front f.what (read n (c + 1) f.next f.rest) ≡ Ok xs → Wrote (suc n) c (x ∷ bs) xs
          here h e =
              let v = front_of f.what (read n (c + 1) f.next f.rest) xs e in
              let w = kind.was_written at (x ∷ bs) f b t in
              let r = rest v.0 v.1 in
              rw v.2 (record { wide = ap suc r.wide; each = (w.1, r.each); is = fields_here c f.what v.0 w.2 ∙ ap (λ d. field_of c f.what ++ d) r.is ∙ ap (λ d. field_of d f.what ++ f.rest) (sym h) ∙ sym w.0 })
