-- A whole frame: its head, and then fields of one kind. Assumes nothing.
use Rattle.std.proofs.Common.{◌≡◌, ℕ, ◌+◌, ◌*◌, ◌≤◌, Bool, cond, eqb, leb, List, [], ◌∷◌, ◌++◌, length, get_or, Ok, Result, sym, refl, ap, ◌∙◌, mul-zero, mul-suc, arith}
use Rattle.std.proofs.lemmas.List.{length-append}
use Rattle.std.proofs.lemmas.Bool.{le-leb, leb-true, eqb-true, cond_both}
use Rattle.std.specs.List.{AllByRecursion}
use Rattle.refusals.specs.declared.Refusal.{Refusal}
use Rattle.refusals.specs.declared.Refusal.TheVariants.{WrongLength, OutOfRange}
use Rattle.values.specs.BigEndian.{Bytes}
use Rattle.formats.specs.Frames.{field, head_field, rising_fields}
use Rattle.formats.specs.Reading.{Head, Told, Keyed, then, tagged, head, rising}
use Rattle.formats.proofs.Steps.{then_ok, unless_ok, then_goes, unless_goes, ok_same, tagged-field, field-tagged}
use Rattle.formats.proofs.Rising.{Kind, reads_back, was_written}

-- ---- the head

pub head_written : (due at key : ℕ) (rest : List ℕ) → key ≤ 15 → head due at (head_field due key ++ rest) ≡ Ok (record { key = key; rest = rest })
head_written due at key rest low =
    then_goes _ _ _ _ (tagged-field due at (key ∷ []) rest (omega arith)) (unless_goes (WrongLength at) _ _ _ refl (unless_goes (OutOfRange at) (leb key 15) _ _ (le-leb key 15 low) refl))

single : (bd : List ℕ) → length bd ≡ 1 → get_or bd 0 0 ∷ [] ≡ bd
single [] l = absurd (omega arith)
single (x ∷ []) l = refl
single (x ∷ y ∷ bd) l = absurd (omega arith)

pub head_was_written : (due at : ℕ) (bs : List ℕ) (h : Head) → Bytes bs → head due at bs ≡ Ok h → (bs ≡ head_field due h.key ++ h.rest) × (h.key ≤ 15) × Bytes h.rest
head_was_written due at bs h b e =
    let u = then_ok (tagged due at bs) _ h e in
    let bd = u.0.body in
    let v = unless_ok (WrongLength at) (eqb (length bd) 1) _ h u.2 in
    let w = unless_ok (OutOfRange at) (leb (get_or bd 0 0) 15) _ h v.1 in
    let g = field-tagged due at bs u.0 b u.1 in
    rw (← ok_same w.1)
    (g.1.is ∙ ap (λ t. field t bd ++ u.0.rest) g.0 ∙ ap (λ d. field due d ++ u.0.rest) (sym (single bd (eqb-true (length bd) 1 v.0))), leb-true (get_or bd 0 0) 15 w.0, g.1.rest_bytes)

-- ---- the whole

module _ {A : Type 0} (absent : A → Bool) (field_of : ℕ → A → List ℕ) (told : ℕ → List ℕ → Result (Told A) Refusal) (nothing : A) (good : A → Type 0) (kind : Kind absent field_of told nothing good) (due : ℕ) where
  abbrev whole : ℕ → List A → List ℕ
  whole key xs = head_field due key ++ rising_fields absent field_of 0 xs

  abbrev read : List ℕ → Result (Keyed (List A)) Refusal
  read bs = then (head due 0 bs) (λ h. then (rising told nothing 24 0 4 h.rest) (λ xs. Ok (record { key = h.key; what = xs })))

  pub whole_reads : (key : ℕ) (xs : List A) → key ≤ 15 → length xs ≡ 24 → AllByRecursion good xs → read (whole key xs) ≡ Ok (record { key = key; what = xs })
  whole_reads key xs low wide each =
      then_goes _ _ _ _ (head_written due 0 key (rising_fields absent field_of 0 xs) low) (then_goes _ _ _ _ (reads_back absent field_of told nothing good kind 24 0 4 xs wide refl each) refl)

  pub record Whole (bs : List ℕ) (key : ℕ) (xs : List A) : Type 0 where
    pub low : key ≤ 15
    pub wide : length xs ≡ 24
    pub each : AllByRecursion good xs
    pub is : whole key xs ≡ bs

  moved : (bs : List ℕ) (j k : ℕ) (xs ys : List A) → j ≡ k → xs ≡ ys → Whole bs j xs → Whole bs k ys
  moved bs j k xs ys p q w = rw (← p, ← q) w

  pub whole_written : (bs : List ℕ) (key : ℕ) (xs : List A) → Bytes bs → read bs ≡ Ok (record { key = key; what = xs }) → Whole bs key xs
  whole_written bs key xs b e =
      let u = then_ok (head due 0 bs) _ _ e in
      let v = then_ok (rising told nothing 24 0 4 u.0.rest) _ _ u.2 in
      let h = head_was_written due 0 bs u.0 b u.1 in
      let w = was_written absent field_of told nothing good kind 24 0 4 u.0.rest v.0 h.2 v.1 in
      let k : u.0.key ≡ key = ap (λ q. q.key) (ok_same v.2) in
      let x : v.0 ≡ xs = ap (λ q. q.what) (ok_same v.2) in
      moved bs u.0.key key v.0 xs k x (record { low = h.1; wide = w.wide; each = w.each; is = ap (λ d. head_field due u.0.key ++ d) w.is ∙ sym h.0 })

  pub fields_short : (m : ℕ) → ((c : ℕ) (a : A) → good a → length (field_of c a) ≤ m) → (c : ℕ) (xs : List A) → AllByRecursion good xs → length (rising_fields absent field_of c xs) ≤ m * length xs
  fields_short m short c [] h = omega (arith, mul-zero m)
  fields_short m short c (a ∷ xs) h =
      let f = cond (absent a) [] (field_of c a) in
      let one : length f ≤ m = cond_both (absent a) [] (field_of c a) (λ bs. length bs ≤ m) (λ e. omega arith) (λ e. short c a h.0) in
      omega (arith, length-append f (rising_fields absent field_of (c + 1) xs), fields_short m short (c + 1) xs h.1, mul-suc m (length xs))
