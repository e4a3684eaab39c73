-- What a cursor's step tells of the bytes. Assumes nothing.
use Rattle.std.proofs.Common.{◌≡◌, ℕ, ◌+◌, ◌*◌, ◌≤◌, eqb, leb, List, [], ◌∷◌, length, get_or, take, drop, Ok, Err, Result, sym, refl, ap, ◌∙◌, arith}
use Rattle.std.proofs.lemmas.List.{length-drop, length-take-le, drop-drop}
use Rattle.std.proofs.lemmas.Bool.{leb-true, eqb-true, and_parts}
use Rattle.refusals.specs.declared.Refusal.{Refusal}
use Rattle.refusals.specs.declared.Refusal.TheVariants.{Truncated, UnexpectedTag, WrongLength, OutOfRange}
use Rattle.values.specs.BigEndian.{from_bytes}
use Rattle.formats.specs.Reading.{Field as FieldBytes, Head as HeadBytes, Raw, then, framed, tagged, head, in_range, raw_column}
use Rattle.formats.proofs.Steps.{ok_same, then_ok, unless_ok}
use Rattle.cursor.specs.Seen.{HeadShown, ColumnShown, head_seen, column_seen}

-- a field ends where its length says
framed_rest : (at : ℕ) (bs : List ℕ) (f : FieldBytes) → framed at bs ≡ Ok f → (f.rest ≡ drop (3 + length f.body) bs) × (3 + length f.body ≤ length bs)
framed_rest at [] f e = absurd (let z : ◌≡◌ {A = ℕ} 0 1 = cc in omega arith)
framed_rest at (t ∷ []) f e = absurd (let z : ◌≡◌ {A = ℕ} 0 1 = cc in omega arith)
framed_rest at (t ∷ h ∷ []) f e = absurd (let z : ◌≡◌ {A = ℕ} 0 1 = cc in omega arith)
framed_rest at (t ∷ h ∷ l ∷ bs) f e =
    let n : ℕ = h * 256 + l in
    let u = unless_ok (Truncated at) (leb n (length bs)) _ f e in
    let le : n ≤ length bs = leb-true n (length bs) u.0 in
    let len = length-take-le n bs le in
    rw (← ok_same u.1) (ap (λ k. drop k bs) (sym len) ∙ drop-drop (length (take n bs)) 3 (t ∷ h ∷ l ∷ bs), omega arith)

pub tagged_rest : (due at : ℕ) (bs : List ℕ) (f : FieldBytes) → tagged due at bs ≡ Ok f → (f.rest ≡ drop (3 + length f.body) bs) × (3 + length f.body ≤ length bs)
tagged_rest due at bs f e =
    let u = then_ok (framed at bs) _ f e in
    let v = unless_ok (UnexpectedTag at) (eqb u.0.tag due) _ f u.2 in
    let p : u.0 ≡ f = ok_same v.1 in
    rw (← p) (framed_rest at bs u.0 u.1)

-- ---- a head

pub record FoundHead (due at : ℕ) (bs : List ℕ) (key : ℕ) : Type 0 where
  pub is : head due at bs ≡ Ok (record { key = key; rest = drop 4 bs })
  pub low : key ≤ 15
  pub long : 4 ≤ length bs

pub head_rest : (due at : ℕ) (bs : List ℕ) (h : HeadBytes) → head due at bs ≡ Ok h → FoundHead due at bs h.key
head_rest due at bs h e =
    let u = then_ok (tagged due at bs) _ h e in
    let bd = u.0.body in
    let v = unless_ok (WrongLength at) (eqb (length bd) 1) _ h u.2 in
    let w = unless_ok (OutOfRange at) (leb (get_or bd 0 0) 15) _ h v.1 in
    let r = tagged_rest due at bs u.0 u.1 in
    let one = eqb-true (length bd) 1 v.0 in
    let p : h ≡ record { key = h.key; rest = drop 4 bs } = ap (λ d. record { key = h.key; rest = d }) (ap (λ q. q.rest) (sym (ok_same w.1)) ∙ r.0 ∙ ap (λ k. drop (3 + k) bs) one) in
    record { is = e ∙ ap Ok p; low = rw (← ok_same w.1) (leb-true (get_or bd 0 0) 15 w.0); long = omega (arith, r.1) }

pub head-found : (due at : ℕ) (bs : List ℕ) (s : HeadShown) → Ok s ≡ head_seen due at bs → FoundHead due at bs s.key × (length s.bytes ≡ 1)
head-found due at bs s e =
    let u = then_ok (head due at bs) _ _ (sym e) in
    let f = head_rest due at bs u.0 u.1 in
    rw (← ok_same u.2) (f, length-take-le 1 (drop 3 bs) (omega (arith, length-drop 3 bs, f.long)))

-- ---- a column

pub record FoundColumn (w at : ℕ) (bs : List ℕ) (s : ColumnShown) : Type 0 where
  pub here : s.at ≡ at
  pub is : raw_column w at bs ≡ Ok (record { column = s.column; count = s.count; top = s.top; values = s.values; next = at + (9 + length s.values); rest = drop (9 + length s.values) bs })
  pub low : s.column ≤ 23
  pub long : length s.values ≡ w * s.count

column_rest : (w at : ℕ) (bs : List ℕ) (r : Raw) → raw_column w at bs ≡ Ok r → FoundColumn w at bs (record { column = r.column; count = r.count; top = r.top; values = r.values; at = at })
column_rest w at bs r e =
    let u = then_ok (tagged 2 at bs) _ r e in
    let bd = u.0.body in
    let c = get_or bd 0 0 in
    let n = get_or bd 1 0 in
    let t = from_bytes (take 4 (drop 2 bd)) in
    let v = unless_ok (WrongLength at) (leb 6 (length bd)) _ r u.2 in
    let x = unless_ok (OutOfRange at) (in_range c n t) _ r v.1 in
    let y = unless_ok (WrongLength at) (eqb (length bd) (6 + w * n)) _ r x.1 in
    let f = tagged_rest 2 at bs u.0 u.1 in
    let six : 6 ≤ length bd = leb-true 6 (length bd) v.0 in
    let exact = eqb-true (length bd) (6 + w * n) y.0 in
    let l = length-drop 6 bd in
    let p = and_parts (leb c 23) _ x.0 in
    let span : 3 + length bd ≡ 9 + length (drop 6 bd) = omega arith in
    rw (← ok_same y.1)
    (record {
      here = refl;
      is = e ∙ sym y.1 ∙ ap (λ k. Ok (record { column = c; count = n; top = t; values = drop 6 bd; next = at + k; rest = u.0.rest })) span ∙ ap (λ d. Ok (record { column = c; count = n; top = t; values = drop 6 bd; next = at + (9 + length (drop 6 bd)); rest = d })) (f.0 ∙ ap (λ k. drop k bs) span);
      low = leb-true c 23 p.0;
      long = omega arith;
    })

pub column-found : (w at : ℕ) (bs : List ℕ) (s : ColumnShown) → Ok s ≡ column_seen w at bs → FoundColumn w at bs s
column-found w at bs s e =
    let u = then_ok (raw_column w at bs) _ _ (sym e) in
    rw (← ok_same u.2) (column_rest w at bs u.0 u.1)

-- what shows a refusal is one
pub shown_refused : {A B : Type 0} (show : A → B) (r : Result A Refusal) (e : Refusal) → ◌≡◌ {A = Result B Refusal} (Err e) (then r (λ a. Ok (show a))) → r ≡ Err e
shown_refused show (Ok a) e h = absurd (let z : ◌≡◌ {A = ℕ} 0 1 = cc in omega arith)
shown_refused show (Err x) e h = let p : x ≡ e = cc in ap Err p
