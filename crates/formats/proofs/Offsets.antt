-- How far into a frame a refusal can point. Assumes nothing.
use Rattle.std.proofs.Common.{◌≡◌, ℕ, zero, suc, ◌+◌, ◌*◌, ◌≤◌, Bool, true, false, cond, eqb, ltb, leb, List, [], ◌∷◌, length, get_or, take, drop, Ok, Err, Result, sym, refl, ap, ◌∙◌, mul-le-mul_left, mul-suc, arith}
use Rattle.std.proofs.lemmas.Bool.{leb-true, eqb-true, and_parts, cond_both}
use Rattle.refusals.specs.declared.Refusal.{Refusal}
use Rattle.refusals.specs.declared.Refusal.TheVariants.{Truncated, UnexpectedTag, WrongLength, OutOfRange, OutOfOrder}
use Rattle.refusals.specs.Refusals.{offset}
use Rattle.values.specs.BigEndian.{from_bytes}
use Rattle.dvvset.specs.Clock.{ColumnState, LegalState, State, column_at, no_writes}
use Rattle.formats.specs.Frames.{fields_length, frame_length, unwritten}
use Rattle.formats.specs.Reading.{Head, Keyed, Raw, Told, then, unless, framed, tagged, head, in_range, raw_column, column_told, in_front, rising, reading}
use Rattle.formats.proofs.Steps.{ok_same, then_ok, unless_ok}

-- a refusal, if it is one, points no further than m
abbrev Near : {A : Type 0} → ℕ → Result A Refusal → Type 0
Near m (Ok a) = Unit {0}
Near m (Err e) = offset e ≤ m

near_then : {A B : Type 0} (m : ℕ) (r : Result A Refusal) (f : A → Result B Refusal) → Near m r → ((a : A) → r ≡ Ok a → Near m (f a)) → Near m (then r f)
near_then m (Ok a) f h k = k a refl
near_then m (Err e) f h k = h

near_unless : {A : Type 0} (m : ℕ) (e : Refusal) (b : Bool) (r : Result A Refusal) → offset e ≤ m → Near m r → Near m (unless e b r)
near_unless m e true r h k = k
near_unless m e false r h k = h

near_more : {A : Type 0} (m n : ℕ) (r : Result A Refusal) → m ≤ n → Near m r → Near n r
near_more m n (Ok a) l h = tt
near_more m n (Err e) l h = omega arith

-- ---- one field points at its tag

near_framed : (at : ℕ) (bs : List ℕ) → Near at (framed at bs)
near_framed at [] = omega arith
near_framed at (t ∷ []) = omega arith
near_framed at (t ∷ h ∷ []) = omega arith
near_framed at (t ∷ h ∷ l ∷ bs) = near_unless at (Truncated at) _ (Ok _) (omega arith) tt

near_tagged : (due at : ℕ) (bs : List ℕ) → Near at (tagged due at bs)
near_tagged due at bs = near_then at (framed at bs) _ (near_framed at bs) (λ f e. near_unless at (UnexpectedTag at) _ (Ok f) (omega arith) tt)

near_head : (due at : ℕ) (bs : List ℕ) → Near at (head due at bs)
near_head due at bs = near_then at (tagged due at bs) _ (near_tagged due at bs) (λ f e.
    let key = get_or f.body 0 0 in
    let there : Result Head Refusal = Ok (record { key = key; rest = f.rest }) in
    near_unless at (WrongLength at) (eqb (length f.body) 1) (unless (OutOfRange at) (leb key 15) there) (omega arith) (near_unless at (OutOfRange at) (leb key 15) there (omega arith) tt))

near_raw : (w at : ℕ) (bs : List ℕ) → Near at (raw_column w at bs)
near_raw w at bs =
    near_then at (tagged 2 at bs) _ (near_tagged 2 at bs)
    (λ f e.
    let c = get_or f.body 0 0 in
    let n = get_or f.body 1 0 in
    let t = from_bytes (take 4 (drop 2 f.body)) in
    let there : Result Raw Refusal = Ok (record { column = c; count = n; top = t; values = drop 6 f.body; next = at + (3 + length f.body); rest = f.rest }) in
    let exact = unless (WrongLength at) (eqb (length f.body) (6 + w * n)) there in
    near_unless at (WrongLength at) (leb 6 (length f.body)) (unless (OutOfRange at) (in_range c n t) exact) (omega arith)
    (near_unless at (OutOfRange at) (in_range c n t) exact (omega arith) (near_unless at (WrongLength at) (eqb (length f.body) (6 + w * n)) there (omega arith) tt)))

module _ {V : Type 0} (w : ℕ) (value_of : List ℕ → V) where
  near_column : (at : ℕ) (bs : List ℕ) → Near at (column_told w value_of at bs)
  near_column at bs = near_then at (raw_column w at bs) _ (near_raw w at bs) (λ r e. tt)

  -- a column's field is at most 9 + 4 * w bytes long
  column_next : (at : ℕ) (bs : List ℕ) (f : Told (ColumnState V)) → column_told w value_of at bs ≡ Ok f → f.next ≤ at + (9 + 4 * w)
  column_next at bs f e =
      let o = then_ok (raw_column w at bs) _ f e in
      let u = then_ok (tagged 2 at bs) _ o.0 o.1 in
      let bd = u.0.body in
      let c = get_or bd 0 0 in
      let n = get_or bd 1 0 in
      let t = from_bytes (take 4 (drop 2 bd)) in
      let v = unless_ok (WrongLength at) (leb 6 (length bd)) _ o.0 u.2 in
      let x = unless_ok (OutOfRange at) (in_range c n t) _ o.0 v.1 in
      let y = unless_ok (WrongLength at) (eqb (length bd) (6 + w * n)) _ o.0 x.1 in
      let few : n ≤ 4 = leb-true n 4 (and_parts (leb n 4) _ (and_parts (leb c 23) _ x.0).1).0 in
      let m = mul-le-mul_left {m = n} {n = 4} w few in
      let l = eqb-true (length bd) (6 + w * n) y.0 in
      let is : f.next ≡ at + (3 + length bd) = ap (λ q. q.next) (sym (ok_same o.2)) ∙ ap (λ r. r.next) (sym (ok_same y.1)) in
      omega arith

  near_front : (a : ColumnState V) (m : ℕ) (r : Result (State V) Refusal) → Near m r → Near m (in_front a r)
  near_front a m (Ok xs) h = tt
  near_front a m (Err e) h = h

  near_columns : (n c at : ℕ) (bs : List ℕ) → Near (at + (9 + 4 * w) * n) (rising (column_told w value_of) no_writes n c at bs)
  unfolding rising
  near_columns zero c at [] = tt
  near_columns zero c at (b ∷ bs) = near_more at _ (then (column_told w value_of at (b ∷ bs)) (λ f. Err (OutOfOrder at))) (omega arith) (near_then at (column_told w value_of at (b ∷ bs)) _ (near_column at (b ∷ bs)) (λ f e. omega arith))
  near_columns (suc n) c at [] = near_front no_writes (at + (9 + 4 * w) * suc n) (rising (column_told w value_of) no_writes n (c + 1) at []) (near_more (at + (9 + 4 * w) * n) (at + (9 + 4 * w) * suc n) (rising (column_told w value_of) no_writes n (c + 1) at []) (omega (arith, mul-suc (9 + 4 * w) n)) (near_columns n (c + 1) at []))
  near_columns (suc n) c at (b ∷ bs) =
      near_then (at + (9 + 4 * w) * suc n) (column_told w value_of at (b ∷ bs)) _ (near_more at _ (column_told w value_of at (b ∷ bs)) (omega arith) (near_column at (b ∷ bs)))
      (λ f e. split f (column_next at (b ∷ bs) f e) (near_columns n (c + 1) f.next f.rest) (near_columns n (c + 1) at (b ∷ bs)))
    where
      choose : (m : ℕ) (p q : Bool) (x y : Result (State V) Refusal) → at ≤ m → Near m x → Near m y → Near m (cond p (Err (OutOfOrder at)) (cond q x y))
      choose m true q x y l h k = l
      choose m false true x y l h k = h
      choose m false false x y l h k = k

      split : (f : Told (ColumnState V)) → f.next ≤ at + (9 + 4 * w) → Near (f.next + (9 + 4 * w) * n) (rising (column_told w value_of) no_writes n (c + 1) f.next f.rest) → Near (at + (9 + 4 * w) * n) (rising (column_told w value_of) no_writes n (c + 1) at (b ∷ bs)) →
          Near (at + (9 + 4 * w) * suc n) (cond (ltb f.column c) (Err (OutOfOrder at)) (cond (eqb f.column c) (in_front f.what (rising (column_told w value_of) no_writes n (c + 1) f.next f.rest)) (in_front no_writes (rising (column_told w value_of) no_writes n (c + 1) at (b ∷ bs)))))
      split f l h k =
          choose (at + (9 + 4 * w) * suc n) (ltb f.column c) (eqb f.column c) (in_front f.what (rising (column_told w value_of) no_writes n (c + 1) f.next f.rest)) (in_front no_writes (rising (column_told w value_of) no_writes n (c + 1) at (b ∷ bs))) (omega arith)
          (near_front f.what (at + (9 + 4 * w) * suc n) (rising (column_told w value_of) no_writes n (c + 1) f.next f.rest) (near_more (f.next + (9 + 4 * w) * n) (at + (9 + 4 * w) * suc n) (rising (column_told w value_of) no_writes n (c + 1) f.next f.rest) (omega (arith, mul-suc (9 + 4 * w) n)) h))
          (near_front no_writes (at + (9 + 4 * w) * suc n) (rising (column_told w value_of) no_writes n (c + 1) at (b ∷ bs)) (near_more (at + (9 + 4 * w) * n) (at + (9 + 4 * w) * suc n) (rising (column_told w value_of) no_writes n (c + 1) at (b ∷ bs)) (omega (arith, mul-suc (9 + 4 * w) n)) k))

  -- no refusal of a frame points further than the longest frame
  pub near_frame : (bs : List ℕ) (e : Refusal) → reading w value_of bs ≡ Err e → offset e ≤ 4 + 24 * (9 + 4 * w)
  unfolding reading
  near_frame bs e is = go (reading w value_of bs) is near
    where
      near : Near (4 + (9 + 4 * w) * 24) (reading w value_of bs)
      near =
          near_then (4 + (9 + 4 * w) * 24) (head 1 0 bs) _ (near_more 0 _ (head 1 0 bs) (omega arith) (near_head 1 0 bs))
          (λ h p. near_then (4 + (9 + 4 * w) * 24) (rising (column_told w value_of) no_writes 24 0 4 h.rest) _ (near_columns 24 0 4 h.rest) (λ S q. tt))

      go : (r : Result (Keyed (State V)) Refusal) → r ≡ Err e → Near (4 + (9 + 4 * w) * 24) r → offset e ≤ 4 + 24 * (9 + 4 * w)
      go (Ok k) p h = absurd (let z : ◌≡◌ {A = ℕ} 0 1 = cc in omega arith)
      go (Err x) p h = let q : x ≡ e = cc in omega (arith, ap offset q, h)

-- ---- no frame is longer than the longest

pub length_most : {V : Type 0} (w : ℕ) (S : State V) → LegalState S → frame_length w S ≤ 4 + 24 * (9 + 4 * w)
length_most w S legal = omega (arith, go S (λ c. (legal.each c).few), ap (λ n. (9 + 4 * w) * n) legal.wide)
  where
    go : {V : Type 0} (S : State V) → ((c : ℕ) → length (column_at S c).values ≤ 4) → fields_length w S ≤ (9 + 4 * w) * length S
    go [] few = omega arith
    go (a ∷ S) few =
        let m = mul-le-mul_left {m = length a.values} {n = 4} w (few 0) in
        let one : cond (unwritten a) 0 (9 + w * length a.values) ≤ 9 + 4 * w = cond_both (unwritten a) 0 (9 + w * length a.values) (λ n. n ≤ 9 + 4 * w) (λ e. omega arith) (λ e. omega arith) in
        omega (arith, one, go S (λ c. few (suc c)), mul-suc (9 + 4 * w) (length S))
