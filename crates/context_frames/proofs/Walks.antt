-- A walk over the tops of a context, by what the cursor tells. Assumes nothing.
use Rattle.std.proofs.Common.{◌≡◌, ℕ, zero, suc, ◌+◌, ◌-◌, ◌<◌, ◌≤◌, ◌&&◌, eqb, leb, List, [], ◌∷◌, ◌++◌, length, get_or, take, drop, set, replicate, Ok, Err, Result, sym, refl, ap, ◌∙◌, arith}
use Rattle.std.proofs.lemmas.List.{append_assoc, drop_all, drop_at, drop-drop, length-append, length-drop, length-replicate, length-take-le, set-append_right, take-append-drop, take_at}
use Rattle.std.proofs.lemmas.Bool.{leb-true, eqb-true, and_parts}
use Rattle.refusals.specs.declared.Refusal.{Refusal}
use Rattle.refusals.specs.declared.Refusal.TheVariants.{OutOfOrder, WrongLength, OutOfRange}
use Rattle.values.specs.BigEndian.{from_bytes}
use Rattle.dvvset.proofs.Lists.{bounded_set}
use Rattle.formats.specs.Reading.{Keyed, Told, then, in_front, rising, tagged, top_told, context_reading}
use Rattle.formats.proofs.Steps.{ok_same, then_ok, unless_ok}
use Rattle.formats.proofs.Walking.{turn_here, turn_later, walk_end, walk_past, walk_refused}
use Rattle.cursor.specs.Seen.{HeadShown, TopShown, head_seen, top_seen}
use Rattle.cursor.proofs.Founds.{head-found, shown_refused, tagged_rest}

-- ---- the field that the cursor hands out

pub record FoundTop (at : ℕ) (bs : List ℕ) (s : TopShown) : Type 0 where
  pub here : s.at ≡ at
  pub is : top_told at bs ≡ Ok (record { column = s.column; what = s.top; next = at + 8; rest = drop 8 bs })
  pub low : s.column ≤ 23
  pub top_low : s.top ≤ 999999
  pub five : length s.bytes ≡ 5

top_rest : (at : ℕ) (bs : List ℕ) (f : Told ℕ) → top_told at bs ≡ Ok f → FoundTop at bs (record { column = f.column; top = f.what; bytes = take 5 (drop 3 bs); at = at })
top_rest at bs f e =
    let u = then_ok (tagged 4 at bs) _ f e in
    let bd = u.0.body in
    let c = get_or bd 0 0 in
    let t = from_bytes (drop 1 bd) in
    let v = unless_ok (WrongLength at) (eqb (length bd) 5) _ f u.2 in
    let x = unless_ok (OutOfRange at) (leb c 23 && (leb 1 t && leb t 999999)) _ f v.1 in
    let five = eqb-true (length bd) 5 v.0 in
    let r = tagged_rest 4 at bs u.0 u.1 in
    let p = and_parts (leb c 23) _ x.0 in
    let q = and_parts (leb 1 t) _ p.1 in
    rw (← ok_same x.1)
    (record {
      here = refl;
      is = e ∙ sym x.1 ∙ ap (λ k. Ok (record { column = c; what = t; next = at + (3 + k); rest = u.0.rest })) five ∙ ap (λ d. Ok (record { column = c; what = t; next = at + 8; rest = d })) (r.0 ∙ ap (λ k. drop (3 + k) bs) five);
      low = leb-true c 23 p.0;
      top_low = leb-true t 999999 q.1;
      five = length-take-le 5 (drop 3 bs) (omega (arith, length-drop 3 bs, r.1));
    })

pub top-found : (at : ℕ) (bs : List ℕ) (s : TopShown) → Ok s ≡ top_seen at bs → FoundTop at bs s
top-found at bs s e =
    let u = then_ok (top_told at bs) _ _ (sym e) in
    rw (← ok_same u.2) (top_rest at bs u.0 u.1)

-- ---- the walk

-- r with these in front
abbrev behind : List ℕ → Result (List ℕ) Refusal → Result (List ℕ) Refusal
behind xs r = then r (λ ys. Ok (xs ++ ys))

-- past a field: k columns without one come before it
walk_on : (k n c at : ℕ) (bs : List ℕ) (f : Told ℕ) → top_told at bs ≡ Ok f → f.column ≡ c + k → rising top_told 0 (k + suc n) c at bs ≡ behind (replicate k 0 ++ (f.what ∷ [])) (rising top_told 0 n (f.column + 1) f.next f.rest)
walk_on zero n c at bs f h e =
    let p : 0 + suc n ≡ suc n = omega arith in
    let q : c + 1 ≡ f.column + 1 = omega arith in
    ap (λ m. rising top_told 0 m c at bs) p ∙ turn_here top_told 0 (λ a. refl) n c at bs f h (omega arith) ∙ ap (λ d. in_front f.what (rising top_told 0 n d f.next f.rest)) q
walk_on (suc k) n c at bs f h e =
    let p : suc k + suc n ≡ suc (k + suc n) = omega arith in
    ap (λ m. rising top_told 0 m c at bs) p ∙ turn_later top_told 0 (λ a. refl) (k + suc n) c at bs f h (omega arith) ∙ ap (in_front 0) (walk_on k n (c + 1) at bs f h (omega arith)) ∙ both (rising top_told 0 n (f.column + 1) f.next f.rest)
  where
    both : (r : Result (List ℕ) Refusal) → in_front 0 (behind (replicate k 0 ++ (f.what ∷ [])) r) ≡ behind (replicate (suc k) 0 ++ (f.what ∷ [])) r
    both (Ok xs) = refl
    both (Err x) = refl

-- ---- tops that are 0 so far

zero_all : (n c : ℕ) → get_or (replicate n 0) c 0 ≤ 999999
zero_all zero c = omega arith
zero_all (suc n) zero = omega arith
zero_all (suc n) (suc c) = zero_all n c

zeros-set : (m k t : ℕ) → k < m → set (replicate m 0) k t ≡ replicate k 0 ++ (t ∷ replicate (m - (k + 1)) 0)
zeros-set zero k t h = absurd (omega arith)
zeros-set (suc m) zero t h = let e : m ≡ suc m - (0 + 1) = omega arith in ap (λ n. t ∷ replicate n 0) e
zeros-set (suc m) (suc k) t h = let e : m - (k + 1) ≡ suc m - (suc k + 1) = omega arith in ap (λ xs. 0 ∷ xs) (zeros-set m k t (omega arith) ∙ ap (λ n. replicate k 0 ++ (t ∷ replicate n 0)) e)

module _ (bs : List ℕ) where
  abbrev read : ℕ → ℕ → Result (List ℕ) Refusal
  read c at = rising top_told 0 (24 - c) c at (drop at bs)

  -- with the key, as a context is read
  abbrev with_key : ℕ → Result (List ℕ) Refusal → Result (Keyed (List ℕ)) Refusal
  with_key key r = then r (λ C. Ok (record { key = key; what = C }))

  -- the columns below `from` are read, and the others are 0 so far
  pub record Midway (key at from : ℕ) (tops : List ℕ) : Type 0 where
    pub within : from ≤ 24
    pub so_far : context_reading bs ≡ with_key key (behind (take from tops) (read from at))
    pub rest : drop from tops ≡ replicate (24 - from) 0
    pub low : (c : ℕ) → get_or tops c 0 ≤ 999999

  pub head_refused : (e : Refusal) → Err e ≡ head_seen 3 0 bs → Err e ≡ context_reading bs
  unfolding context_reading
  head_refused e h = sym (ap (λ r. then r (λ x. with_key x.key (rising top_told 0 24 0 4 x.rest))) (shown_refused _ _ e h))

  pub head_read : (s : HeadShown) → Ok s ≡ head_seen 3 0 bs → (length s.bytes ≡ 1) × Midway s.key 4 0 (replicate 24 0)
  unfolding context_reading
  head_read s h =
      let f = head-found 3 0 bs s h in
      (f.1, record { within = omega arith; so_far = ap (λ r. then r (λ x. with_key x.key (rising top_told 0 24 0 4 x.rest))) f.0.is ∙ ap (with_key s.key) (whole (read 0 4)); rest = refl; low = zero_all 24 })
    where
      whole : (r : Result (List ℕ) Refusal) → r ≡ behind [] r
      whole (Ok xs) = refl
      whole (Err e) = refl

  module _ (key at from : ℕ) (tops : List ℕ) (mid : Midway key at from tops) where
    pub at_the_end : length bs ≤ at → Ok (record { key = key; what = tops }) ≡ context_reading bs
    at_the_end l =
        let none_left = ap (rising top_told 0 (24 - from) from at) (drop_all at bs l) ∙ walk_end top_told 0 (λ a. refl) (24 - from) from at in
        sym (mid.so_far ∙ ap (λ r. with_key key (behind (take from tops) r)) none_left ∙ ap (λ xs. Ok (record { key = key; what = take from tops ++ xs })) (sym mid.rest) ∙ ap (λ xs. Ok (record { key = key; what = xs })) (take-append-drop from tops))

    pub at_refused : (e : Refusal) → at < length bs → Err e ≡ top_seen at (drop at bs) → Err e ≡ context_reading bs
    at_refused e l h = sym (mid.so_far ∙ ap (λ r. with_key key (behind (take from tops) r)) (walk_refused top_told 0 (λ a. refl) (24 - from) from at (drop at bs) e (simp length-drop (omega arith)) (shown_refused _ _ e h)))

    module _ (s : TopShown) (h : Ok s ≡ top_seen at (drop at bs)) where
      pub at_past : s.column < from → Err (OutOfOrder s.at) ≡ context_reading bs
      at_past l =
          let f = top-found at (drop at bs) s h in
          sym (mid.so_far ∙ ap (λ r. with_key key (behind (take from tops) r)) (walk_past top_told 0 (λ a. refl) (24 - from) from at (drop at bs) _ f.is l) ∙ ap (λ q. Err (OutOfOrder q)) (sym f.here))

      pub at_next : from ≤ s.column → Midway key (at + (3 + length s.bytes)) (s.column + 1) (set tops s.column s.top)
      at_next l =
          let f = top-found at (drop at bs) s h in
          let five = f.five in
          let j = s.column in
          let t = s.top in
          let k : ℕ = j - from in
          let A = take from tops in
          let R : List ℕ = replicate k 0 ++ (t ∷ []) in
          let Z : List ℕ = replicate (24 - (j + 1)) 0 in
          let X = rising top_told 0 (24 - (j + 1)) (j + 1) (at + 8) (drop 8 (drop at bs)) in
          let low = f.low in
          let wide = ap length mid.rest ∙ length-replicate {A = ℕ} (24 - from) 0 in
          let in_all = mid.within in
          let lA : length A ≡ from = length-take-le from tops (omega (arith, wide, length-drop from tops)) in
          let size : 24 - from ≡ k + suc (24 - (j + 1)) = omega arith in
          let on = ap (λ m. rising top_told 0 m from at (drop at bs)) size ∙ walk_on k (24 - (j + 1)) from at (drop at bs) _ f.is (omega arith) in
          let tops_are : tops ≡ A ++ replicate (24 - from) 0 = sym (take-append-drop from tops) ∙ ap (λ xs. A ++ xs) mid.rest in
          let left : 24 - from - (k + 1) ≡ 24 - (j + 1) = omega arith in
          let now : set tops j t ≡ (A ++ R) ++ Z =
          ap (λ xs. set xs j t) tops_are ∙ set-append_right A (replicate (24 - from) 0) from j t lA l ∙ ap (λ xs. A ++ xs) (zeros-set (24 - from) k t (omega arith) ∙ ap (λ n. replicate k 0 ++ (t ∷ replicate n 0)) left ∙ sym (append_assoc (replicate k 0) (t ∷ []) Z)) ∙ sym (append_assoc A R Z) in
          let lR : length (A ++ R) ≡ j + 1 = omega (arith, length-append A R, length-append (replicate k 0) (t ∷ []), length-replicate {A = ℕ} k 0) in
          rw five record {
            within = omega arith;
            so_far = mid.so_far ∙ ap (with_key key) (ap (behind A) on ∙ both A R X ∙ ap (λ d. behind (A ++ R) (rising top_told 0 (24 - (j + 1)) (j + 1) (at + 8) d)) (drop-drop 8 at bs) ∙ ap (λ xs. behind xs (read (j + 1) (at + 8))) (sym (ap (take (j + 1)) now ∙ take_at (A ++ R) Z (j + 1) lR)));
            rest = ap (drop (j + 1)) now ∙ drop_at (A ++ R) Z (j + 1) lR;
            low = bounded_set 999999 j t tops f.top_low mid.low;
          }
        where
          both : (xs ys : List ℕ) (r : Result (List ℕ) Refusal) → behind xs (behind ys r) ≡ behind (xs ++ ys) r
          both xs ys (Ok zs) = ap Ok (sym (append_assoc xs ys zs))
          both xs ys (Err e) = refl
