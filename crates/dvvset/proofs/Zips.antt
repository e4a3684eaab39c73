-- Two lists joined place by place, at once and by a loop. Assumes nothing.
use Rattle.std.proofs.Common.{◌≡◌, ℕ, zero, suc, ◌+◌, ◌<◌, ◌≤◌, min, List, [], ◌∷◌, length, get_or, set, refl, ap, arith}
use Rattle.dvvset.specs.Clock.{zip_with}

module _ {A B C : Type 0} (f : A → B → C) where
  pub get_d_zip : (i : ℕ) (xs : List A) (ys : List B) (d : A) (e : B) (z : C) → i < length xs → i < length ys → get_or (zip_with f xs ys) i z ≡ f (get_or xs i d) (get_or ys i e)
  get_d_zip i [] ys d e z h k = absurd (omega arith)
  get_d_zip i (x ∷ xs) [] d e z h k = absurd (omega arith)
  get_d_zip zero (x ∷ xs) (y ∷ ys) d e z h k = refl
  get_d_zip (suc i) (x ∷ xs) (y ∷ ys) d e z h k = get_d_zip i xs ys d e z (omega arith) (omega arith)

  pub length_zip : (xs : List A) (ys : List B) → length (zip_with f xs ys) ≡ min (length xs) (length ys)
  length_zip [] ys = omega arith
  length_zip (x ∷ xs) [] = omega arith
  length_zip (x ∷ xs) (y ∷ ys) = omega (arith, length_zip xs ys)

-- xs after the first i turns of a loop that writes f x y over each x, where y stands at its place in ys
abbrev pub upto : {A B : Type 0} → (A → B → A) → ℕ → List A → List B → List A
upto f zero xs ys = xs
upto f (suc i) [] ys = []
upto f (suc i) (x ∷ xs) [] = []
upto f (suc i) (x ∷ xs) (y ∷ ys) = f x y ∷ upto f i xs ys

module _ {A B : Type 0} (f : A → B → A) where
  upto_suc : (i : ℕ) (xs : List A) (ys : List B) (d : A) (e : B) → i < length xs → i < length ys → set (upto f i xs ys) i (f (get_or (upto f i xs ys) i d) (get_or ys i e)) ≡ upto f (suc i) xs ys
  upto_suc i [] ys d e h k = absurd (omega arith)
  upto_suc i (x ∷ xs) [] d e h k = absurd (omega arith)
  upto_suc zero (x ∷ xs) (y ∷ ys) d e h k = refl
  upto_suc (suc i) (x ∷ xs) (y ∷ ys) d e h k = ap (λ zs. f x y ∷ zs) (upto_suc i xs ys d e (omega arith) (omega arith))

  pub upto_more : (c : ℕ) (xs : List A) (ys : List B) (d : A) (e : B) (X Y : List A) (w : A) → c < length xs → c < length ys → X ≡ upto f c xs ys → w ≡ f (get_or X c d) (get_or ys c e) → Y ≡ set X c w → Y ≡ upto f (c + 1) xs ys
  upto_more c xs ys d e X Y w h k inv is to =
      let m : set (upto f c xs ys) c (f (get_or (upto f c xs ys) c d) (get_or ys c e)) ≡ upto f (suc c) xs ys = upto_suc c xs ys d e h k in
      let a : c + 1 ≡ suc c = omega arith in
      cc

  pub upto_all : (i : ℕ) (xs : List A) (ys : List B) → length xs ≡ i → length ys ≡ i → upto f i xs ys ≡ zip_with f xs ys
  upto_all zero [] ys h k = refl
  upto_all zero (x ∷ xs) ys h k = absurd (omega arith)
  upto_all (suc i) [] ys h k = refl
  upto_all (suc i) (x ∷ xs) [] h k = refl
  upto_all (suc i) (x ∷ xs) (y ∷ ys) h k = ap (λ zs. f x y ∷ zs) (upto_all i xs ys (omega arith) (omega arith))

  -- turns that change nothing may be left out
  pub upto_skip : (c d : ℕ) (xs : List A) (ys : List B) (x : A) (y : B) → c ≤ d → d ≤ length xs → d ≤ length ys → ((i : ℕ) → c ≤ i → i < d → f (get_or xs i x) (get_or ys i y) ≡ get_or xs i x) → upto f c xs ys ≡ upto f d xs ys
  upto_skip zero zero xs ys x y l m n h = refl
  upto_skip (suc c) zero xs ys x y l m n h = absurd (omega arith)
  upto_skip c (suc d) [] ys x y l m n h = absurd (omega arith)
  upto_skip c (suc d) (a ∷ xs) [] x y l m n h = absurd (omega arith)
  upto_skip zero (suc d) (a ∷ xs) (b ∷ ys) x y l m n h =
      let e = h 0 (omega arith) (omega arith) in
      let r = upto_skip zero d xs ys x y (omega arith) (omega arith) (omega arith) (λ i p q. h (suc i) (omega arith) (omega arith)) in
      cc
  upto_skip (suc c) (suc d) (a ∷ xs) (b ∷ ys) x y l m n h = ap (λ zs. f a b ∷ zs) (upto_skip c d xs ys x y (omega arith) (omega arith) (omega arith) (λ i p q. h (suc i) (omega arith) (omega arith)))

  -- the places that are not done yet
  pub get_or-upto : (c i : ℕ) (xs : List A) (ys : List B) (x : A) → c ≤ i → length ys ≡ length xs → get_or (upto f c xs ys) i x ≡ get_or xs i x
  get_or-upto zero i xs ys x l e = refl
  get_or-upto (suc c) i [] ys x l e = refl
  get_or-upto (suc c) i (a ∷ xs) [] x l e = absurd (omega arith)
  get_or-upto (suc c) zero (a ∷ xs) (b ∷ ys) x l e = absurd (omega arith)
  get_or-upto (suc c) (suc i) (a ∷ xs) (b ∷ ys) x l e = get_or-upto c i xs ys x (omega arith) (omega arith)
