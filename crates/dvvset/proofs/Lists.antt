-- Lists that the kit's shelf lacks lemmas on. Assumes nothing.
use Rattle.std.proofs.Common.{◌≡◌, ℕ, zero, suc, ◌<◌, ◌≤◌, min, List, [], ◌∷◌, length, get_or, take, set, sym, refl, ap, ◌∙◌, arith}
use lib.Seq.{take-nil}
use Rattle.std.proofs.lemmas.List.{ext_get_or}

pub take_min : {A : Type 0} (a b : ℕ) (l : List A) → take a (take b l) ≡ take (min a b) l
take_min zero b l = let e : 0 ≡ min 0 b = omega arith in ap (λ m. take m l) e
take_min (suc a) zero l = let e : 0 ≡ min (suc a) 0 = omega arith in ap (λ m. take m l) e
take_min (suc a) (suc b) [] = sym (take-nil (min (suc a) (suc b)))
take_min (suc a) (suc b) (x ∷ l) = let e : suc (min a b) ≡ min (suc a) (suc b) = omega arith in ap (λ r. x ∷ r) (take_min a b l) ∙ ap (λ m. take m (x ∷ l)) e

module _ {A : Type 0} where
  -- two lists that are equal at each place, whatever the default
  pub pointwise : (xs ys : List A) → length xs ≡ length ys → ((i : ℕ) (d : A) → i < length xs → get_or xs i d ≡ get_or ys i d) → xs ≡ ys
  pointwise [] [] e f = refl
  pointwise [] (y ∷ ys) e f = absurd (omega arith)
  pointwise (x ∷ xs) ys e f = ext_get_or x (x ∷ xs) ys e (λ i h. f i x h)

  -- within the list the default does not count
  pub get_d_any : (xs : List A) (i : ℕ) (d e : A) → i < length xs → get_or xs i d ≡ get_or xs i e
  get_d_any [] i d e h = absurd (omega arith)
  get_d_any (x ∷ xs) zero d e h = refl
  get_d_any (x ∷ xs) (suc i) d e h = get_d_any xs i d e (omega arith)

  -- whatever stands at i in both is equal: so what stands there is
  pub alike : (xs ys : List A) (i : ℕ) (d : A) → i < length xs → i < length ys → ((x y : A) → get_or xs i x ≡ x → get_or ys i y ≡ y → x ≡ y) → get_or xs i d ≡ get_or ys i d
  alike xs ys i d h k f = f (get_or xs i d) (get_or ys i d) (get_d_any xs i _ d h) (get_d_any ys i _ d k)

-- a bound on every number stays where one below it is put in
pub bounded_set : (m i v : ℕ) (xs : List ℕ) → v ≤ m → ((k : ℕ) → get_or xs k 0 ≤ m) → (k : ℕ) → get_or (set xs i v) k 0 ≤ m
bounded_set m i v [] h low k = low k
bounded_set m zero v (x ∷ xs) h low zero = h
bounded_set m zero v (x ∷ xs) h low (suc k) = low (suc k)
bounded_set m (suc i) v (x ∷ xs) h low zero = low 0
bounded_set m (suc i) v (x ∷ xs) h low (suc k) = bounded_set m i v xs h (λ j. low (suc j)) k
