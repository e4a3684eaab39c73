-- Lists with an entry for each column, made from a function of the column. Assumes nothing.
use Rattle.std.proofs.Common.{◌≡◌, ℕ, zero, suc, ◌+◌, ◌<◌, cond, eqb, List, [], ◌∷◌, ◌++◌, map, get_or, set, sym, refl, ap, ◌∙◌, ap₂, zero-add, arith}
use mathlib.Core.Path.{fun_ext}
use Rattle.std.specs.List.{range_with_len, flat_map}
use Rattle.std.proofs.lemmas.Bool.{cond-true, cond-false, eq-eqb, ne_eqb}
use Rattle.std.proofs.lemmas.List.{map-append}
use Rattle.std.proofs.lemmas.List.FromFn.{get_or-map-range_with_len}
use Rattle.dvvset.specs.Limits.{columns}
use Rattle.dvvset.specs.Clock.{ColumnState, zip_with}
use Rattle.dvvset.specs.Listing.{dotted, siblings_from}
use Rattle.history.specs.Events.{each_column}

pub zip_map : {A B C : Type 0} (h : A → B → C) (f : ℕ → A) (g : ℕ → B) (xs : List ℕ) → zip_with h (map f xs) (map g xs) ≡ map (λ c. h (f c) (g c)) xs
zip_map h f g [] = refl
zip_map h f g (x ∷ xs) = ap (λ ys. h (f x) (g x) ∷ ys) (zip_map h f g xs)

pub map_same : {A : Type 0} (f g : ℕ → A) (xs : List ℕ) → ((c : ℕ) → f c ≡ g c) → map f xs ≡ map g xs
map_same f g xs h = ap (λ k. map k xs) (fun_ext h)

pub joined_same : {A : Type 0} (f g : ℕ → List A) (xs : List ℕ) → ((c : ℕ) → f c ≡ g c) → flat_map f xs ≡ flat_map g xs
joined_same f g xs h = ap (λ k. flat_map k xs) (fun_ext h)

pub map-map : {A B : Type 0} (f : A → B) (g : ℕ → A) (xs : List ℕ) → map f (map g xs) ≡ map (λ c. f (g c)) xs
map-map f g [] = refl
map-map f g (x ∷ xs) = ap (λ ys. f (g x) ∷ ys) (map-map f g xs)

pub map-joined : {X A B : Type 0} (f : A → B) (g : X → List A) (xs : List X) → map f (flat_map g xs) ≡ flat_map (λ x. map f (g x)) xs
map-joined f g [] = refl
map-joined f g (x ∷ xs) = map-append f (g x) (flat_map g xs) ∙ ap (λ zs. map f (g x) ++ zs) (map-joined f g xs)

pub at_column : {A : Type 0} (f : ℕ → A) (o : ℕ) (d : A) → o < columns → get_or (map f each_column) o d ≡ f o
at_column f o d l = get_or-map-range_with_len f 0 columns o o d l (zero-add o)

-- j stands before all of them
set_none : {A : Type 0} (f : ℕ → A) (a n j : ℕ) (x : A) → j < a → map f (range_with_len a n) ≡ map (λ c. cond (eqb j c) x (f c)) (range_with_len a n)
set_none f a zero j x l = refl
set_none f a (suc n) j x l = ap₂ (λ y ys. y ∷ ys) (sym (cond-false (eqb j a) x (f a) (ne_eqb j a (λ d. omega arith)))) (set_none f (a + 1) n j x (omega arith))

set_counting : {A : Type 0} (f : ℕ → A) (a n i j : ℕ) (x : A) → i < n → a + i ≡ j → set (map f (range_with_len a n)) i x ≡ map (λ c. cond (eqb j c) x (f c)) (range_with_len a n)
set_counting f a zero i j x l e = absurd (omega arith)
set_counting f a (suc n) zero j x l e = ap₂ (λ y ys. y ∷ ys) (sym (cond-true (eqb j a) x (f a) (eq-eqb j a (omega arith)))) (set_none f (a + 1) n j x (omega arith))
set_counting f a (suc n) (suc i) j x l e = ap₂ (λ y ys. y ∷ ys) (sym (cond-false (eqb j a) x (f a) (ne_eqb j a (λ d. omega arith)))) (set_counting f (a + 1) n i j x (omega arith) (omega arith))

pub set-column : {A : Type 0} (f : ℕ → A) (o : ℕ) (x : A) → o < columns → set (map f each_column) o x ≡ map (λ c. cond (eqb o c) x (f c)) each_column
set-column f o x l = set_counting f 0 columns o o x l (zero-add o)

dotted_counting : {V : Type 0} (f : ℕ → ColumnState V) (a n : ℕ) → siblings_from a (map f (range_with_len a n)) ≡ flat_map (λ c. dotted c (f c).top (f c).values) (range_with_len a n)
dotted_counting f a zero = refl
dotted_counting f a (suc n) = ap (λ ws. dotted a (f a).top (f a).values ++ ws) (dotted_counting f (a + 1) n)

pub dotted-columns : {V : Type 0} (f : ℕ → ColumnState V) → siblings_from 0 (map f each_column) ≡ flat_map (λ c. dotted c (f c).top (f c).values) each_column
dotted-columns f = dotted_counting f 0 columns
