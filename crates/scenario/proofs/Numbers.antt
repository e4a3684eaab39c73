-- What `parse` reads as a number is what the definitions read. Assumes nothing.
use Rattle.std.proofs.Common.{◌≡◌, ℕ, zero, suc, ◌^◌, ◌<◌, ◌≤◌, Bool, true, false, ◌&&◌, cond, leb, ltb, ℤ, pos, neg_ℤ, List, [], ◌∷◌, length, Some, None, Ok, Err, Result, FitsSigned, w32, refl, sym, ap, ⊎_elim, arith}
use Rattle.std.specs.Char.{digit_value, is_digit}
use Rattle.std.specs.List.{list_all}
use Rattle.std.specs.Result.{OkIff, result_ok}
use Rattle.std.specs.Str.Parse.{AllDigits, IsNumeral, ParsesSigned, ParsesUnsigned, digits_value, starts_with_minus, without_leading_plus, without_leading_sign}
use Rattle.std.proofs.lemmas.Bool.{and_from, and_parts, cases_Bool, cond-false, le-leb, leb-true, lt-ltb, ltb-true}
use Rattle.scenario.specs.Parsing.{is_numeral, measure_of, number_of}

digits_pass : (ds : List ℕ) → AllDigits 10 ds → list_all (λ c. is_digit c 10) ds ≡ true
digits_pass [] h = refl
digits_pass (c ∷ ds) h = and_from _ _ (lt-ltb (digit_value c) 10 h.0) (digits_pass ds h.1)

passing_digits : (ds : List ℕ) → list_all (λ c. is_digit c 10) ds ≡ true → AllDigits 10 ds
passing_digits [] h = tt
passing_digits (c ∷ ds) h = let p = and_parts (is_digit c 10) _ h in (ltb-true (digit_value c) 10 p.0, passing_digits ds p.1)

numeral_passes : (ds : List ℕ) → IsNumeral 10 ds → is_numeral ds ≡ true
numeral_passes ds h = and_from _ _ (lt-ltb 0 (length ds) h.0) (digits_pass ds h.1)

passing_numeral : (ds : List ℕ) → is_numeral ds ≡ true → IsNumeral 10 ds
passing_numeral ds h = let p = and_parts (ltb 0 (length ds)) _ h in (ltb-true 0 (length ds) p.0, passing_digits ds p.1)

-- a test, and what `parse` says of the same
read-tested : {A E : Type 0} (r : Result A E) (b : Bool) (P : Type 0) (v : A) → (P → b ≡ true) → (b ≡ true → P) → OkIff r P v → cond b (Some v) None ≡ result_ok r
read-tested (Ok x) b P v to from h = rw (to h.0) (ap Some (sym h.1))
read-tested (Err e) b P v to from h = ⊎_elim (λ (t : b ≡ true). absurd (h (from t))) (λ (f : b ≡ false). cond-false b (Some v) None f) (cases_Bool b)

pub number_is : {E : Type 0} (w : List ℕ) (r : Result ℕ E) → ParsesUnsigned 64 10 w r → number_of w ≡ result_ok r
unfolding number_of
number_is w r h =
    let ds = without_leading_plus w in
    let n = digits_value 10 ds in
    read-tested r (is_numeral ds && ltb n (2 ^ 64)) (IsNumeral 10 ds × (n < 2 ^ 64)) n (λ p. and_from _ _ (numeral_passes ds p.0) (lt-ltb n (2 ^ 64) p.1)) (λ t. let p = and_parts (is_numeral ds) _ t in (passing_numeral ds p.0, ltb-true n (2 ^ 64) p.1)) h

pos_fits : (n : ℕ) → n < 2 ^ 31 → FitsSigned w32 (pos n)
pos_fits n h = record { sfits = omega arith }

fits_pos : (n : ℕ) → FitsSigned w32 (pos n) → n < 2 ^ 31
fits_pos n h = omega arith

neg_fits : (n : ℕ) → n ≤ 2 ^ 31 → FitsSigned w32 (neg_ℤ (pos n))
neg_fits zero h = record { sfits = omega arith }
neg_fits (suc n) h = record { sfits = omega arith }

fits_neg : (n : ℕ) → FitsSigned w32 (neg_ℤ (pos n)) → n ≤ 2 ^ 31
fits_neg zero h = omega arith
fits_neg (suc n) h = omega (arith, h.sfits)

pub measure_is : {E : Type 0} (w : List ℕ) (r : Result ℤ E) → ParsesSigned w32 10 w r → measure_of w ≡ result_ok r
unfolding measure_of
measure_is w r h = go (starts_with_minus w) h
  where
    ds : List ℕ
    ds = without_leading_sign w

    n : ℕ
    n = digits_value 10 ds

    go : (m : Bool) → OkIff r (IsNumeral 10 ds × FitsSigned w32 (cond m (neg_ℤ (pos n)) (pos n))) (cond m (neg_ℤ (pos n)) (pos n)) → cond m (cond (is_numeral ds && leb n (2 ^ 31)) (Some (neg_ℤ (pos n))) None) (cond (is_numeral ds && ltb n (2 ^ 31)) (Some (pos n)) None) ≡ result_ok r
    go true h = read-tested r _ _ _ (λ p. and_from _ _ (numeral_passes ds p.0) (le-leb n (2 ^ 31) (fits_neg n p.1))) (λ t. let p = and_parts (is_numeral ds) _ t in (passing_numeral ds p.0, neg_fits n (leb-true n (2 ^ 31) p.1))) h
    go false h = read-tested r _ _ _ (λ p. and_from _ _ (numeral_passes ds p.0) (lt-ltb n (2 ^ 31) (fits_pos n p.1))) (λ t. let p = and_parts (is_numeral ds) _ t in (passing_numeral ds p.0, pos_fits n (ltb-true n (2 ^ 31) p.1))) h
