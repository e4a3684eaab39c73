-- An array that is made index by index. Assumes nothing.
use Rattle.std.proofs.Common.{◌≡◌, ℕ, zero, suc, ◌+◌, ◌<◌, ◌≤◌, List, get_or, sym, subst, arith, ⊎_elim}
use Rattle.std.proofs.lemmas.Bool.{cases_lt}
use Rattle.std.specs.Array.{IsFromFnResult, IsFromFnResultFrom}
use Rattle.std.specs.Fn.{Called}
use denote.Param.Members.{Mut}

-- the closure stays as it is, and gives of each index what P says
module _ {F B : Type 0} (g : Mut F (ℕ × Unit {0}) B) (f : F) (P : ℕ → B → Type 0) (keeps : (i : ℕ) (y : B) (q : F) → Called g f (i, tt) y q → (q ≡ f) × P i y) where
  from : (ys : List B) (i n k : ℕ) (d : B) → IsFromFnResultFrom g f ys i n → i ≤ k → k < i + n → P k (get_or ys k d)
  from ys i zero k d r low high = absurd (omega arith)
  from ys i (suc n) k d r low high =
      let made = keeps i r.1 r.0 r.3 in
      ⊎_elim
      (λ (p : i < k). from ys (i + 1) n k d (subst (λ q. IsFromFnResultFrom g q ys (i + 1) n) made.0 r.4) (omega arith) (omega arith))
      (λ (p : k ≤ i). let e : i ≡ k = omega arith in let h : r.1 ≡ get_or ys i d = sym (r.2.1 d) in subst (λ j. P j (get_or ys j d)) e (subst (P i) h made.1))
      (cases_lt i k)

  pub get_or_from_fn : (ys : List B) (n k : ℕ) (d : B) → IsFromFnResult g f ys n → k < n → P k (get_or ys k d)
  get_or_from_fn ys n k d r h = from ys 0 n k d r.each (omega arith) (omega arith)
