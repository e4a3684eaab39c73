-- Merge, discard and push by the writes that they hold. Assumes nothing.
use Rattle.std.proofs.Common.{◌≡◌, ℕ, zero, suc, ◌+◌, ◌-◌, ◌<◌, ◌≤◌, ◌⊎◌, length, get_or, sym, refl, ◌∙◌, inl, inr, ⊎_elim, arith}
use Rattle.std.proofs.lemmas.List.{length-take, get_or-take}
use Rattle.dvvset.specs.Limits.{most_siblings, last_counter}
use Rattle.dvvset.specs.Clock.{ColumnState, Legal, first, merge_column, discard_column, push}
use Rattle.dvvset.specs.Laws.{Holds, Dropped, Agree}
use Rattle.dvvset.proofs.Lists.{get_d_any}
use Rattle.dvvset.proofs.Merging.{by_way, length-first}

module _ {V : Type 0} where
  -- the first k values are those of the k highest counters
  first_holds : (k : ℕ) (a : ColumnState V) (n : ℕ) (v : V) → Holds (first k a) n v → Holds a n v × (a.top < n + k)
  first_holds k a n v (i, lt, at, is) =
      let l = length-first k a in ((i, omega arith, at, sym (get_or-take k a.values i v (omega arith)) ∙ is), omega arith)

  holds_first : (k : ℕ) (a : ColumnState V) (n : ℕ) (v : V) → Holds a n v → a.top < n + k → Holds (first k a) n v
  holds_first k a n v (i, lt, at, is) h =
      let l = length-first k a in (i, omega arith, at, get_or-take k a.values i v (omega arith) ∙ is)

  pub only : (a b : ColumnState V) (n : ℕ) (v : V) → Holds (merge_column a b) n v → (Holds a n v ⊎ Holds b n v) × (Dropped a n → ⊥) × (Dropped b n → ⊥)
  only a b n v =
      by_way (λ m. Holds m n v → (Holds a n v ⊎ Holds b n v) × (Dropped a n → ⊥) × (Dropped b n → ⊥)) a b
      (λ le h. let w = first_holds (a.top - b.top + length b.values) a n v h in (inl w.0, standing a w.0, λ d. omega (arith, w.1)))
      (λ lt h. let w = first_holds (b.top - a.top + length a.values) b n v h in (inr w.0, λ d. omega (arith, w.1), standing b w.0))
    where
      standing : (c : ColumnState V) → Holds c n v → Dropped c n → ⊥
      standing c (i, lt, at, is) d = omega arith

  -- what one column holds, and a column with no lower top has not dropped, that column holds
  passed : (a b : ColumnState V) → Agree a b → (n : ℕ) (v : V) → b.top ≤ a.top → Holds b n v → (Dropped a n → ⊥) → Holds a n v
  passed a b same n v le (j, lt, at, is) stands =
      let i : ℕ = a.top - n in
      let h : i < length a.values = omega arith in
      let v_is : get_or a.values i v ≡ v = same n _ v (i, h, omega arith, get_d_any a.values i _ v h) (j, lt, at, is) in
      (i, h, omega arith, v_is)

  pub every : (a b : ColumnState V) → Agree a b → (n : ℕ) (v : V) → Holds a n v ⊎ Holds b n v → (Dropped a n → ⊥) → (Dropped b n → ⊥) → Holds (merge_column a b) n v
  every a b same n v h up down =
      by_way (λ m. Holds m n v) a b
      (λ le. holds_first (a.top - b.top + length b.values) a n v (⊎_elim (λ p. p) (λ q. passed a b same n v le q up) h) (omega arith))
      (λ lt. holds_first (b.top - a.top + length a.values) b n v (⊎_elim (λ p. passed b a (λ k x y s t. sym (same k y x t s)) n v (omega arith) p down) (λ q. q) h) (omega arith))

  -- ---- discard and push

  pub above : (a : ColumnState V) (m n : ℕ) (v : V) → Holds (discard_column a m) n v → Holds a n v × (m < n)
  unfolding discard_column
  above a m n v (i, lt, at, is) =
      let l = length-take (a.top - m) a.values in
      ((i, omega arith, omega arith, sym (get_or-take (a.top - m) a.values i v (omega arith)) ∙ is), omega arith)

  pub kept : (a : ColumnState V) (m n : ℕ) (v : V) → Holds a n v → m < n → Holds (discard_column a m) n v
  unfolding discard_column
  kept a m n v (i, lt, at, is) h =
      let l = length-take (a.top - m) a.values in
      (i, omega arith, omega arith, get_or-take (a.top - m) a.values i v (omega arith) ∙ is)

  pub discard_legal : (a : ColumnState V) (m : ℕ) → Legal a → m ≤ last_counter → Legal (discard_column a m)
  unfolding discard_column
  discard_legal a m h low = let l = length-take (a.top - m) a.values in record { few = omega arith; within = omega arith; low = omega arith }

  pub newest : (a : ColumnState V) (v : V) → Holds (push v a) (a.top + 1) v
  unfolding push
  newest a v = (0, omega arith, omega arith, refl)

  pub older : (a : ColumnState V) (v : V) (n : ℕ) (x : V) → Holds a n x → Holds (push v a) n x
  unfolding push
  older a v n x (i, lt, at, is) = (suc i, omega arith, omega arith, is)

  pub nothing_else : (a : ColumnState V) (v : V) (n : ℕ) (x : V) → Holds (push v a) n x → ((n ≡ a.top + 1) × (x ≡ v)) ⊎ Holds a n x
  unfolding push
  nothing_else a v n x (zero, lt, at, is) = inl (omega arith, sym is)
  nothing_else a v n x (suc i, lt, at, is) = inr (i, omega arith, omega arith, is)

  pub push_legal : (a : ColumnState V) (v : V) → Legal a → length a.values < most_siblings → a.top < last_counter → Legal (push v a)
  unfolding push
  push_legal a v h few low = record { few = omega arith; within = omega arith; low = omega arith }
