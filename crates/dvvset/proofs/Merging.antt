-- The laws of a column's merge. Assumes nothing.
use Rattle.std.proofs.Common.{◌≡◌, ℕ, ◌+◌, ◌-◌, ◌<◌, ◌≤◌, min, max, leb, List, [], ◌∷◌, map, length, take, sym, refl, ap, ◌∙◌, ⊎_elim, arith}
use lib.Seq.{take-nil}
use Rattle.std.proofs.lemmas.List.{length-take, length-map, get_or-take, take-map, take_all}
use Rattle.std.proofs.lemmas.Bool.{le-leb, lt-leb, cond-true, cond-false, cases_lt, cases_order}
use Rattle.dvvset.specs.Clock.{ColumnState, Legal, no_writes, first, merge_column}
use Rattle.dvvset.specs.Laws.{Agree, mapped}
use Rattle.dvvset.proofs.Lists.{take_min, pointwise, alike}

module _ {V : Type 0} where
  -- ---- the two ways of a merge

  pub merge-left : (a b : ColumnState V) → b.top ≤ a.top → merge_column a b ≡ first (a.top - b.top + length b.values) a
  unfolding merge_column
  merge-left a b le = cond-true (leb b.top a.top) _ _ (le-leb b.top a.top le)

  pub merge_right : (a b : ColumnState V) → a.top < b.top → merge_column a b ≡ first (b.top - a.top + length a.values) b
  unfolding merge_column
  merge_right a b lt = cond-false (leb b.top a.top) _ _ (lt-leb b.top a.top lt)

  -- what holds of both ways holds of a merge
  pub by_way : (P : ColumnState V → Type 0) (a b : ColumnState V) → (b.top ≤ a.top → P (first (a.top - b.top + length b.values) a)) → (a.top < b.top → P (first (b.top - a.top + length a.values) b)) → P (merge_column a b)
  by_way P a b left right =
      ⊎_elim (λ (lt : a.top < b.top). rw (merge_right a b lt) (right lt)) (λ (le : b.top ≤ a.top). rw (merge-left a b le) (left le)) (cases_lt a.top b.top)

  -- ---- first

  pub first-first : (m n : ℕ) (a : ColumnState V) → first m (first n a) ≡ first (min m n) a
  first-first m n a = ap (λ vs. record { top = a.top; values = vs }) (take_min m n a.values)

  pub length-first : (n : ℕ) (a : ColumnState V) → length (first n a).values ≡ min n (length a.values)
  length-first n a = length-take n a.values

  first_same : (m n : ℕ) (a : ColumnState V) → m ≡ n → first m a ≡ first n a
  first_same m n a e = ap (λ k. first k a) e

  -- ---- the laws

  pub higher : (a b : ColumnState V) → (merge_column a b).top ≡ max a.top b.top
  higher a b = by_way (λ m. m.top ≡ max a.top b.top) a b (λ le. omega arith) (λ lt. omega arith)

  pub longest : (a b : ColumnState V) → length (merge_column a b).values ≤ max (length a.values) (length b.values)
  longest a b =
      by_way (λ m. length m.values ≤ max (length a.values) (length b.values)) a b
      (λ le. omega (arith, length-first (a.top - b.top + length b.values) a)) (λ lt. omega (arith, length-first (b.top - a.top + length a.values) b))

  pub legal : (a b : ColumnState V) → Legal a → Legal b → Legal (merge_column a b)
  legal a b p q = by_way Legal a b (λ le. cut (a.top - b.top + length b.values) a p) (λ lt. cut (b.top - a.top + length a.values) b q)
    where
      cut : (n : ℕ) (c : ColumnState V) → Legal c → Legal (first n c)
      cut n c h = let l = length-first n c in record { few = omega arith; within = omega arith; low = h.low }

  pub idempotent : (a : ColumnState V) → merge_column a a ≡ a
  idempotent a =
      merge-left a a (omega arith) ∙ (let e : a.top - a.top + length a.values ≡ length a.values = omega arith in first_same _ _ a e) ∙ ap (λ vs. record { top = a.top; values = vs }) (take_all (length a.values) a.values (omega arith))

  -- a column without writes changes nothing
  pub merge_nothing : (a : ColumnState V) → length a.values ≤ a.top → merge_column a no_writes ≡ a
  merge_nothing a h = merge-left a no_writes (omega arith) ∙ ap (λ vs. record { top = a.top; values = vs }) (take_all (a.top - 0 + 0) a.values (omega arith))

  pub nothing_merge : (a : ColumnState V) → length a.values ≤ a.top → merge_column no_writes a ≡ a
  nothing_merge a h =
      ⊎_elim (λ (lt : 0 < a.top). merge_right no_writes a lt ∙ ap (λ vs. record { top = a.top; values = vs }) (take_all (a.top - 0 + 0) a.values (omega arith)))
      (λ (le : a.top ≤ 0). merge-left no_writes a le ∙ empty a (omega arith) (omega arith)) (cases_lt 0 a.top)
    where
      none : (vs : List V) → length vs ≡ 0 → [] ≡ vs
      none [] e = refl
      none (v ∷ vs) e = absurd (omega arith)

      empty : (b : ColumnState V) → b.top ≡ 0 → length b.values ≡ 0 → first (0 - b.top + length b.values) no_writes ≡ b
      empty b t l = let e : first (0 - b.top + length b.values) no_writes ≡ no_writes = ap (λ vs. record { top = 0; values = vs }) (take-nil (0 - b.top + length b.values)) in e ∙ ap (λ n. record { top = n; values = [] }) (sym t) ∙ ap (λ vs. record { top = b.top; values = vs }) (none b.values l)

  -- ---- a merge of which one side is the first n values of a column

  over_left : (a b : ColumnState V) (n : ℕ) → b.top ≤ a.top → merge_column (first n a) b ≡ first (min (a.top - b.top + length b.values) n) a
  over_left a b n le = merge-left (first n a) b le ∙ first-first _ n a

  over_right : (a b : ColumnState V) (n : ℕ) → a.top < b.top → merge_column a (first n b) ≡ first (min (b.top - a.top + length a.values) n) b
  over_right a b n lt = merge_right a (first n b) lt ∙ first-first _ n b

  under_left : (a b : ColumnState V) (n : ℕ) → b.top ≤ a.top → merge_column a (first n b) ≡ first (a.top - b.top + min n (length b.values)) a
  under_left a b n le = merge-left a (first n b) le ∙ ap (λ k. first (a.top - b.top + k) a) (length-first n b)

  under_right : (a b : ColumnState V) (n : ℕ) → a.top < b.top → merge_column (first n a) b ≡ first (b.top - a.top + min n (length a.values)) b
  under_right a b n lt = merge_right (first n a) b lt ∙ ap (λ k. first (b.top - a.top + k) b) (length-first n a)

  pub associative : (a b c : ColumnState V) → merge_column (merge_column a b) c ≡ merge_column a (merge_column b c)
  associative a b c =
      ⊎_elim (λ (ab : a.top < b.top). ⊎_elim (λ (bc : b.top < c.top). by c _ _ (merge_right a b ab) (merge_right b c bc) (under_right b c _ bc) (over_right a c _ (omega arith)) (omega arith))
      (λ (cb : c.top ≤ b.top). by b _ _ (merge_right a b ab) (merge-left b c cb) (over_left b c _ cb) (over_right a b _ ab) (omega arith)) (cases_lt b.top c.top))
      (λ (ba : b.top ≤ a.top). ⊎_elim (λ (bc : b.top < c.top). ⊎_elim (λ (ac : a.top < c.top). by c _ _ (merge-left a b ba) (merge_right b c bc) (under_right a c _ ac) (over_right a c _ ac) (omega arith))
      (λ (ca : c.top ≤ a.top). by a _ _ (merge-left a b ba) (merge_right b c bc) (over_left a c _ ca) (under_left a c _ ca) (omega arith)) (cases_lt a.top c.top))
      (λ (cb : c.top ≤ b.top). by a _ _ (merge-left a b ba) (merge-left b c cb) (over_left a c _ (omega arith)) (under_left a b _ ba) (omega arith)) (cases_lt b.top c.top))
      (cases_lt a.top b.top)
    where
      -- both sides come to the first values of one column
      by : {p q : ColumnState V} (d : ColumnState V) (m n : ℕ) → merge_column a b ≡ p → merge_column b c ≡ q → merge_column p c ≡ first m d → merge_column a q ≡ first n d → m ≡ n → merge_column (merge_column a b) c ≡ merge_column a (merge_column b c)
      by d m n ab bc l r e = ap (λ k. merge_column k c) ab ∙ l ∙ ap (λ k. first k d) e ∙ sym (ap (merge_column a) bc ∙ r)

  pub commutative : (a b : ColumnState V) → Legal a → Legal b → Agree a b → merge_column a b ≡ merge_column b a
  commutative a b p q same = ⊎_elim level (⊎_elim (λ (lt : a.top < b.top). merge_right a b lt ∙ sym (merge-left b a (omega arith))) (λ (lt : b.top < a.top). merge-left a b (omega arith) ∙ sym (merge_right b a lt))) (cases_order a.top b.top)
    where
      level : a.top ≡ b.top → merge_column a b ≡ merge_column b a
      level e =
          merge-left a b (omega arith) ∙ ap (λ vs. record { top = a.top; values = vs }) here ∙ ap (λ t. record { top = t; values = take (b.top - a.top + length a.values) b.values }) e ∙ sym (merge-left b a (omega arith))
        where
          here : take (a.top - b.top + length b.values) a.values ≡ take (b.top - a.top + length a.values) b.values
          here =
              let m : ℕ = a.top - b.top + length b.values in
              let n : ℕ = b.top - a.top + length a.values in
              let vs = length-take m a.values in
              let ws = length-take n b.values in
              pointwise (take m a.values) (take n b.values) (omega arith) (λ i d h.
              get_or-take m a.values i d (omega arith)
              ∙ alike a.values b.values i d (omega arith) (omega arith) (λ u v s t. same (a.top - i) u v (i, omega arith, omega arith, s) (i, omega arith, omega arith, t))
              ∙ sym (get_or-take n b.values i d (omega arith)))

module _ {V W : Type 0} (f : V → W) where
  pub natural : (a b : ColumnState V) → merge_column (mapped f a) (mapped f b) ≡ mapped f (merge_column a b)
  natural a b =
      ⊎_elim (λ (lt : a.top < b.top). merge_right (mapped f a) (mapped f b) lt ∙ cut (b.top - a.top) b a ∙ sym (ap (mapped f) (merge_right a b lt)))
      (λ (le : b.top ≤ a.top). merge-left (mapped f a) (mapped f b) le ∙ cut (a.top - b.top) a b ∙ sym (ap (mapped f) (merge-left a b le))) (cases_lt a.top b.top)
    where
      cut : (n : ℕ) (c d : ColumnState V) → first (n + length (map f d.values)) (mapped f c) ≡ mapped f (first (n + length d.values) c)
      cut n c d = ap (λ k. first (n + k) (mapped f c)) (length-map d.values f) ∙ ap (λ vs. record { top = c.top; values = vs }) (take-map f (n + length d.values) c.values)
