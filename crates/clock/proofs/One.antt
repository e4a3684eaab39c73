-- Merge, discard and push of one column, by the numbers of its row. Assumes nothing.
use Rattle.std.proofs.Common.{◌≡◌, ℕ, ◌+◌, ◌-◌, ◌<◌, ◌≤◌, min, max, List, [], ◌∷◌, ◌++◌, length, take, drop, set, sym, refl, ap, ◌∙◌, add-one, arith}
use Rattle.std.proofs.lemmas.List.{length-take-le, length-drop, take-take}
use Rattle.dvvset.specs.Clock.{first, merge_column, discard_column, push}
use Rattle.dvvset.proofs.Lists.{take_min}
use Rattle.dvvset.proofs.Merging as merging
use Rattle.clock.specs.Memory.{top_of, count_of, column}
use Rattle.clock.specs.declared.rows.Row.{Row}

module _ {V : Type 0} where
  -- the row r stands for the first k values of the row a
  first_is : (a r : Row) (k : ℕ) (xs : List V) → top_of r ≡ top_of a → count_of r ≡ min k (count_of a) → column r xs ≡ first k (column a xs)
  first_is a r k xs t n = let e = take_min k (count_of a) xs in cc

  module _ (a b r : Row) (xs ys : List V) where
    pub merge-left : count_of b ≤ length ys → top_of b ≤ top_of a → top_of r ≡ top_of a → count_of r ≡ min (top_of a - top_of b + count_of b) (count_of a) → column r xs ≡ merge_column (column a xs) (column b ys)
    merge-left few le t n =
        let l : length (take (count_of b) ys) ≡ count_of b = length-take-le (count_of b) ys few in
        first_is a r (top_of a - top_of b + count_of b) xs t n ∙ sym (merging.merge-left (column a xs) (column b ys) le ∙ ap (λ k. first (top_of a - top_of b + k) (column a xs)) l)

    pub merge_right : count_of a ≤ length xs → top_of a < top_of b → top_of r ≡ top_of b → count_of r ≡ min (top_of b - top_of a + count_of a) (count_of b) → column r ys ≡ merge_column (column a xs) (column b ys)
    merge_right few lt t n =
        let l : length (take (count_of a) xs) ≡ count_of a = length-take-le (count_of a) xs few in
        first_is b r (top_of b - top_of a + count_of a) ys t n ∙ sym (merging.merge_right (column a xs) (column b ys) lt ∙ ap (λ k. first (top_of b - top_of a + k) (column b ys)) l)

  pub discard_is : (a r : Row) (n : ℕ) (xs : List V) → top_of r ≡ max (top_of a) n → count_of r ≡ min (top_of a - n) (count_of a) → column r xs ≡ discard_column (column a xs) n
  unfolding discard_column
  discard_is a r n xs t k = let e = take_min (top_of a - n) (count_of a) xs in cc

  set_first : (d ys : List V) (v : V) → length d ≡ 1 → set (d ++ ys) 0 v ≡ v ∷ ys
  set_first [] ys v l = absurd (omega arith)
  set_first (x ∷ []) ys v l = refl
  set_first (x ∷ y ∷ d) ys v l = absurd (omega arith)

  -- the cells move up by one, and v goes to the front
  pub push_front : (a r : Row) (xs ys : List V) (v : V) → length xs ≡ 4 → ys ≡ drop (length xs - 1) xs ++ take (length xs - 1) xs → count_of a < 4 → top_of r ≡ top_of a + 1 → count_of r ≡ count_of a + 1 → column r (set ys 0 v) ≡ push v (column a xs)
  unfolding push
  push_front a r xs ys v l e lt t n =
      let f : set (drop (length xs - 1) xs ++ take (length xs - 1) xs) 0 v ≡ v ∷ take (length xs - 1) xs = set_first (drop (length xs - 1) xs) (take (length xs - 1) xs) v (simp length-drop (omega arith)) in
      let h : count_of a ≤ length xs - 1 = omega arith in
      let k : take (count_of a + 1) (v ∷ take (length xs - 1) xs) ≡ v ∷ take (count_of a) xs = rw add-one (ap (λ vs. v ∷ vs) (take-take (count_of a) (length xs - 1) xs h)) in
      cc
