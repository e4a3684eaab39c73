-- Values read one after the other into cells. Assumes nothing.
use Rattle.std.proofs.Common.{◌≡◌, ℕ, zero, suc, ◌+◌, ◌-◌, ◌*◌, ◌<◌, ◌≤◌, List, [], ◌∷◌, ◌++◌, length, take, drop, set, sym, refl, ap, ◌∙◌, mul-suc, arith}
use Rattle.std.proofs.lemmas.List.{append-nil, append_assoc, drop-set, drop-set-add, drop_at, length-append, set-append_right, take_at}
use Rattle.formats.specs.Reading.{values_of}

module _ {V : Type 0} (w : ℕ) (value_of : List ℕ → V) where
  pub length_values : (n : ℕ) (bs : List ℕ) → length (values_of w value_of n bs) ≡ n
  length_values zero bs = refl
  length_values (suc n) bs = ap suc (length_values n (drop w bs))

  module _ (cells₀ : List V) (count : ℕ) (values : List ℕ) where
    seam : (done : List V) (n : ℕ) (x : V) → length done ≡ n → n < length cells₀ → set (done ++ drop n cells₀) n x ≡ (done ++ (x ∷ [])) ++ drop (n + 1) cells₀
    seam done n x e h =
        let none : n - n ≡ 0 = omega arith in
        let same : n + 0 ≡ n = omega arith in
        set-append_right done (drop n cells₀) n n x e (omega arith) ∙ ap (λ k. done ++ set (drop n cells₀) k x) none ∙ ap (λ ys. done ++ ys) (sym (drop-set-add n cells₀ 0 x) ∙ ap (λ k. drop n (set cells₀ k x)) same ∙ drop-set cells₀ n x h) ∙ sym (append_assoc done (x ∷ []) (drop (n + 1) cells₀))

    -- n values are read into the cells, and the others stand in the rest of the bytes
    pub record Midway (n : ℕ) (rest : List ℕ) (cells : List V) : Type 0 where
      pub done : List V
      pub left : ℕ
      pub n_is : length done ≡ n
      pub long : length rest ≡ w * left
      pub all : values_of w value_of count values ≡ done ++ values_of w value_of left rest
      pub cells_are : cells ≡ done ++ drop n cells₀

    pub starts : length values ≡ w * count → Midway 0 values cells₀
    starts h = record { done = []; left = count; n_is = refl; long = h; all = refl; cells_are = refl }

    module _ (n : ℕ) (rest : List ℕ) (cells : List V) (mid : Midway n rest cells) (room : count ≤ length cells₀) (some : 1 ≤ w) where
      sum_is : count ≡ n + mid.left
      sum_is = sym (length_values count values) ∙ ap length mid.all ∙ length-append mid.done (values_of w value_of mid.left rest) ∙ (let a = mid.n_is in let b = length_values mid.left rest in omega arith)

      pub at_the_end : length rest < w → cells ≡ values_of w value_of count values ++ drop count cells₀
      at_the_end short = go mid.left refl
        where
          go : (k : ℕ) → mid.left ≡ k → cells ≡ values_of w value_of count values ++ drop count cells₀
          go zero e =
              let c : n ≡ count = let s = sum_is in omega arith in
              let d : values_of w value_of count values ≡ mid.done = mid.all ∙ ap (λ k. mid.done ++ values_of w value_of k rest) e ∙ append-nil mid.done in
              mid.cells_are ∙ ap (λ xs. xs ++ drop n cells₀) (sym d) ∙ ap (λ k. values_of w value_of count values ++ drop k cells₀) c
          go (suc k) e = absurd (let l = mid.long ∙ ap (λ m. w * m) e ∙ mul-suc w k in omega arith)

      -- the next value's bytes are x
      module _ (x rest' : List ℕ) (cut : rest ≡ x ++ rest') (fill : length x ≡ w) where
        pub next : (n < count) × Midway (n + 1) rest' (set cells n (value_of x))
        next = go mid.left refl
          where
            go : (k : ℕ) → mid.left ≡ k → (n < count) × Midway (n + 1) rest' (set cells n (value_of x))
            go zero e = absurd (let l = mid.long ∙ ap (λ m. w * m) e in let a = ap length cut ∙ length-append x rest' in omega arith)
            go (suc k) e =
                let xs = values_of w value_of k rest' in
                let first : take w rest ≡ x = ap (take w) cut ∙ take_at x rest' w fill in
                let behind : drop w rest ≡ rest' = ap (drop w) cut ∙ drop_at x rest' w fill in
                let all : values_of w value_of mid.left rest ≡ value_of x ∷ xs = ap (λ m. values_of w value_of m rest) e ∙ ap (λ y. value_of y ∷ values_of w value_of k (drop w rest)) first ∙ ap (λ b. value_of x ∷ values_of w value_of k b) behind in
                let lt : n < count = let s = sum_is in omega arith in (
                  lt,
                  record {
                    done = mid.done ++ (value_of x ∷ []);
                    left = k;
                    n_is = let a = mid.n_is in omega (arith, length-append mid.done (value_of x ∷ []));
                    long = let l = mid.long ∙ ap (λ m. w * m) e ∙ mul-suc w k in omega (arith, ap length cut, length-append x rest');
                    all = mid.all ∙ ap (λ ys. mid.done ++ ys) all ∙ sym (append_assoc mid.done (value_of x ∷ []) xs);
                    cells_are = ap (λ c. set c n (value_of x)) mid.cells_are ∙ seam mid.done n (value_of x) mid.n_is (omega arith);
                  },
                )

        -- at a place that is the n-th
        pub next_at : (i : ℕ) → (n < count → i ≡ n) → Midway (n + 1) rest' (set cells i (value_of x))
        next_at i here = rw (here next.0) next.1
