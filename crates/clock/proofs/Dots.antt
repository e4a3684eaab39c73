-- The siblings and the tops of a state, column by column. Assumes nothing.
use Rattle.std.proofs.Common.{◌≡◌, ℕ, zero, suc, ◌+◌, ◌-◌, ◌*◌, ◌<◌, ◌≤◌, List, [], ◌∷◌, ◌++◌, length, get_or, take, drop, set, sum_by, sym, refl, ap, ◌∙◌, ⊎_elim, arith}
use lib.Seq.{paste}
use Rattle.std.proofs.lemmas.List.{append-nil, append_assoc, length-append, length-map, get_or-map, take_all, get_or_past, ext_get_or}
use Rattle.std.proofs.lemmas.List.Edits.{paste_more, paste_all, paste-paste}
use Rattle.std.proofs.lemmas.List.Sums.{sum_by_more}
use Rattle.std.proofs.lemmas.Bool.{cases_lt}
use Rattle.dvvset.specs.Clock.{State, context, no_writes}
use Rattle.dvvset.specs.Listing.{dotted, siblings, siblings_from}
use Rattle.dvvset.specs.declared.writes.Sibling.{Sibling}
use Rattle.clock.specs.Memory.{top_of, count_of, no_row, state}
use Rattle.clock.specs.declared.rows.Row.{Row}
use Rattle.clock.proofs.Whole.{bounds, length-state, get_or-state, length-column, column_part}

module _ {V : Type 0} where
  length_dotted : (c n : ℕ) (vs : List V) → length (dotted c n vs) ≡ length vs
  length_dotted c n [] = refl
  length_dotted c n (v ∷ vs) = ap suc (length_dotted c (n - 1) vs)

  get_or_dotted : (c n i : ℕ) (vs : List V) (z : Sibling V) (d : V) → i < length vs → get_or (dotted c n vs) i z ≡ record { dot = record { column = c; counter = n - i }; value = get_or vs i d }
  get_or_dotted c n i [] z d h = absurd (omega arith)
  get_or_dotted c n zero (v ∷ vs) z d h = let e : n ≡ n - 0 = omega arith in ap (λ m. record { dot = record { column = c; counter = m }; value = v }) e
  get_or_dotted c n (suc i) (v ∷ vs) z d h =
      let e : n - 1 - i ≡ n - suc i = omega arith in
      get_or_dotted c (n - 1) i vs z d (omega arith) ∙ ap (λ m. record { dot = record { column = c; counter = m }; value = get_or vs i d }) e

  siblings_more : (a i j : ℕ) (S : State V) → i < length S → a + i ≡ j → siblings_from a (take (suc i) S) ≡ siblings_from a (take i S) ++ dotted j (get_or S i no_writes).top (get_or S i no_writes).values
  siblings_more a i j [] h e = absurd (omega arith)
  siblings_more a zero j (x ∷ S) h e = append-nil (dotted a x.top x.values) ∙ (let f : a ≡ j = omega arith in ap (λ c. dotted c x.top x.values) f)
  siblings_more a (suc i) j (x ∷ S) h e =
      ap (λ ws. dotted a x.top x.values ++ ws) (siblings_more (a + 1) i j S (omega arith) (omega arith))
      ∙ sym (append_assoc (dotted a x.top x.values) (siblings_from (a + 1) (take i S)) _)

  -- the first columns have no more siblings than all
  pub siblings_short : (a i : ℕ) (S : State V) → length (siblings_from a (take i S)) ≤ length (siblings_from a S)
  siblings_short a zero S = omega arith
  siblings_short a (suc i) [] = omega arith
  siblings_short a (suc i) (x ∷ S) =
      let h = siblings_short (a + 1) i S in
      omega (arith, length-append (dotted a x.top x.values) (siblings_from (a + 1) (take i S)), length-append (dotted a x.top x.values) (siblings_from (a + 1) S))

  pub paste-dotted : (d out : List (Sibling V)) (at c t i : ℕ) (vs : List V) (x : V) → out ≡ paste d at (dotted c t vs) i → at + i < length d → i < length vs → x ≡ get_or vs i x → set out (at + i) (record { dot = record { column = c; counter = t - i }; value = x }) ≡ paste d at (dotted c t vs) (i + 1)
  paste-dotted d out at c t i vs x inv room lt is =
      let z : Sibling V = record { dot = record { column = c; counter = t - i }; value = x } in
      let p = paste_more d at (dotted c t vs) i z room (omega (arith, length_dotted c t vs)) in
      let q = get_or_dotted c t i vs z x lt in
      cc

  module _ (rows : List Row) (cells : List V) (c n : ℕ) (lt : c < 24) (room : 96 ≤ length cells) (inv : n ≡ length (siblings_from 0 (take c (state rows cells)))) where
    abbrev row : Row
    row = get_or rows c no_row

    more : siblings_from 0 (take (c + 1) (state rows cells)) ≡ siblings_from 0 (take c (state rows cells)) ++ dotted c (top_of row) (take (count_of row) (drop (4 * c) cells))
    more =
        let e : c + 1 ≡ suc c = omega arith in
        let m = siblings_more 0 c c (state rows cells) (omega (arith, length-state rows cells)) (omega arith) in
        rw e (m ∙ ap (λ a. siblings_from 0 (take c (state rows cells)) ++ dotted c a.top a.values) (get_or-state rows cells c no_writes lt))

    pub count_more : n + count_of (get_or rows c no_row) ≡ length (siblings_from 0 (take (c + 1) (state rows cells)))
    count_more =
        let l = length-append (siblings_from 0 (take c (state rows cells))) (dotted c (top_of row) (take (count_of row) (drop (4 * c) cells))) in
        let m = length_dotted c (top_of row) (take (count_of row) (drop (4 * c) cells)) in
        rw more (omega (arith, length-column row c cells lt room))

    -- there are no fewer in all
    pub count_fits : n + count_of (get_or rows c no_row) ≤ length (siblings (state rows cells))
    unfolding siblings
    count_fits = omega (arith, count_more, siblings_short 0 (c + 1) (state rows cells))

    -- k is 4 * c + 4 - 4 * c
    pub list_more : (k : ℕ) (d out new : List (Sibling V)) → k ≡ 4 → out ≡ paste d 0 (siblings_from 0 (take c (state rows cells))) n → new ≡ paste out n (dotted c (top_of (get_or rows c no_row)) (take (count_of (get_or rows c no_row)) (take k (drop (4 * c) cells)))) (count_of (get_or rows c no_row)) → new ≡ paste d 0 (siblings_from 0 (take (c + 1) (state rows cells))) (n + count_of (get_or rows c no_row))
    list_more k d out new four was is =
        let vs : List V = take (count_of row) (drop (4 * c) cells) in
        let q = ap (λ a. a.values) (column_part row k (drop (4 * c) cells) (omega arith)) in
        let z : 0 + n ≡ n = omega arith in
        let m = length_dotted c (top_of row) vs in
        let p = paste-paste d 0 (siblings_from 0 (take c (state rows cells))) (dotted c (top_of row) vs) n (count_of row) inv (omega (arith, length-column row c cells lt room)) (omega arith) in
        let e = more in
        cc

  -- all 24 columns are the whole state
  pub siblings-all : (rows : List Row) (cells : List V) (n : ℕ) → 24 ≤ n → siblings_from 0 (take n (state rows cells)) ≡ siblings (state rows cells)
  unfolding siblings
  siblings-all rows cells n h = ap (siblings_from 0) (take_all n (state rows cells) (omega (arith, length-state rows cells)))

  counted_upto : (rows : List Row) (cells : List V) (c : ℕ) → c ≤ 24 → 24 ≤ length rows → 96 ≤ length cells → sum_by count_of (take c rows) ≡ length (siblings_from 0 (take c (state rows cells)))
  counted_upto rows cells zero h l room = refl
  counted_upto rows cells (suc c) h l room =
      let e : c + 1 ≡ suc c = omega arith in
      let so_far = counted_upto rows cells c (omega arith) l room in
      let more = count_more rows cells c (sum_by count_of (take c rows)) h room so_far in
      rw (← e) (sum_by_more count_of rows c no_row (omega arith) ∙ more)

  -- the rows alone tell how many siblings there are
  pub counted : (rows : List Row) (cells : List V) → 24 ≤ length rows → 96 ≤ length cells → sum_by count_of (take 24 rows) ≡ length (siblings (state rows cells))
  counted rows cells l room = counted_upto rows cells 24 (omega arith) l room ∙ ap length (siblings-all rows cells 24 (omega arith))

  pub listed : (ws d out : List (Sibling V)) (n : ℕ) → n ≡ length ws → out ≡ paste d 0 ws n → out ≡ ws ++ drop (length ws) d
  listed ws d out n e is =
      let z : 0 + n ≡ n = omega arith in
      let p = paste_all d 0 ws n e in
      cc

-- ---- the tops

module _ {V : Type 0} (rows : List Row) (cells : List V) where
  pub length-context : length (context (state rows cells)) ≡ 24
  unfolding context
  length-context = length-map (state rows cells) (λ a. a.top) ∙ length-state rows cells

  pub get_or-context : (c : ℕ) → c < 24 → get_or (context (state rows cells)) c 0 ≡ top_of (get_or rows c no_row)
  unfolding context
  get_or-context c h = get_or-map (λ a. a.top) (state rows cells) c no_writes 0 (omega (arith, length-state rows cells)) ∙ ap (λ a. a.top) (get_or-state rows cells c no_writes h)

  pub context_is : (tops : List ℕ) → length tops ≡ 24 → ((c : ℕ) → c < 24 → get_or tops c 0 ≡ top_of (get_or rows c no_row)) → tops ≡ context (state rows cells)
  context_is tops l each = ext_get_or 0 tops (context (state rows cells)) (l ∙ sym length-context) (λ c h. each c (omega arith) ∙ sym (get_or-context c (omega arith)))

  pub context_low : (c : ℕ) → get_or (context (state rows cells)) c 0 ≤ 999999
  context_low c =
      ⊎_elim (λ (h : c < 24). omega (arith, get_or-context c h, (bounds (get_or rows c no_row)).1)) (λ (h : 24 ≤ c). omega (arith, get_or_past (context (state rows cells)) c 0 (omega (arith, length-context)))) (cases_lt c 24)
