-- A walk that merges each column of a checked frame into a state. Assumes nothing.
use Rattle.std.proofs.Common.{◌≡◌, ℕ, suc, ◌+◌, ◌-◌, ◌*◌, ◌<◌, ◌≤◌, true, List, length, get_or, take, drop, set, is_ok, Ok, Err, Result, sym, refl, ap, ◌∙◌, ⊎_elim, arith}
use borrow.Rule.Slice.PartMut.{put_mid}
use Rattle.std.proofs.lemmas.List.{drop_all, drop-drop, drop-set-lt, get_or-drop, get_or-replicate}
use Rattle.std.proofs.lemmas.Slice.{drop-put_mid}
use Rattle.std.proofs.lemmas.Bool.{cases_lt}
use Rattle.refusals.specs.declared.Refusal.{Refusal}
use Rattle.dvvset.specs.Clock.{ColumnState, State, no_writes, merge, merge_column}
use Rattle.dvvset.proofs.Merging.{merge_nothing}
use Rattle.dvvset.proofs.Zips.{upto, upto_more, upto_all, upto_skip}
use Rattle.clock.specs.Memory.{column, no_row, state}
use Rattle.clock.specs.declared.rows.Row.{Row}
use Rattle.clock.proofs.Whole.{length-state, read-column, state_legal, state-put}
use Rattle.formats.specs.Reading.{Keyed, head, column_told, reading, rising, values_of}
use Rattle.formats.proofs.Steps.{ok_same, then_ok}
use Rattle.formats.proofs.Walking.{walk_end, walk_found, walk_past}
use Rattle.cursor.specs.Seen.{ColumnShown, column_seen}
use Rattle.cursor.proofs.Founds.{column-found, head_rest}
use Rattle.frames.specs.Taking.{state_read}
use Rattle.frames.proofs.Walks as walks

module _ {V : Type 0} (w : ℕ) (value_of : List ℕ → V) (bs : List ℕ) where
  abbrev pub T : State V
  T = state_read (reading w value_of bs)

  abbrev read : ℕ → ℕ → Result (State V) Refusal
  read c at = rising (column_told w value_of) no_writes (24 - c) c at (drop at bs)

  pub starts : is_ok (reading w value_of bs) ≡ true → (4 ≤ length bs) × (read 0 4 ≡ Ok T)
  unfolding reading
  starts ok = go (reading w value_of bs) refl ok
    where
      go : (r : Result (Keyed (State V)) Refusal) → reading w value_of bs ≡ r → is_ok r ≡ true → (4 ≤ length bs) × (read 0 4 ≡ Ok (state_read r))
      go (Err e) is h = absurd (let z : ◌≡◌ {A = ℕ} 0 1 = cc in omega arith)
      go (Ok k) is h =
          let u = then_ok (head 1 0 bs) _ k is in
          let f = head_rest 1 0 bs u.0 u.1 in
          let v = then_ok (rising (column_told w value_of) no_writes 24 0 4 u.0.rest) _ k u.2 in
          let r : u.0.rest ≡ drop 4 bs = ap (λ q. q.rest) (ok_same (sym u.1 ∙ f.is)) in
          (f.long, ap (λ d. rising (column_told w value_of) no_writes 24 0 4 d) (sym r) ∙ v.1 ∙ ap (λ q. Ok q.what) (ok_same v.2))

  module _ (rows₀ : List Row) (cells₀ : List V) where
    -- the columns below `from` are merged, and the fields from `at` on tell of the others
    pub record Midway (at : ℕ) (rows : List Row) (cells : List V) : Type 0 where
      pub from : ℕ
      pub low : from ≤ 24
      pub left : read from at ≡ Ok (drop from T)
      pub done : state rows cells ≡ upto merge_column from (state rows₀ cells₀) T
      pub rows_beyond : drop 24 rows ≡ drop 24 rows₀
      pub cells_beyond : drop 96 cells ≡ drop 96 cells₀

    module _ (wide : length T ≡ 24) where
      -- a column of the state that nothing is merged into stays
      stays : (i : ℕ) → get_or T i no_writes ≡ no_writes → merge_column (get_or (state rows₀ cells₀) i no_writes) (get_or T i no_writes) ≡ get_or (state rows₀ cells₀) i no_writes
      stays i e = ap (merge_column (get_or (state rows₀ cells₀) i no_writes)) e ∙ merge_nothing (get_or (state rows₀ cells₀) i no_writes) ((state_legal rows₀ cells₀).each i).within

      skipped : (c d : ℕ) → c ≤ d → d ≤ 24 → ((i : ℕ) → c ≤ i → i < d → get_or T i no_writes ≡ no_writes) → upto merge_column c (state rows₀ cells₀) T ≡ upto merge_column d (state rows₀ cells₀) T
      skipped c d l m none = upto_skip merge_column c d (state rows₀ cells₀) T no_writes no_writes l (omega (arith, length-state rows₀ cells₀)) (omega arith) (λ i p q. stays i (none i p q))

      module _ (at : ℕ) (rows : List Row) (cells : List V) (mid : Midway at rows cells) where
        -- only the end is refused
        pub ended : (e : Refusal) → Err e ≡ column_seen w at (drop at bs) → length bs ≤ at
        ended e h =
            ⊎_elim (λ (l : at < length bs). absurd (let r = walks.refused_here w value_of bs mid.from at e l h in let s = mid.left in let z : ◌≡◌ {A = ℕ} 0 1 = cc in omega arith)) (λ (l : length bs ≤ at). l) (cases_lt at (length bs))

        -- at the end
        pub finished : (e : Refusal) → Err e ≡ column_seen w at (drop at bs) → state rows cells ≡ merge (state rows₀ cells₀) T
        unfolding merge
        finished why refused =
            let l = ended why refused in
            let e = walk_end (column_told w value_of) no_writes (λ p. refl) (24 - mid.from) mid.from at in
            let s = sym mid.left ∙ ap (λ d. rising (column_told w value_of) no_writes (24 - mid.from) mid.from at d) (drop_all at bs l) ∙ e in
            mid.done
            ∙ skipped mid.from 24 mid.low (omega arith) (λ i p q. let k : mid.from + (i - mid.from) ≡ i = omega arith in ap (λ m. get_or T m no_writes) (sym k) ∙ sym (get_or-drop mid.from T (i - mid.from) no_writes) ∙ ap (λ xs. get_or xs (i - mid.from) no_writes) (ok_same s) ∙ get_or-replicate (24 - mid.from) (i - mid.from) no_writes no_writes (omega arith))
            ∙ upto_all merge_column 24 (state rows₀ cells₀) T (length-state rows₀ cells₀) wide

        -- at a field
        module _ (s : ColumnShown) (h : Ok s ≡ column_seen w at (drop at bs)) where
          abbrev j : ℕ
          j = s.column

          -- the column that it tells
          abbrev theirs : ColumnState V
          theirs = record { top = s.top; values = values_of w value_of s.count s.values }

          told_there : column_told w value_of at (drop at bs) ≡ Ok (record { column = j; what = theirs; next = at + (9 + length s.values); rest = drop (at + (9 + length s.values)) bs })
          told_there = walks.told_here w value_of bs at s (column-found w at (drop at bs) s h)

          ahead : mid.from ≤ j
          ahead = ⊎_elim (λ (l : j < mid.from). absurd (let r = walk_past (column_told w value_of) no_writes (λ q. refl) (24 - mid.from) mid.from at (drop at bs) _ told_there l in let s = mid.left in let z : ◌≡◌ {A = ℕ} 0 1 = cc in omega arith)) (λ (l : mid.from ≤ j). l) (cases_lt j mid.from)

          -- k is 4 * j + 4 - 4 * j
          pub onward : (r : Row) (k : ℕ) (ys : List V) → 24 ≤ length rows → 96 ≤ length cells → k ≡ 4 → length ys ≡ 4 → column r ys ≡ merge_column (column (get_or rows j no_row) (take k (drop (4 * j) cells))) theirs → Midway (at + (9 + length s.values)) (set rows j r) (put_mid (4 * j) k cells ys)
          onward r k ys long room four len is =
              let f = (column-found w at (drop at bs) s h) in
              let low : j < 24 = omega (arith, f.low) in
              let a = ahead in
              let size : 24 - mid.from ≡ (j - mid.from) + suc (24 - (j + 1)) = omega arith in
              let x = walk_found (column_told w value_of) no_writes (λ q. refl) (j - mid.from) (24 - (j + 1)) mid.from at (drop at bs) _ (drop mid.from T) told_there (omega arith) (ap (λ m. rising (column_told w value_of) no_writes m mid.from at (drop at bs)) (sym size) ∙ mid.left) in
              let j_is : mid.from + (j - mid.from) ≡ j = omega arith in
              let next_is : mid.from + (j - mid.from + 1) ≡ j + 1 = omega arith in
              let here : get_or T j no_writes ≡ theirs = ap (λ m. get_or T m no_writes) (sym j_is) ∙ sym (get_or-drop mid.from T (j - mid.from) no_writes) ∙ x.here in
              let skip = mid.done ∙ skipped mid.from j a (omega arith) (λ i u v. let i_is : mid.from + (i - mid.from) ≡ i = omega arith in ap (λ m. get_or T m no_writes) (sym i_is) ∙ sym (get_or-drop mid.from T (i - mid.from) no_writes) ∙ x.before (i - mid.from) (omega arith)) in
              let mine = read-column rows cells j k no_writes low four in
              record {
                from = j + 1;
                low = omega arith;
                left = x.rest ∙ ap Ok (drop-drop (j - mid.from + 1) mid.from T ∙ ap (λ m. drop m T) next_is);
                done = upto_more merge_column j (state rows₀ cells₀) T no_writes no_writes (state rows cells) (state (set rows j r) (put_mid (4 * j) k cells ys)) (column r ys) (omega (arith, length-state rows₀ cells₀)) (omega arith) skip (is ∙ ap (λ m. merge_column m theirs) mine ∙ ap (merge_column (get_or (state rows cells) j no_writes)) (sym here)) (state-put rows cells j r low long k ys four len room);
                rows_beyond = drop-set-lt 24 rows j r low ∙ mid.rows_beyond;
                cells_beyond = drop-put_mid (4 * j) k cells ys 96 (omega arith) (omega arith) (omega arith) ∙ mid.cells_beyond;
              }
