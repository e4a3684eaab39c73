-- What a write to one row, and to its four cells, makes of the state. Assumes nothing.
use Rattle.std.proofs.Common.{◌≡◌, ℕ, ◌+◌, ◌*◌, ◌<◌, ◌≤◌, Bool, true, false, cond, leb, ◌≢◌, List, ◌++◌, length, get_or, take, drop, set, sym, refl, ap, ◌∙◌, ⊎_elim, arith}
use borrow.Rule.Slice.PartMut.{put_mid}
use Rattle.std.proofs.lemmas.List.{length-take, length-take-le, length-drop, get_or_past, get_or_append_left, length-set, take-append-le, take-take, drop-take, drop_at, get_or-set_same, get_or-set_other, ext_get_or}
use Rattle.std.proofs.lemmas.List.FromFn.{length-map-range_with_len, get_or-map-range_with_len}
use Rattle.std.proofs.lemmas.Slice.{take-put_mid_below, drop-put_mid}
use Rattle.std.proofs.lemmas.Bool.{cases_lt, cases_order, cond_both, leb-true, and_parts}
use Rattle.dvvset.specs.Clock.{ColumnState, Legal, LegalState, discard, discard_column, no_writes, column_at}
use Rattle.dvvset.proofs.Zips.{get_d_zip, length_zip}
use Rattle.clock.specs.Memory.{sound, top_of, count_of, column, no_row, state}
use Rattle.clock.specs.Calls.{Remains}
use Rattle.clock.specs.declared.rows.Row.{Row}
use Rattle.clock.proofs.One.{discard_is}

pub few : (r : Row) → count_of r ≤ 4
few r = cond_both (sound r) r.count 0 (λ x. x ≤ 4) (λ e. leb-true r.count 4 (and_parts _ _ e).0) (λ e. omega arith)

pub bounds : (r : Row) → (count_of r ≤ top_of r) × (top_of r ≤ 999999)
bounds r = go (sound r) refl
  where
    go : (b : Bool) → sound r ≡ b → (cond b r.count 0 ≤ cond b r.top 0) × (cond b r.top 0 ≤ 999999)
    go true e = let p = and_parts (leb r.count 4) _ e in let q = and_parts (leb r.count r.top) _ p.1 in (leb-true r.count r.top q.0, leb-true r.top 999999 q.1)
    go false e = (omega arith, omega arith)

module _ {V : Type 0} where
  -- a column has its values in the first four cells
  pub column_part : (r : Row) (k : ℕ) (vs : List V) → 4 ≤ k → column r (take k vs) ≡ column r vs
  column_part r k vs h = ap (λ ws. record { top = top_of r; values = ws }) (take-take (count_of r) k vs (omega (arith, few r)))

  pub length-column : (r : Row) (c : ℕ) (cells : List V) → c < 24 → 96 ≤ length cells → length (take (count_of r) (drop (4 * c) cells)) ≡ count_of r
  length-column r c cells h k = let f = few r in length-take-le (count_of r) (drop (4 * c) cells) (simp length-drop (omega arith))

  pub length-state : (rows : List Row) (cells : List V) → length (state rows cells) ≡ 24
  unfolding state
  length-state rows cells = length-map-range_with_len (λ c. column (get_or rows c no_row) (drop (4 * c) cells)) 0 24

  pub get_or-state : (rows : List Row) (cells : List V) (c : ℕ) (d : ColumnState V) → c < 24 → get_or (state rows cells) c d ≡ column (get_or rows c no_row) (drop (4 * c) cells)
  unfolding state
  get_or-state rows cells c d h = get_or-map-range_with_len (λ i. column (get_or rows i no_row) (drop (4 * i) cells)) 0 24 c c d h (omega arith)

  -- a column as a loan of its cells has it: k is 4 * c + 4 - 4 * c
  pub read-column : (rows : List Row) (cells : List V) (c k : ℕ) (d : ColumnState V) → c < 24 → k ≡ 4 → column (get_or rows c no_row) (take k (drop (4 * c) cells)) ≡ get_or (state rows cells) c d
  read-column rows cells c k d h e = column_part (get_or rows c no_row) k (drop (4 * c) cells) (omega arith) ∙ sym (get_or-state rows cells c d h)

  module _ (rows : List Row) (cells : List V) (c : ℕ) (r : Row) (inside : c < 24) (long : 24 ≤ length rows) where
    -- new cells that the other columns do not see
    state_set : (new : List V) → ((i : ℕ) (q : Row) → i ≢ c → column q (drop (4 * i) new) ≡ column q (drop (4 * i) cells)) → state (set rows c r) new ≡ set (state rows cells) c (column r (drop (4 * c) new))
    state_set new other =
        ext_get_or no_writes _ _ (length-state (set rows c r) new ∙ sym (length-set (state rows cells) c _ ∙ length-state rows cells))
        (λ i h. let l : i < 24 = omega (arith, length-state (set rows c r) new) in get_or-state (set rows c r) new i no_writes l ∙ ⊎_elim (here i l) (⊎_elim (λ (k : i < c). there i l (omega arith)) (λ (k : c < i). there i l (omega arith))) (cases_order i c))
      where
        here : (i : ℕ) → i < 24 → i ≡ c → column (get_or (set rows c r) i no_row) (drop (4 * i) new) ≡ get_or (set (state rows cells) c (column r (drop (4 * c) new))) i no_writes
        here i l e =
            let p : get_or (set rows c r) c no_row ≡ r = get_or-set_same rows c r no_row (omega arith) in
            let q : get_or (set (state rows cells) c (column r (drop (4 * c) new))) c no_writes ≡ column r (drop (4 * c) new) = get_or-set_same (state rows cells) c _ no_writes (omega (arith, length-state rows cells)) in
            rw (e, p, q)

        there : (i : ℕ) → i < 24 → i ≢ c → column (get_or (set rows c r) i no_row) (drop (4 * i) new) ≡ get_or (set (state rows cells) c (column r (drop (4 * c) new))) i no_writes
        there i l n =
            let p : get_or (set rows c r) i no_row ≡ get_or rows i no_row = get_or-set_other rows c i r no_row n in
            let q : get_or (set (state rows cells) c (column r (drop (4 * c) new))) i no_writes ≡ get_or (state rows cells) i no_writes = get_or-set_other (state rows cells) c i _ no_writes n in
            rw (p, q) (other i (get_or rows i no_row) n ∙ sym (get_or-state rows cells i no_writes l))

    pub state-row : state (set rows c r) cells ≡ set (state rows cells) c (column r (drop (4 * c) cells))
    state-row = state_set cells (λ i q n. refl)

    -- k is 4 * c + 4 - 4 * c
    pub state-put : (k : ℕ) (ys : List V) → k ≡ 4 → length ys ≡ 4 → 96 ≤ length cells → state (set rows c r) (put_mid (4 * c) k cells ys) ≡ set (state rows cells) c (column r ys)
    state-put k ys e l room = state_set (put_mid (4 * c) k cells ys) other ∙ ap (set (state rows cells) c) own
      where
        near : (q : Row) (i : ℕ) (vs : List V) → column q (drop (4 * i) vs) ≡ column q (drop (4 * i) (take (4 * i + 4) vs))
        near q i vs = sym (rw (drop-take (4 * i) 4 vs) (column_part q 4 (drop (4 * i) vs) (omega arith)))

        other : (i : ℕ) (q : Row) → i ≢ c → column q (drop (4 * i) (put_mid (4 * c) k cells ys)) ≡ column q (drop (4 * i) cells)
        other i q n =
            ⊎_elim (λ (p : i ≡ c). absurd (n p))
            (⊎_elim
            (λ (p : i < c). near q i (put_mid (4 * c) k cells ys) ∙ ap (λ vs. column q (drop (4 * i) vs)) (take-put_mid_below (4 * c) k cells ys (4 * i + 4) (omega arith) (omega arith)) ∙ sym (near q i cells))
            (λ (p : c < i). ap (column q) (drop-put_mid (4 * c) k cells ys (4 * i) (omega arith) (omega arith) (omega arith))))
            (cases_order i c)

        own : column r (drop (4 * c) (put_mid (4 * c) k cells ys)) ≡ column r ys
        own =
            let f : length (take (4 * c) cells) ≡ 4 * c = length-take-le (4 * c) cells (omega arith) in
            rw (drop_at (take (4 * c) cells) (ys ++ drop k (drop (4 * c) cells)) (4 * c) f)
            (ap (λ vs. record { top = top_of r; values = vs }) (take-append-le (count_of r) ys (drop k (drop (4 * c) cells)) (omega (arith, few r))))

  -- rows beyond the key's mean nothing
  pub state_front_rows : (rows rest : List Row) (cells : List V) → length rows ≡ 24 → state (rows ++ rest) cells ≡ state rows cells
  state_front_rows rows rest cells e =
      ext_get_or no_writes _ _ (length-state (rows ++ rest) cells ∙ sym (length-state rows cells))
      (λ c h.
      let l : c < 24 = omega (arith, length-state (rows ++ rest) cells) in
      get_or-state (rows ++ rest) cells c no_writes l ∙ ap (λ r. column r (drop (4 * c) cells)) (get_or_append_left rows rest no_row c (omega arith)) ∙ sym (get_or-state rows cells c no_writes l))

  -- each row discarded by itself
  pub state_discarded : (rows new : List Row) (tops : List ℕ) (cells : List V) → length tops ≡ 24 → ((c : ℕ) → c < 24 → Remains rows tops c (get_or new c no_row)) → state new cells ≡ discard tops (state rows cells)
  unfolding discard
  state_discarded rows new tops cells wide each =
      ext_get_or no_writes _ _ (omega (arith, length-state new cells, length-state rows cells, length_zip discard_column (state rows cells) tops))
      (λ c h.
      let l : c < 24 = omega (arith, length-state new cells) in
      let e = each c l in
      get_or-state new cells c no_writes l
      ∙ discard_is (get_or rows c no_row) (get_or new c no_row) (get_or tops c 0) (drop (4 * c) cells) e.top e.count
      ∙ sym (get_d_zip discard_column c (state rows cells) tops no_writes 0 no_writes (omega (arith, length-state rows cells)) (omega arith) ∙ ap (λ a. discard_column a (get_or tops c 0)) (get_or-state rows cells c no_writes l)))

  -- whatever memory holds, it means a legal state
  pub state_legal : (rows : List Row) (cells : List V) → LegalState (state rows cells)
  state_legal rows cells = record { wide = length-state rows cells; each = each }
    where
      each : (c : ℕ) → Legal (column_at (state rows cells) c)
      each c = ⊎_elim (λ (h : c < 24). rw (get_or-state rows cells c no_writes h) (legal (get_or rows c no_row) (drop (4 * c) cells))) (λ (h : 24 ≤ c). rw (get_or_past (state rows cells) c no_writes (omega (arith, length-state rows cells))) blank) (cases_lt c 24)
        where
          legal : (r : Row) (vs : List V) → Legal (column r vs)
          legal r vs = let l = length-take (count_of r) vs in let b = bounds r in record { few = omega (arith, few r); within = omega (arith, b.0); low = b.1 }

          blank : Legal (no_writes {V = V})
          blank = record { few = omega arith; within = omega arith; low = omega arith }
