-- Values and fields written one after the other. Assumes nothing.
use Rattle.std.proofs.Common.{◌≡◌, ℕ, zero, suc, ◌+◌, ◌*◌, ◌<◌, ◌≤◌, Bool, true, false, cond, ◌&&◌, eqb, leb, List, [], ◌∷◌, ◌++◌, length, get_or, take, drop, sum_by, Ok, sym, ap, ◌∙◌, refl, mul-le-mul_left, arith}
use borrow.Rule.Slice.PartMut.{put_mid}
use Rattle.std.proofs.lemmas.List.{length-take, length-drop, take_all, take_at, drop_at, drop-drop, drop_all, append-nil, append_assoc}
use Rattle.std.proofs.lemmas.List.Sums.{sum_by-le, sum_by_more}
use Rattle.std.proofs.lemmas.Bool.{cond_both, cond-true, le-leb, lt-leb}
use Rattle.refusals.specs.declared.Refusal.TheVariants.{NoSuchSeatOrKey, ShortMemory}
use Rattle.dvvset.specs.Clock.{State, accepted, after, answer, no_writes, refused}
use Rattle.clock.specs.Calls.{in_room}
use Rattle.clock.specs.Memory.{count_of, no_row, roomy, state, top_of}
use Rattle.clock.specs.declared.rows.Row.{Row}
use Rattle.clock.proofs.Whole.{few, get_or-state, length-column, length-state, read-column}
use Rattle.formats.specs.Frames.{column_field, fields_length, frame, frame_length, head_field, rising_fields, unwritten}
use Rattle.formats.proofs.Laying.{fields_more}
use Rattle.frames.specs.Taking.{writing_frame}
use Rattle.frames.specs.Writing.{field_length, field_of}

-- what is written behind J, in k bytes lent from `at` on: w bytes are written there, and the rest stays
pub wrote_more : (J o out last wx mid : List ℕ) (at k w : ℕ) → length J ≡ at → o ≡ J ++ drop at out → k ≡ w → last ≡ wx ++ drop w mid → length mid ≡ w → put_mid at k o last ≡ (J ++ wx) ++ drop (at + w) out
wrote_more J o out last wx mid at k w lJ eo ek el lm =
    let t : take at o ≡ J = ap (take at) eo ∙ take_at J (drop at out) at lJ in
    let d : drop at o ≡ drop at out = ap (drop at) eo ∙ drop_at J (drop at out) at lJ in
    let e : last ≡ wx = el ∙ ap (λ m. wx ++ m) (drop_all w mid (omega arith)) ∙ append-nil wx in
    let f : drop k (drop at o) ≡ drop (at + w) out = ap (λ n. drop n (drop at o)) ek ∙ ap (drop w) d ∙ drop-drop w at out in
    let a = append_assoc J wx (drop (at + w) out) in
    cc

pub length_mid : (o : List ℕ) (at k w : ℕ) → k ≡ w → at + w ≤ length o → length (take k (drop at o)) ≡ w
length_mid o at k w e h = simp (length-take, length-drop) (omega arith)

-- ---- how long fields are

module _ (w : ℕ) (narrow : w ≤ 16) where
  pub field_most : (row : Row) → field_length w row ≤ 73
  field_most row =
      let small = few row in
      let all : 9 + w * count_of row ≤ 73 = omega (arith, mul-le-mul_left {m = count_of row} {n = 4} w (few row)) in
      cond_both (eqb (top_of row) 0) 0 (9 + w * count_of row) (λ n. n ≤ 73) (λ e. omega arith) (λ e. all)

  pub fields_most : (rows : List Row) → sum_by (field_length w) rows ≤ length rows * 73
  fields_most rows = sum_by-le (field_length w) 73 rows (λ k d h. field_most (get_or rows k d))

module _ {V : Type 0} (w : ℕ) where
  fields_length_more : (i : ℕ) (S : State V) → i < length S → fields_length w (take (suc i) S) ≡ fields_length w (take i S) + cond (unwritten (get_or S i no_writes)) 0 (9 + w * length (get_or S i no_writes).values)
  fields_length_more i [] h = absurd (omega arith)
  fields_length_more zero (a ∷ S) h = omega arith
  fields_length_more (suc i) (a ∷ S) h = omega (arith, fields_length_more i S (omega arith))

  module _ (rows : List Row) (cells : List V) (long : 24 ≤ length rows) (room : 96 ≤ length cells) where
    -- by the rows alone
    pub length_upto : (c : ℕ) → c ≤ 24 → 4 + sum_by (field_length w) (take c rows) ≡ frame_length w (take c (state rows cells))
    length_upto zero h = refl
    length_upto (suc c) h =
        let row = get_or rows c no_row in
        let e : c + 1 ≡ suc c = omega arith in
        let here = ap (λ q. cond (unwritten q) 0 (9 + w * length q.values)) (get_or-state rows cells c no_writes h) ∙ ap (λ q. cond (eqb (top_of row) 0) 0 (9 + w * q)) (length-column row c cells h room) in
        omega (arith, length_upto c (omega arith), rw e at (sum_by_more (field_length w) rows c no_row (omega arith)), fields_length_more c (state rows cells) (omega (arith, length-state rows cells)), here)

    pub length-all : 4 + sum_by (field_length w) (take 24 rows) ≡ frame_length w (state rows cells)
    length-all = length_upto 24 (omega arith) ∙ ap (frame_length w) (take_all 24 (state rows cells) (omega (arith, length-state rows cells)))

-- ---- the fields of all columns

module _ {V : Type 0} (bytes_of : V → List ℕ) (rows : List Row) (cells : List V) where
  -- the fields of the first c columns
  abbrev pub fields : ℕ → List ℕ
  fields c = rising_fields unwritten (column_field bytes_of) 0 (take c (state rows cells))

  -- k is 4 * c + 4 - 4 * c
  pub next-fields : (c k : ℕ) → c < 24 → k ≡ 4 → fields (c + 1) ≡ fields c ++ field_of bytes_of c (get_or rows c no_row) (take k (drop (4 * c) cells))
  next-fields c k lt four =
      let e : c + 1 ≡ suc c = omega arith in
      ap fields e ∙ fields_more unwritten (column_field bytes_of) 0 c c (state rows cells) no_writes (omega (arith, length-state rows cells)) (omega arith)
      ∙ ap (λ a. fields c ++ cond (unwritten a) [] (column_field bytes_of c a)) (sym (read-column rows cells c k no_writes lt four))

  pub all-fields : (n : ℕ) → 24 ≤ n → fields n ≡ rising_fields unwritten (column_field bytes_of) 0 (state rows cells)
  all-fields n h = ap (rising_fields unwritten (column_field bytes_of) 0) (take_all n (state rows cells) (omega (arith, length-state rows cells)))

-- ---- the whole frame

module _ {V : Type 0} (w : ℕ) (bytes_of : V → List ℕ) (key : ℕ) (rows : List Row) (cells : List V) (out : List ℕ) (low : key ≤ 15) (room : roomy rows cells ≡ true) where
  abbrev N : ℕ
  N = frame_length w (state rows cells)

  reached : (b : Bool) → leb N (length out) ≡ b → writing_frame w bytes_of key rows cells out ≡ in_room b (accepted N (frame bytes_of key (state rows cells) ++ drop N out))
  reached b e =
      cond-true (leb key 15) _ (refused NoSuchSeatOrKey) (le-leb key 15 low)
      ∙ ap (λ r. in_room (r && leb N (length out)) (accepted N (frame bytes_of key (state rows cells) ++ drop N out))) room
      ∙ ap (λ r. in_room r (accepted N (frame bytes_of key (state rows cells) ++ drop N out))) e

  pub too_short : length out < N → writing_frame w bytes_of key rows cells out ≡ refused ShortMemory
  too_short l = reached false (lt-leb N (length out) l)

  pub frame_written : (n : ℕ) (new : List ℕ) → n ≡ N → n ≤ length out → new ≡ (head_field 1 key ++ rising_fields unwritten (column_field bytes_of) 0 (state rows cells)) ++ drop n out →
      (Ok n ≡ answer (writing_frame w bytes_of key rows cells out)) × (new ≡ after out (writing_frame w bytes_of key rows cells out))
  unfolding frame
  frame_written n new size fits is =
      let o = reached true (le-leb N (length out) (omega arith)) in
      (ap Ok size ∙ sym (ap answer o), is ∙ ap (λ m. frame bytes_of key (state rows cells) ++ drop m out) size ∙ sym (ap (after out) o))
