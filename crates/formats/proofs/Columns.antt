-- The column field, written and read. Assumes nothing.
use Rattle.std.proofs.Common.{◌≡◌, ℕ, ◌+◌, ◌*◌, ◌≤◌, false, eqb, leb, List, [], ◌∷◌, ◌++◌, length, get_or, take, drop, Ok, sym, refl, ap, ◌∙◌, mul_comm, mul-le-mul_left, arith}
use Rattle.std.proofs.lemmas.List.{length-take-le, length-drop, take-append-drop}
use Rattle.std.proofs.lemmas.Bool.{le-leb, leb-true, eq-eqb, eqb-true, eqb-false, ne_eqb, and_from, and_parts}
use Rattle.std.specs.List.{flat_map, AllByRecursion}
use Rattle.refusals.specs.declared.Refusal.TheVariants.{WrongLength, OutOfRange}
use Rattle.values.specs.BigEndian.{Bytes, from_bytes, to_bytes}
use Rattle.values.specs.BigEndianLemmas.{bytes_take, bytes_drop, from_to_bytes, to_from_bytes}
use Rattle.dvvset.specs.Clock.{ColumnState, Legal, no_writes}
use Rattle.formats.specs.Frames.{field, unwritten, column_field}
use Rattle.formats.specs.Reading.{Told, values_of, tagged, raw_column, column_of, in_range, column_told}
use Rattle.formats.proofs.Steps.{then_ok, unless_ok, then_goes, unless_goes, ok_same, tagged-field, field-tagged}
use Rattle.formats.proofs.Codes.{Code, length-joined, values_joined, length_values, joined_values}
use Rattle.formats.proofs.Rising.{Kind}

-- a column that can stand in a frame
pub record Good {V : Type 0} (valid : V → Type 0) (a : ColumnState V) : Type 0 where
  pub legal : Legal a
  pub fit : AllByRecursion valid a.values

module _ {V : Type 0} {width : ℕ} {bytes_of : V → List ℕ} {value_of : List ℕ → V} {valid : V → Type 0} (code : Code width bytes_of value_of valid) where
  -- what stands in a column's field
  abbrev body : ℕ → ColumnState V → List ℕ
  body c a = c ∷ length a.values ∷ (to_bytes 4 a.top ++ flat_map bytes_of a.values)

  pub length-body : (c : ℕ) (a : ColumnState V) → Good valid a → (length (body c a) ≡ 6 + width * length a.values) × (width * length a.values ≤ 4 * width)
  length-body c a g =
      let l = length-joined code a.values g.fit in
      let m = mul-le-mul_left {m = length a.values} {n = 4} width g.legal.few in
      (omega arith, omega (arith, mul_comm width 4))

  -- the numbers of a field's body
  abbrev col : List ℕ → ℕ
  col bd = get_or bd 0 0

  abbrev count : List ℕ → ℕ
  count bd = get_or bd 1 0

  abbrev top : List ℕ → ℕ
  top bd = from_bytes (take 4 (drop 2 bd))

  column_written : (at c : ℕ) (a : ColumnState V) (rest : List ℕ) → c ≤ 23 → Good valid a → unwritten a ≡ false → (next : ℕ) × (column_told width value_of at (column_field bytes_of c a ++ rest) ≡ Ok (record { column = c; what = a; next = next; rest = rest }))
  column_written at c a rest low g there =
      let bd = body c a in
      let n = length a.values in
      let l = length-body c a g in
      let t : top bd ≡ a.top = from_to_bytes 4 a.top (omega (arith, g.legal.low)) in
      let some : 1 ≤ a.top = omega (arith, eqb-false a.top 0 there) in
      let vs = values_joined code a.values g.fit in (
        at + (3 + length bd),
        then_goes (raw_column width at (column_field bytes_of c a ++ rest)) _ (record { column = c; count = n; top = top bd; values = flat_map bytes_of a.values; next = at + (3 + length bd); rest = rest }) _
            (then_goes _ _ _ _ (tagged-field 2 at bd rest (omega (arith, l.0, l.1, code.most)))
            (unless_goes (WrongLength at) (leb 6 (length bd)) _ _ (le-leb 6 (length bd) (omega arith))
            (unless_goes (OutOfRange at) (in_range (col bd) (count bd) (top bd)) _ _
            (and_from _ _ (le-leb c 23 low) (and_from _ _ (le-leb n 4 g.legal.few) (and_from _ _ (le-leb n (top bd) (omega (arith, g.legal.within))) (and_from _ _ (le-leb 1 (top bd) (omega arith)) (le-leb (top bd) 999999 (omega (arith, g.legal.low)))))))
            (unless_goes (WrongLength at) (eqb (length bd) (6 + width * n)) _ _ (eq-eqb (length bd) (6 + width * n) l.0) refl))))
            (ap (λ m. Ok (record { column = c; what = record { top = m; values = values_of width value_of n (flat_map bytes_of a.values) }; next = at + (3 + length bd); rest = rest })) t ∙ ap (λ us. Ok (record { column = c; what = record { top = a.top; values = us }; next = at + (3 + length bd); rest = rest })) vs),
      )

  -- the column that a body tells
  abbrev column : List ℕ → ColumnState V
  column bd = record { top = top bd; values = values_of width value_of (count bd) (drop 6 bd) }

  body_is : (bd : List ℕ) → 6 ≤ length bd → Bytes bd → length bd ≡ 6 + width * count bd → (body (col bd) (column bd) ≡ bd) × AllByRecursion valid (column bd).values
  body_is [] l b e = absurd (omega arith)
  body_is (x ∷ []) l b e = absurd (omega arith)
  body_is (x ∷ y ∷ bd) l b e =
      let r = joined_values code y (drop 4 bd) (simp length-drop (omega arith)) (bytes_drop 4 bd b.1.1) in
      let n = length_values code y (drop 4 bd) in
      let t = to_from_bytes 4 (take 4 bd) (length-take-le 4 bd (omega arith)) (bytes_take 4 bd b.1.1) in
      let vs = values_of width value_of y (drop 4 bd) in
      (ap (λ k. x ∷ k ∷ (to_bytes 4 (from_bytes (take 4 bd)) ++ flat_map bytes_of vs)) n ∙ ap (λ h. x ∷ y ∷ (h ++ flat_map bytes_of vs)) t ∙ ap (λ j. x ∷ y ∷ (take 4 bd ++ j)) r.is ∙ ap (λ d. x ∷ y ∷ d) (take-append-drop 4 bd), r.each)

  column_was_written : (at : ℕ) (bs : List ℕ) (f : Told (ColumnState V)) → Bytes bs → column_told width value_of at bs ≡ Ok f → (bs ≡ column_field bytes_of f.column f.what ++ f.rest) × Good valid f.what × (unwritten f.what ≡ false) × Bytes f.rest
  column_was_written at bs f b e =
      let o = then_ok (raw_column width at bs) _ f e in
      let u = then_ok (tagged 2 at bs) _ o.0 o.1 in
      let bd = u.0.body in
      let v = unless_ok (WrongLength at) (leb 6 (length bd)) _ o.0 u.2 in
      let w = unless_ok (OutOfRange at) (in_range (col bd) (count bd) (top bd)) _ o.0 v.1 in
      let x = unless_ok (WrongLength at) (eqb (length bd) (6 + width * count bd)) _ o.0 w.1 in
      let is_f = ap (column_of width value_of) (ok_same x.1) ∙ ok_same o.2 in
      let g = field-tagged 2 at bs u.0 b u.1 in
      let six : 6 ≤ length bd = leb-true 6 (length bd) v.0 in
      let is = body_is bd six g.1.body_bytes (eqb-true (length bd) (6 + width * count bd) x.0) in
      let p = and_parts (leb (col bd) 23) _ w.0 in
      let q = and_parts (leb (count bd) 4) _ p.1 in
      let r = and_parts (leb (count bd) (top bd)) _ q.1 in
      let s = and_parts (leb 1 (top bd)) _ r.1 in
      let n = length_values code (count bd) (drop 6 bd) in
      rw (← is_f) (
        g.1.is ∙ ap (λ t. field t bd ++ u.0.rest) g.0 ∙ ap (λ d. field 2 d ++ u.0.rest) (sym is.0),
        record {
          legal = record { few = omega (arith, n, leb-true (count bd) 4 q.0); within = omega (arith, n, leb-true (count bd) (top bd) r.0); low = leb-true (top bd) 999999 s.1 };
          fit = is.1;
        },
        ne_eqb (top bd) 0 (λ e. omega (arith, e, leb-true 1 (top bd) s.0)),
        g.1.rest_bytes,
      )

  pub kind : Kind unwritten (column_field bytes_of) (column_told width value_of) no_writes (Good valid)
  kind =
      record {
        nothing_good = record { legal = record { few = omega arith; within = omega arith; low = omega arith }; fit = tt };
        nothing_absent = refl;
        absent_nothing = λ a g e. nothing a g.legal.within (eqb-true a.top 0 e);
        at_end = λ at. refl;
        written = column_written;
        was_written = column_was_written;
      }
    where
      nothing : (a : ColumnState V) → length a.values ≤ a.top → a.top ≡ 0 → a ≡ no_writes
      nothing a le e = ap (λ t. record { top = t; values = a.values }) e ∙ ap (λ vs. record { top = 0; values = vs }) (none a.values (omega arith))
        where
          none : (vs : List V) → length vs ≤ 0 → vs ≡ []
          none [] l = refl
          none (v ∷ vs) l = absurd (omega arith)
