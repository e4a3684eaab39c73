-- The top field of a context, written and read. Assumes nothing.
use Rattle.std.proofs.Common.{◌≡◌, ℕ, ◌+◌, ◌≤◌, Bool, false, ◌&&◌, eqb, leb, List, [], ◌∷◌, ◌++◌, length, get_or, drop, Ok, sym, refl, ap, ◌∙◌, arith}
use Rattle.std.proofs.lemmas.Bool.{le-leb, leb-true, eqb-true, eqb-false, ne_eqb, and_from, and_parts}
use Rattle.refusals.specs.declared.Refusal.TheVariants.{WrongLength, OutOfRange}
use Rattle.values.specs.BigEndian.{Bytes, from_bytes, to_bytes}
use Rattle.values.specs.BigEndianLemmas.{from_to_bytes, to_from_bytes}
use Rattle.formats.specs.Frames.{field, top_field}
use Rattle.formats.specs.Reading.{Told, tagged, top_told}
use Rattle.formats.proofs.Steps.{then_ok, unless_ok, then_goes, unless_goes, ok_same, tagged-field, field-tagged}
use Rattle.formats.proofs.Rising.{Kind}

-- the numbers of a field's body
abbrev col : List ℕ → ℕ
col bd = get_or bd 0 0

abbrev top : List ℕ → ℕ
top bd = from_bytes (drop 1 bd)

abbrev in_range : List ℕ → Bool
in_range bd = leb (col bd) 23 && (leb 1 (top bd) && leb (top bd) 999999)

top_written : (at c t : ℕ) (rest : List ℕ) → c ≤ 23 → t ≤ 999999 → eqb t 0 ≡ false → (next : ℕ) × (top_told at (top_field c t ++ rest) ≡ Ok (record { column = c; what = t; next = next; rest = rest }))
top_written at c t rest low few there =
    let bd = c ∷ to_bytes 4 t in
    let e : top bd ≡ t = from_to_bytes 4 t (omega arith) in
    let some : 1 ≤ t = omega (arith, eqb-false t 0 there) in (
      at + 8,
      then_goes _ _ _ _ (tagged-field 4 at bd rest (omega arith))
          (unless_goes (WrongLength at) (eqb (length bd) 5) _ _ refl
          (unless_goes (OutOfRange at) (in_range bd) _ _ (and_from _ _ (le-leb c 23 low) (and_from _ _ (le-leb 1 (top bd) (omega arith)) (le-leb (top bd) 999999 (omega arith))))
          (ap (λ n. Ok (record { column = c; what = n; next = at + 8; rest = rest })) e))),
    )

body_is : (bd : List ℕ) → length bd ≡ 5 → Bytes bd → col bd ∷ to_bytes 4 (top bd) ≡ bd
body_is [] l b = absurd (omega arith)
body_is (x ∷ bd) l b = ap (λ d. x ∷ d) (to_from_bytes 4 bd (omega arith) b.1)

top_was_written : (at : ℕ) (bs : List ℕ) (f : Told ℕ) → Bytes bs → top_told at bs ≡ Ok f → (bs ≡ top_field f.column f.what ++ f.rest) × (f.what ≤ 999999) × (eqb f.what 0 ≡ false) × Bytes f.rest
top_was_written at bs f b e =
    let u = then_ok (tagged 4 at bs) _ f e in
    let bd = u.0.body in
    let v = unless_ok (WrongLength at) (eqb (length bd) 5) _ f u.2 in
    let w = unless_ok (OutOfRange at) (in_range bd) _ f v.1 in
    let g = field-tagged 4 at bs u.0 b u.1 in
    let q = and_parts (leb 1 (top bd)) _ (and_parts (leb (col bd) 23) _ w.0).1 in
    rw (← ok_same w.1) (
      g.1.is ∙ ap (λ t. field t bd ++ u.0.rest) g.0 ∙ ap (λ d. field 4 d ++ u.0.rest) (sym (body_is bd (eqb-true (length bd) 5 v.0) g.1.body_bytes)),
      leb-true (top bd) 999999 q.1,
      ne_eqb (top bd) 0 (λ z. omega (arith, z, leb-true 1 (top bd) q.0)),
      g.1.rest_bytes,
    )

pub kind : Kind (λ t. eqb t 0) top_field top_told 0 (λ t. t ≤ 999999)
kind =
    record {
      nothing_good = omega arith;
      nothing_absent = refl;
      absent_nothing = λ t low e. eqb-true t 0 e;
      at_end = λ at. refl;
      written = top_written;
      was_written = top_was_written;
    }
