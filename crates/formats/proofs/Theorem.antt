-- One frame for each state, for every code of values. Assumes nothing.
use Rattle.std.proofs.Common.{◌≡◌, ℕ, ◌+◌, ◌*◌, ◌<◌, ◌≤◌, true, false, cond, List, [], ◌∷◌, length, sym, refl, ap, ◌∙◌, ⊎_elim, arith}
use Rattle.std.proofs.ByRecursion.{All-get_or, All-from_get_or}
use Rattle.std.proofs.lemmas.List.{get_or_past, length-append}
use Rattle.std.proofs.lemmas.Bool.{cases_lt, cases_Bool, cond-true, cond-false}
use Rattle.std.specs.List.{AllByRecursion}
use Rattle.dvvset.specs.Clock.{State, LegalState, column_at, no_writes}
use Rattle.formats.specs.Frames.{unwritten, column_field, rising_fields, fields_length, frame}
use Rattle.formats.specs.Reading.{column_told, reading}
use Rattle.formats.specs.OneFrame.{Fit, OneFrame}
use Rattle.formats.proofs.Codes.{Code}
use Rattle.formats.proofs.Columns.{Good, kind, length-body}
use Rattle.formats.proofs.Whole.{whole_reads, whole_written, fields_short}

module _ {V : Type 0} {width : ℕ} {bytes_of : V → List ℕ} {value_of : List ℕ → V} {valid : V → Type 0} (code : Code width bytes_of value_of valid) where
  columns_good : (S : State V) → LegalState S → Fit valid S → AllByRecursion (Good valid) S
  columns_good S legal fit = All-from_get_or (Good valid) S no_writes (λ c h. record { legal = legal.each c; fit = fit c })

  column_good : (S : State V) → AllByRecursion (Good valid) S → (c : ℕ) → Good valid (column_at S c)
  column_good S each c =
      ⊎_elim (λ (h : c < length S). All-get_or (Good valid) S c no_writes h each) (λ (h : length S ≤ c). rw (get_or_past S c no_writes h) (kind code).nothing_good) (cases_lt c (length S))

  -- how long the fields are
  length_fields : (c : ℕ) (S : State V) → AllByRecursion (Good valid) S → length (rising_fields unwritten (column_field bytes_of) c S) ≡ fields_length width S
  length_fields c [] h = refl
  length_fields c (a ∷ S) h =
      length-append (cond (unwritten a) [] (column_field bytes_of c a)) (rising_fields unwritten (column_field bytes_of) (c + 1) S)
      ∙ ap (λ n. n + length (rising_fields unwritten (column_field bytes_of) (c + 1) S)) here ∙ ap (λ n. cond (unwritten a) 0 (9 + width * length a.values) + n) (length_fields (c + 1) S h.1)
    where
      here : length (cond (unwritten a) [] (column_field bytes_of c a)) ≡ cond (unwritten a) 0 (9 + width * length a.values)
      here =
          ⊎_elim (λ (e : unwritten a ≡ true). ap length (cond-true (unwritten a) [] (column_field bytes_of c a) e) ∙ sym (cond-true (unwritten a) 0 (9 + width * length a.values) e))
          (λ (e : unwritten a ≡ false). ap length (cond-false (unwritten a) [] (column_field bytes_of c a) e) ∙ long ∙ sym (cond-false (unwritten a) 0 (9 + width * length a.values) e)) (cases_Bool (unwritten a))
        where
          long : length (column_field bytes_of c a) ≡ 9 + width * length a.values
          long = omega (arith, (length-body code c a h.0).0)

  pub one_frame_lem : OneFrame width bytes_of value_of valid
  unfolding frame reading
  one_frame_lem =
      let told = column_told width value_of in
      record {
        of_state = λ key S k legal fit. whole_reads unwritten (column_field bytes_of) told no_writes (Good valid) (kind code) 1 key S k legal.wide (columns_good S legal fit);
        of_bytes = λ bs key S b e.
            let w = whole_written unwritten (column_field bytes_of) told no_writes (Good valid) (kind code) 1 bs key S b e in
            (w.low, record { wide = w.wide; each = λ i. (column_good S w.each i).legal }, (λ i. (column_good S w.each i).fit), w.is);
        long = λ key S legal fit. omega (arith, length_fields 0 S (columns_good S legal fit));
        longest = λ key S legal fit.
            omega (arith, fields_short unwritten (column_field bytes_of) told no_writes (Good valid) (kind code) 1 (9 + 4 * width) (λ i a h. let l = length-body code i a h in omega (arith, l.0, l.1)) 0 S (columns_good S legal fit), ap (λ n. (9 + 4 * width) * n) legal.wide);
      }
