-- Tops laid one behind the other. Assumes nothing.
use Rattle.std.proofs.Common.{◌≡◌, ℕ, zero, suc, ◌+◌, ◌*◌, ◌<◌, ◌≤◌, Bool, true, false, cond, not, ⊎_elim, eqb, leb, List, [], ◌++◌, length, get_or, take, drop, count_by, Ok, sym, refl, ap, ◌∙◌, arith}
use borrow.Rule.Slice.PartMut.{put_mid}
use Rattle.std.proofs.lemmas.List.{append-nil, append_assoc, drop_at, drop-drop, length-append, take_all, take_at}
use Rattle.std.proofs.lemmas.List.Sums.{sum_by_more, sum_by-take-le}
use Rattle.std.proofs.lemmas.Bool.{cases_eq, cond-true, cond-false, eq-eqb, le-leb, lt-leb, ne_eqb}
use Rattle.refusals.specs.declared.Refusal.TheVariants.{NoSuchSeatOrKey, ShortMemory}
use Rattle.dvvset.specs.Clock.{accepted, after, answer, refused}
use Rattle.clock.specs.Calls.{in_room}
use Rattle.formats.specs.Frames.{context_frame, head_field, top_field}
use Rattle.formats.proofs.Laying.{fields_more}
use Rattle.context_frames.specs.Laying.{tops_laid, writing_context}

-- a top that is told
abbrev pub is_told : ℕ → Bool
is_told t = not (eqb t 0)

module _ (C : List ℕ) (c : ℕ) (h : c < length C) where
  abbrev t : ℕ
  t = get_or C c 0

  pub next-top : tops_laid (take (c + 1) C) ≡ tops_laid (take c C) ++ cond (eqb t 0) [] (top_field c t)
  next-top = let e : c + 1 ≡ suc c = omega arith in ap (λ n. tops_laid (take n C)) e ∙ fields_more (λ t. eqb t 0) top_field 0 c c C 0 h (omega arith)

  next_count : count_by is_told (take (c + 1) C) ≡ count_by is_told (take c C) + cond (is_told t) 1 0
  next_count = sum_by_more (λ x. cond (is_told x) 1 0) C c 0 h

  module _ (none : t ≡ 0) where
    pub none_laid : tops_laid (take (c + 1) C) ≡ tops_laid (take c C)
    none_laid = next-top ∙ ap (λ f. tops_laid (take c C) ++ f) (cond-true (eqb t 0) [] (top_field c t) (eq-eqb t 0 none)) ∙ append-nil (tops_laid (take c C))

    pub none_counted : count_by is_told (take (c + 1) C) ≡ count_by is_told (take c C)
    none_counted = next_count ∙ ap (λ b. count_by is_told (take c C) + cond (not b) 1 0) (eq-eqb t 0 none) ∙ omega arith

  module _ (some : t ≡ 0 → ⊥) where
    pub one_laid : tops_laid (take (c + 1) C) ≡ tops_laid (take c C) ++ top_field c t
    one_laid = next-top ∙ ap (λ f. tops_laid (take c C) ++ f) (cond-false (eqb t 0) [] (top_field c t) (ne_eqb t 0 some))

    pub one_counted : count_by is_told (take (c + 1) C) ≡ count_by is_told (take c C) + 1
    one_counted = next_count ∙ ap (λ b. count_by is_told (take c C) + cond (not b) 1 0) (ne_eqb t 0 some)

length_upto : (C : List ℕ) (c : ℕ) → c ≤ length C → length (tops_laid (take c C)) ≡ 8 * count_by is_told (take c C)
length_upto C zero h = refl
length_upto C (suc c) h =
    let e : c + 1 ≡ suc c = omega arith in
    let so_far = length_upto C c (omega arith) in
    rw (← e)
    (⊎_elim (λ (z : get_or C c 0 ≡ 0). omega (arith, so_far, ap length (none_laid C c h z), none_counted C c h z))
    (λ (s : get_or C c 0 ≡ 0 → ⊥). omega (arith, so_far, ap length (one_laid C c h s), length-append (tops_laid (take c C)) (top_field c (get_or C c 0)), one_counted C c h s))
    (cases_eq (get_or C c 0) 0))

-- ---- the whole

module _ (key : ℕ) (C out : List ℕ) (low : key ≤ 15) where
  abbrev N : ℕ
  N = length (context_frame key C)

  pub length-all : N ≡ 4 + 8 * count_by is_told C
  unfolding context_frame
  length-all = omega (arith, rw (take_all (length C) C (omega arith)) at (length_upto C (length C) (omega arith)))

  reached : (b : Bool) → leb N (length out) ≡ b → writing_context key C out ≡ in_room b (accepted N (context_frame key C ++ drop N out))
  reached b e = cond-true (leb key 15) _ (refused NoSuchSeatOrKey) (le-leb key 15 low) ∙ ap (λ r. in_room r (accepted N (context_frame key C ++ drop N out))) e

  module _ (n : ℕ) (size : n ≡ 4 + 8 * count_by is_told C) where
    pub too_short : length out < n → writing_context key C out ≡ refused ShortMemory
    too_short l = reached false (lt-leb N (length out) (omega (arith, length-all)))

    pub context_written : (new : List ℕ) → n ≤ length out → new ≡ (head_field 3 key ++ tops_laid C) ++ drop n out → (Ok n ≡ answer (writing_context key C out)) × (new ≡ after out (writing_context key C out))
    unfolding context_frame
    context_written new fits is =
        let o = reached true (le-leb N (length out) (omega (arith, length-all))) in
        let n_is : n ≡ N = omega (arith, length-all) in
        (ap Ok n_is ∙ sym (ap answer o), is ∙ ap (λ m. context_frame key C ++ drop m out) n_is ∙ sym (ap (after out) o))

-- there is room for the next field
pub one_fits : (C : List ℕ) (c : ℕ) → c < length C → (get_or C c 0 ≡ 0 → ⊥) → count_by is_told (take c C) + 1 ≤ count_by is_told C
one_fits C c h some = omega (arith, one_counted C c h some, sum_by-take-le (λ x. cond (is_told x) 1 0) C (c + 1))

-- one field, written in k bytes lent from `at` on
pub top_written : (J o out last field : List ℕ) (at k : ℕ) → length J ≡ at → o ≡ J ++ drop at out → k ≡ 8 → last ≡ field → put_mid at k o last ≡ (J ++ field) ++ drop (at + 8) out
top_written J o out last field at k lJ eo ek el =
    let t : take at o ≡ J = ap (take at) eo ∙ take_at J (drop at out) at lJ in
    let d : drop at o ≡ drop at out = ap (drop at) eo ∙ drop_at J (drop at out) at lJ in
    let f : drop k (drop at o) ≡ drop (at + 8) out = ap (λ n. drop n (drop at o)) ek ∙ ap (drop 8) d ∙ drop-drop 8 at out in
    let a = append_assoc J field (drop (at + 8) out) in
    cc
