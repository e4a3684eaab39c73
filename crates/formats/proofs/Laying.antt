-- Fields laid one behind the other in memory. Assumes nothing.
use Rattle.std.proofs.Common.{◌≡◌, ℕ, zero, suc, ◌+◌, ◌-◌, ◌<◌, ◌≤◌, Bool, cond, List, [], ◌∷◌, ◌++◌, length, get_or, take, drop, sym, ap, ◌∙◌, arith}
use Rattle.std.proofs.lemmas.List.{append_assoc, append-nil, drop_at, drop-drop, length-append, length-drop, take_at}
use Rattle.formats.specs.Frames.{rising_fields}

-- ---- the fields of one column more

pub fields_more : {A : Type 0} (absent : A → Bool) (field_of : ℕ → A → List ℕ) (a i j : ℕ) (xs : List A) (d : A) → i < length xs → a + i ≡ j → rising_fields absent field_of a (take (suc i) xs) ≡ rising_fields absent field_of a (take i xs) ++ cond (absent (get_or xs i d)) [] (field_of j (get_or xs i d))
fields_more absent field_of a i j [] d h e = absurd (omega arith)
fields_more absent field_of a zero j (x ∷ xs) d h e = append-nil (cond (absent x) [] (field_of a x)) ∙ (let f : a ≡ j = omega arith in ap (λ c. cond (absent x) [] (field_of c x)) f)
fields_more absent field_of a (suc i) j (x ∷ xs) d h e =
    ap (λ bs. cond (absent x) [] (field_of a x) ++ bs) (fields_more absent field_of (a + 1) i j xs d (omega arith) (omega arith))
    ∙ sym (append_assoc (cond (absent x) [] (field_of a x)) (rising_fields absent field_of (a + 1) (take i xs)) _)

-- one field more behind what is written
pub field-behind : (J o out new f : List ℕ) (at to : ℕ) → length J ≡ at → o ≡ J ++ drop at out → new ≡ take at o ++ (f ++ drop to o) → at ≤ to → to ≤ length o → length new ≡ length o → (length (J ++ f) ≡ to) × (new ≡ (J ++ f) ++ drop to out)
field-behind J o out new f at to lJ eo en le room len =
    let t : take at o ≡ J = ap (take at) eo ∙ take_at J (drop at out) at lJ in
    let d : drop at o ≡ drop at out = ap (drop at) eo ∙ drop_at J (drop at out) at lJ in
    let e : at + (to - at) ≡ to = omega arith in
    let r : drop to o ≡ drop to out = ap (λ k. drop k o) (sym e) ∙ sym (drop-drop (to - at) at o) ∙ ap (drop (to - at)) d ∙ drop-drop (to - at) at out ∙ ap (λ k. drop k out) e in
    let is : new ≡ J ++ (f ++ drop to o) = en ∙ ap (λ h. h ++ (f ++ drop to o)) t in
    let l = ap length is ∙ length-append J (f ++ drop to o) in
    let m = length-append f (drop to o) in
    let n = length-append J f in
    (omega (arith, l, m, n, length-drop to o), is ∙ ap (λ h. J ++ (f ++ h)) r ∙ sym (append_assoc J f (drop to out)))
