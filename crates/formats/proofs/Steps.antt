-- What a chain of tests came to, and one field, written and read. Assumes nothing.
use Rattle.std.proofs.Common.{◌≡◌, ℕ, ◌+◌, ◌*◌, ◌/◌, ◌%◌, ◌<◌, ◌≤◌, Bool, true, false, eqb, leb, List, [], ◌∷◌, ◌++◌, length, take, drop, Ok, Err, Result, sym, refl, ap, ◌∙◌, arith}
use Rattle.std.proofs.lemmas.List.{length-append, length-take-le, take_at, drop_at, take-append-drop}
use Rattle.std.proofs.lemmas.Bool.{le-leb, leb-true, eqb-true, eq-eqb, cond-true}
use Rattle.refusals.specs.declared.Refusal.{Refusal}
use Rattle.refusals.specs.declared.Refusal.TheVariants.{Truncated, UnexpectedTag}
use Rattle.values.specs.BigEndian.{Bytes}
use Rattle.values.specs.BigEndianLemmas.{bytes_take, bytes_drop}
use Rattle.formats.specs.Frames.{field}
use Rattle.formats.specs.Reading.{Field, then, unless, framed, tagged}

pub ok_same : {A : Type 0} {x y : A} → ◌≡◌ {A = Result A Refusal} (Ok x) (Ok y) → x ≡ y
ok_same p = cc

-- an accepted chain was accepted at each link
pub then_ok : {A B : Type 0} (r : Result A Refusal) (f : A → Result B Refusal) (b : B) → then r f ≡ Ok b → (a : A) × (r ≡ Ok a) × (f a ≡ Ok b)
then_ok (Ok a) f b e = (a, refl, e)
then_ok (Err x) f b e = absurd (let z : ◌≡◌ {A = ℕ} 0 1 = cc in omega arith)

pub unless_ok : {A : Type 0} (e : Refusal) (test : Bool) (r : Result A Refusal) (a : A) → unless e test r ≡ Ok a → (test ≡ true) × (r ≡ Ok a)
unless_ok e true r a is = (refl, is)
unless_ok e false r a is = absurd (let z : ◌≡◌ {A = ℕ} 0 1 = cc in omega arith)

pub then_goes : {A B : Type 0} (r : Result A Refusal) (f : A → Result B Refusal) (a : A) (x : Result B Refusal) → r ≡ Ok a → f a ≡ x → then r f ≡ x
then_goes r f a x e is = ap (λ q. then q f) e ∙ is

pub unless_goes : {A : Type 0} (e : Refusal) (test : Bool) (r x : Result A Refusal) → test ≡ true → r ≡ x → unless e test r ≡ x
unless_goes e test r x t is = cond-true test r (Err e) t ∙ is

-- ---- one field

pub framed-field : (at tag : ℕ) (body rest : List ℕ) → length body < 65536 → framed at (field tag body ++ rest) ≡ Ok (record { tag = tag; body = body; rest = rest })
framed-field at tag body rest small =
    let n : ℕ = length body / 256 % 256 * 256 + length body / 1 % 256 in
    let e : n ≡ length body = omega arith in
    let l = length-append body rest in
    let t = take_at body rest n (sym e) in
    let d = drop_at body rest n (sym e) in
    unless_goes (Truncated at) (leb n (length (body ++ rest))) _ _ (le-leb n (length (body ++ rest)) (omega arith)) (cc)

pub tagged-field : (tag at : ℕ) (body rest : List ℕ) → length body < 65536 → tagged tag at (field tag body ++ rest) ≡ Ok (record { tag = tag; body = body; rest = rest })
tagged-field tag at body rest small =
    then_goes (framed at (field tag body ++ rest)) _ _ _ (framed-field at tag body rest small) (unless_goes (UnexpectedTag at) (eqb tag tag) _ _ (eq-eqb tag tag refl) refl)

pub record IsField (bs : List ℕ) (f : Field) : Type 0 where
  pub is : bs ≡ field f.tag f.body ++ f.rest
  pub body_bytes : Bytes f.body
  pub rest_bytes : Bytes f.rest

pub field-framed : (at : ℕ) (bs : List ℕ) (f : Field) → Bytes bs → framed at bs ≡ Ok f → IsField bs f
field-framed at [] f b e = absurd (let z : ◌≡◌ {A = ℕ} 0 1 = cc in omega arith)
field-framed at (t ∷ []) f b e = absurd (let z : ◌≡◌ {A = ℕ} 0 1 = cc in omega arith)
field-framed at (t ∷ h ∷ []) f b e = absurd (let z : ◌≡◌ {A = ℕ} 0 1 = cc in omega arith)
field-framed at (t ∷ h ∷ l ∷ bs) f b e =
    let n : ℕ = h * 256 + l in
    let u = unless_ok (Truncated at) (leb n (length bs)) _ f e in
    let le : n ≤ length bs = leb-true n (length bs) u.0 in
    rw (← ok_same u.1) (record { is = whole n refl le; body_bytes = bytes_take n bs b.1.1.1; rest_bytes = bytes_drop n bs b.1.1.1 })
  where
    whole : (n : ℕ) → n ≡ h * 256 + l → n ≤ length bs → t ∷ h ∷ l ∷ bs ≡ field t (take n bs) ++ drop n bs
    whole n e le =
        let k : ℕ = length (take n bs) in
        let len : k ≡ n = length-take-le n bs le in
        let hb : h < 256 = b.1.0 in
        let lb : l < 256 = b.1.1.0 in
        let hi : h ≡ k / 256 % 256 = omega arith in
        let lo : l ≡ k / 1 % 256 = omega arith in
        let all = take-append-drop n bs in
        cc

pub field-tagged : (due at : ℕ) (bs : List ℕ) (f : Field) → Bytes bs → tagged due at bs ≡ Ok f → (f.tag ≡ due) × IsField bs f
field-tagged due at bs f b e =
    let u = then_ok (framed at bs) _ f e in
    let v = unless_ok (UnexpectedTag at) (eqb u.0.tag due) _ f u.2 in
    let p : u.0 ≡ f = cc in
    rw (← p) (eqb-true u.0.tag due v.0, field-framed at bs u.0 b u.1)
