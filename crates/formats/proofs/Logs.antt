-- Entries, written and read. Assumes nothing.
use Rattle.std.proofs.Common.{◌≡◌, ℕ, zero, suc, ◌+◌, ◌-◌, ◌*◌, ◌≤◌, Bool, true, false, cond, ◌&&◌, eqb, leb, List, [], ◌∷◌, ◌++◌, length, get_or, take, drop, Some, None, Ok, Err, Option, Result, sym, refl, ap, ◌∙◌, append_assoc, arith}
use Rattle.std.proofs.lemmas.List.{length-drop, length-take-le, drop-drop}
use Rattle.std.proofs.lemmas.Bool.{le-leb, leb-true, and_from, and_parts, cond-true}
use Rattle.std.specs.List.{flat_map, AllByRecursion}
use Rattle.refusals.specs.declared.Refusal.{Refusal}
use Rattle.refusals.specs.declared.Refusal.TheVariants.{Truncated, UnexpectedTag, WrongLength, OutOfRange}
use Rattle.values.specs.BigEndian.{Bytes}
use Rattle.formats.specs.Frames.{field}
use Rattle.formats.specs.Reading.{Field, then, framed, tagged, in_front}
use Rattle.formats.specs.Entries.{Entry, EntryTold, Fit, Holds, entry_field, entry_told, ends, next_entry, onward, entries_from, entries}
use Rattle.formats.proofs.Steps.{ok_same, then_ok, unless_ok, then_goes, unless_goes, tagged-field, field-tagged}

-- ---- one entry

pub entry_written : (at : ℕ) (e : Entry) (rest : List ℕ) → Fit e → next_entry at (entry_field e ++ rest) ≡ Ok (Some (record { entry = e; next = at + (4 + length e.frame); rest = rest }))
entry_written at e rest g =
    let bd : List ℕ = e.key ∷ e.frame in
    then_goes (entry_told at (entry_field e ++ rest)) _ (record { entry = e; next = at + (3 + length bd); rest = rest }) _
    (then_goes (tagged 16 at (entry_field e ++ rest)) _ _ _ (tagged-field 16 at bd rest (omega (arith, g.few)))
    (unless_goes (WrongLength at) (leb 5 (length bd) && leb (length bd) 1757) _ _ (and_from _ _ (le-leb 5 (length bd) (omega (arith, g.some))) (le-leb (length bd) 1757 (omega (arith, g.few))))
    (unless_goes (OutOfRange at) (leb e.key 15) _ _ (le-leb e.key 15 g.low_key) refl)))
    (let n : at + (3 + length bd) ≡ at + (4 + length e.frame) = omega arith in ap (λ m. Ok (Some (record { entry = e; next = m; rest = rest }))) n)

-- an entry that is told is cut from the bytes
pub record Cut (at : ℕ) (bs : List ℕ) (t : EntryTold) : Type 0 where
  pub fit : Fit t.entry
  pub next : t.next ≡ at + (4 + length t.entry.frame)
  pub rest : t.rest ≡ drop (4 + length t.entry.frame) bs
  pub long : length bs ≡ 4 + length t.entry.frame + length t.rest

framed_cut : (at : ℕ) (bs : List ℕ) (f : Field) → framed at bs ≡ Ok f → (f.rest ≡ drop (3 + length f.body) bs) × (length bs ≡ 3 + length f.body + length f.rest)
framed_cut at [] f e = absurd (let z : ◌≡◌ {A = ℕ} 0 1 = cc in omega arith)
framed_cut at (t ∷ []) f e = absurd (let z : ◌≡◌ {A = ℕ} 0 1 = cc in omega arith)
framed_cut at (t ∷ h ∷ []) f e = absurd (let z : ◌≡◌ {A = ℕ} 0 1 = cc in omega arith)
framed_cut at (t ∷ h ∷ l ∷ bs) f e =
    let n : ℕ = h * 256 + l in
    let u = unless_ok (Truncated at) (leb n (length bs)) _ f e in
    let k = length-take-le n bs (leb-true n (length bs) u.0) in
    let d = length-drop n bs in
    let same = drop-drop (length (take n bs)) 3 (t ∷ h ∷ l ∷ bs) in
    rw (← ok_same u.1) (ap (λ m. drop m bs) (sym k) ∙ same, omega (arith, leb-true n (length bs) u.0))

next-told : (at : ℕ) (bs : List ℕ) (t : EntryTold) → next_entry at bs ≡ Ok (Some t) → entry_told at bs ≡ Ok t
next-told at bs t = go (ends bs)
  where
    go : (b : Bool) → cond b (Ok None) (then (entry_told at bs) (λ e. Ok (Some e))) ≡ Ok (Some t) → entry_told at bs ≡ Ok t
    go true e = absurd (let z : ◌≡◌ {A = ℕ} 0 1 = cc in omega arith)
    go false e = let u = then_ok (entry_told at bs) _ (Some t) e in let same : u.0 ≡ t = cc in u.1 ∙ ap Ok same

-- its field, and the tests that it passed
pub record Passed (at : ℕ) (bs : List ℕ) (t : EntryTold) : Type 0 where
  pub body : List ℕ
  pub tag : ℕ
  pub field_is : tagged 16 at bs ≡ Ok (record { tag = tag; body = body; rest = t.rest })
  pub five : 5 ≤ length body
  pub most : length body ≤ 1757
  pub low_key : get_or body 0 0 ≤ 15
  pub entry_is : t.entry ≡ record { key = get_or body 0 0; frame = drop 1 body }
  pub next_is : t.next ≡ at + (3 + length body)

passed : (at : ℕ) (bs : List ℕ) (t : EntryTold) → next_entry at bs ≡ Ok (Some t) → Passed at bs t
passed at bs t e =
    let u = then_ok (tagged 16 at bs) _ t (next-told at bs t e) in
    let bd = u.0.body in
    let v = unless_ok (WrongLength at) (leb 5 (length bd) && leb (length bd) 1757) _ t u.2 in
    let w = unless_ok (OutOfRange at) (leb (get_or bd 0 0) 15) _ t v.1 in
    let p = and_parts (leb 5 (length bd)) (leb (length bd) 1757) v.0 in
    let is = ok_same w.1 in
    record {
      body = bd;
      tag = u.0.tag;
      field_is = u.1 ∙ ap (λ q. Ok (record { tag = u.0.tag; body = bd; rest = q.rest })) is;
      five = leb-true 5 (length bd) p.0;
      most = leb-true (length bd) 1757 p.1;
      low_key = leb-true (get_or bd 0 0) 15 w.0;
      entry_is = ap (λ q. q.entry) (sym is);
      next_is = ap (λ q. q.next) (sym is);
    }

pub cut : (at : ℕ) (bs : List ℕ) (t : EntryTold) → next_entry at bs ≡ Ok (Some t) → Cut at bs t
cut at bs t e =
    let p = passed at bs t e in
    let o = then_ok (framed at bs) _ _ p.field_is in
    let q = unless_ok (UnexpectedTag at) (eqb o.0.tag 16) _ _ o.2 in
    let f = framed_cut at bs (record { tag = p.tag; body = p.body; rest = t.rest }) (o.1 ∙ ap Ok (ok_same q.1)) in
    let l : length t.entry.frame ≡ length p.body - 1 = ap (λ q. length q.frame) p.entry_is ∙ length-drop 1 p.body in
    let k = ap (λ q. q.key) p.entry_is in
    let n : 3 + length p.body ≡ 4 + length t.entry.frame = omega (arith, p.five) in
    record {
      fit = record { low_key = omega (arith, p.low_key); some = omega (arith, p.five); few = omega (arith, p.most) };
      next = p.next_is ∙ ap (λ m. at + m) n;
      rest = f.0 ∙ ap (λ m. drop m bs) n;
      long = omega (arith, f.1);
    }

-- among bytes, nothing of it is lost
whole-body : (bd : List ℕ) → 5 ≤ length bd → get_or bd 0 0 ∷ drop 1 bd ≡ bd
whole-body [] h = absurd (omega arith)
whole-body (b ∷ bd) h = refl

was_written : (at : ℕ) (bs : List ℕ) (t : EntryTold) → Bytes bs → next_entry at bs ≡ Ok (Some t) → (bs ≡ entry_field t.entry ++ t.rest) × Bytes t.rest
was_written at bs t b e =
    let p = passed at bs t e in
    let g = field-tagged 16 at bs _ b p.field_is in
    let w = whole-body p.body p.five in
    (g.1.is ∙ ap (λ m. field m p.body ++ t.rest) g.0 ∙ ap (λ bd. field 16 bd ++ t.rest) (sym w) ∙ ap (λ q. entry_field q ++ t.rest) (sym p.entry_is), g.1.rest_bytes)

-- ---- all entries

-- those from an offset on
abbrev pub all_from : ℕ → List ℕ → Result (List Entry) Refusal
all_from at bs = entries_from (length bs) at bs

-- enough is enough
same_fuel : (n m at : ℕ) (bs : List ℕ) → length bs ≤ n → length bs ≤ m → entries_from n at bs ≡ entries_from m at bs
unfolding entries_from
same_fuel zero zero at bs p q = refl
same_fuel zero (suc m) at [] p q = refl
same_fuel zero (suc m) at (b ∷ bs) p q = absurd (omega arith)
same_fuel (suc n) zero at [] p q = refl
same_fuel (suc n) zero at (b ∷ bs) p q = absurd (omega arith)
same_fuel (suc n) (suc m) at bs p q = go (next_entry at bs) refl (same_fuel n m)
  where
    go : (r : Result (Option EntryTold) Refusal) → next_entry at bs ≡ r → ((at : ℕ) (bs : List ℕ) → length bs ≤ n → length bs ≤ m → entries_from n at bs ≡ entries_from m at bs) → then r (onward (λ e. entries_from n e.next e.rest)) ≡ then r (onward (λ e. entries_from m e.next e.rest))
    go (Err x) e same = refl
    go (Ok None) e same = refl
    go (Ok (Some t)) e same = let c = (cut at bs t e).long in ap (in_front t.entry) (same t.next t.rest (omega arith) (omega arith))

pub all-step : (at : ℕ) (bs : List ℕ) (t : EntryTold) → next_entry at bs ≡ Ok (Some t) → all_from at bs ≡ in_front t.entry (all_from t.next t.rest)
unfolding entries_from
all-step at [] t e = absurd (let z : ◌≡◌ {A = ℕ} 0 1 = cc in omega arith)
all-step at (b ∷ bs) t e =
    let c = (cut at (b ∷ bs) t e).long in
    ap (λ r. then r (onward (λ e. entries_from (length bs) e.next e.rest))) e ∙ ap (in_front t.entry) (same_fuel (length bs) (length t.rest) t.next t.rest (omega arith) (omega arith))

pub all_ended : (at : ℕ) (bs : List ℕ) → next_entry at bs ≡ Ok None → all_from at bs ≡ Ok []
unfolding entries_from
all_ended at [] e = refl
all_ended at (b ∷ bs) e = ap (λ r. then r (onward (λ e. entries_from (length bs) e.next e.rest))) e

pub all_refused : (at : ℕ) (bs : List ℕ) (x : Refusal) → next_entry at bs ≡ Err x → all_from at bs ≡ Err x
unfolding entries_from
all_refused at [] x e = absurd (let z : ◌≡◌ {A = ℕ} 0 1 = cc in omega arith)
all_refused at (b ∷ bs) x e = ap (λ r. then r (onward (λ e. entries_from (length bs) e.next e.rest))) e

pub ended_none : (at : ℕ) (bs : List ℕ) → ends bs ≡ true → next_entry at bs ≡ Ok None
ended_none at bs e = cond-true (ends bs) _ _ e

none_ended : (at : ℕ) (bs : List ℕ) → next_entry at bs ≡ Ok None → ends bs ≡ true
none_ended at bs = go (ends bs)
  where
    go : (b : Bool) → cond b (Ok None) (then (entry_told at bs) (λ e. Ok (Some e))) ≡ Ok None → b ≡ true
    go true e = refl
    go false e = let u = then_ok (entry_told at bs) _ None e in let z : ◌≡◌ {A = ℕ} 0 1 = cc in absurd (omega arith)

pub all_written : (at : ℕ) (es : List Entry) (rest : List ℕ) → AllByRecursion Fit es → ends rest ≡ true → all_from at (flat_map entry_field es ++ rest) ≡ Ok es
all_written at [] rest g e = all_ended at rest (ended_none at rest e)
all_written at (x ∷ es) rest g e =
    let tail = flat_map entry_field es ++ rest in
    ap (all_from at) (append_assoc (entry_field x) (flat_map entry_field es) rest)
    ∙ all-step at (entry_field x ++ tail) _ (entry_written at x tail g.0)
    ∙ ap (in_front x) (all_written (at + (4 + length x.frame)) es rest g.1 e)

pub all_fit : (n at : ℕ) (bs : List ℕ) (es : List Entry) → entries_from n at bs ≡ Ok es → AllByRecursion Fit es
unfolding entries_from
all_fit zero at bs es e = rw (← ok_same e) tt
all_fit (suc n) at bs es e = go (next_entry at bs) refl (all_fit n) e
  where
    go : (r : Result (Option EntryTold) Refusal) → next_entry at bs ≡ r → ((at : ℕ) (bs : List ℕ) (es : List Entry) → entries_from n at bs ≡ Ok es → AllByRecursion Fit es) → then r (onward (λ e. entries_from n e.next e.rest)) ≡ Ok es → AllByRecursion Fit es
    go (Err x) is more e = absurd (let z : ◌≡◌ {A = ℕ} 0 1 = cc in omega arith)
    go (Ok None) is more e = rw (← ok_same e) tt
    go (Ok (Some t)) is more e = let u = then_ok (entries_from n t.next t.rest) _ es e in rw (← ok_same u.2) ((cut at bs t is).fit, more t.next t.rest u.0 u.1)

-- what the entries leave, and that it ends them
record Rest (bs : List ℕ) (es : List Entry) : Type 0 where
  rest : List ℕ
  is : bs ≡ flat_map entry_field es ++ rest
  ended : ends rest ≡ true

was_all : (n at : ℕ) (bs : List ℕ) (es : List Entry) → length bs ≤ n → Bytes bs → entries_from n at bs ≡ Ok es → Rest bs es
unfolding entries_from
was_all zero at [] es l b e = rw (← ok_same e) (record { rest = []; is = refl; ended = refl })
was_all zero at (x ∷ bs) es l b e = absurd (omega arith)
was_all (suc n) at bs es l b e = go (next_entry at bs) refl (was_all n) e
  where
    go : (r : Result (Option EntryTold) Refusal) → next_entry at bs ≡ r → ((at : ℕ) (bs : List ℕ) (es : List Entry) → length bs ≤ n → Bytes bs → entries_from n at bs ≡ Ok es → Rest bs es) → then r (onward (λ e. entries_from n e.next e.rest)) ≡ Ok es → Rest bs es
    go (Err x) is more e = absurd (let z : ◌≡◌ {A = ℕ} 0 1 = cc in omega arith)
    go (Ok None) is more e = rw (← ok_same e) (record { rest = bs; is = refl; ended = none_ended at bs is })
    go (Ok (Some t)) is more e =
        let w = was_written at bs t b is in
        let u = then_ok (entries_from n t.next t.rest) _ es e in
        let h = more t.next t.rest u.0 (omega (arith, (cut at bs t is).long)) w.1 u.1 in
        rw (← ok_same u.2) (record { rest = h.rest; is = w.0 ∙ ap (λ r. entry_field t.entry ++ r) h.is ∙ sym (append_assoc (entry_field t.entry) (flat_map entry_field u.0) h.rest); ended = h.ended })

pub held : (bs : List ℕ) (es : List Entry) → Bytes bs → entries bs ≡ Ok es → Holds bs es
held bs es b e = let r = was_all (length bs) 0 bs es (omega arith) b e in record { rest = r.rest; is = r.is; ended = r.ended; fit = all_fit (length bs) 0 bs es e }

pub holding : (bs : List ℕ) (es : List Entry) → Holds bs es → entries bs ≡ Ok es
holding bs es h = ap (all_from 0) h.is ∙ all_written 0 es h.rest h.fit h.ended
