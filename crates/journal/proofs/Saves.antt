-- A save makes a longer list of entries. Assumes nothing.
use Rattle.std.proofs.Common.{◌≡◌, ℕ, zero, suc, ◌+◌, ◌-◌, ◌≤◌, Bool, true, false, cond, eqb, leb, List, [], ◌∷◌, ◌++◌, length, take, drop, replicate, Some, Ok, Err, Option, Result, sym, refl, ap, ◌∙◌, subst, inr, arith}
use Rattle.std.proofs.ByRecursion.{All-push}
use Rattle.std.proofs.lemmas.List.{append_assoc, flat_map_more, length-append, length-drop, length-replicate, take_at}
use Rattle.std.proofs.lemmas.Bool.{le-leb, leb-true}
use Rattle.std.specs.Option.{option_map}
use Rattle.std.specs.List.{flat_map}
use Rattle.refusals.specs.declared.Refusal.{Refusal}
use Rattle.refusals.specs.declared.Refusal.TheVariants.{ShortMemory}
use Rattle.values.specs.BigEndian.{Bytes}
use Rattle.formats.specs.Entries.{Entry, Fit, Holds, ends, entry_field, entries, opening, used}
use Rattle.formats.proofs.Steps.{unless_goes, unless_ok}
use Rattle.formats.proofs.Logs.{all_ended, ended_none, held, holding}
use Rattle.media.specs.Media.{Fresh, Saved, admitted, renewed}
use Rattle.media.specs.Runs.{last_where}
use Rattle.media.proofs.Frames.{Bounds, bounds}
use Rattle.media.proofs.Trials.{last_push}
use Rattle.journal.specs.Journals.{appended, after_saving, closed, last_frame, left_of, newest_of, saving}

closed-ends : (bs : List ℕ) → ends (closed bs) ≡ true
closed-ends [] = refl
closed-ends (b ∷ bs) = refl

length-closed : (bs : List ℕ) → length (closed bs) ≡ length bs
length-closed [] = refl
length-closed (b ∷ bs) = refl

mapped-cond : {A B : Type 0} (f : A → B) (b : Bool) (x : A) (o : Option A) → option_map f (cond b (Some x) o) ≡ cond b (Some (f x)) (option_map f o)
mapped-cond f true x o = refl
mapped-cond f false x o = refl

pub last_frame-push : (k : ℕ) (es : List Entry) (e : Entry) → last_frame k (es ++ e ∷ []) ≡ cond (eqb k e.key) (Some e.frame) (last_frame k es)
last_frame-push k es e =
    ap (option_map (λ e. e.frame)) (last_push (λ e. eqb k e.key) es e) ∙ mapped-cond (λ e. e.frame) (eqb k e.key) e (last_where (λ e. eqb k e.key) es)

-- ---- one entry more

module _ (bs : List ℕ) (es : List Entry) (e : Entry) (typed : Bytes bs) (is : opening bs ≡ Ok es) (fit : Fit e) (room : length e.frame + 4 ≤ length bs - used es) (end : ℕ) (there : end ≡ used es) where
  parts : (leb (length bs) 65536 ≡ true) × (entries bs ≡ Ok es)
  parts = unless_ok ShortMemory (leb (length bs) 65536) (entries bs) es is

  log : Holds bs es
  log = held bs es typed parts.1

  size : length bs ≡ used es + length log.rest
  size = ap length log.is ∙ length-append (flat_map entry_field es) log.rest

  joined_is : flat_map entry_field es ++ entry_field e ≡ flat_map entry_field (es ++ e ∷ [])
  joined_is = flat_map_more entry_field [] es e

  used_more : used (es ++ e ∷ []) ≡ used es + (length e.frame + 4)
  used_more =
      let n : used es + length (entry_field e) ≡ used es + (length e.frame + 4) = omega arith in
      sym (ap length joined_is) ∙ length-append (flat_map entry_field es) (entry_field e) ∙ n

  abbrev beyond : List ℕ
  beyond = closed (drop (length e.frame + 4) (drop end bs))

  longer : appended bs end e ≡ flat_map entry_field (es ++ e ∷ []) ++ beyond
  longer =
      let front : take end bs ≡ flat_map entry_field es = ap (take end) log.is ∙ take_at (flat_map entry_field es) log.rest end (sym there) in
      ap (λ z. z ++ (entry_field e ++ beyond)) front ∙ sym (append_assoc (flat_map entry_field es) (entry_field e) beyond) ∙ ap (λ z. z ++ beyond) joined_is

  same_size : length (appended bs end e) ≡ length bs
  same_size =
      let a = length-append (flat_map entry_field (es ++ e ∷ [])) beyond in
      let b = length-closed (drop (length e.frame + 4) (drop end bs)) in
      let c = length-drop (length e.frame + 4) (drop end bs) in
      let d = length-drop end bs in
      ap length longer ∙ omega (arith, used_more)

  pub opens_longer : opening (appended bs end e) ≡ Ok (es ++ e ∷ [])
  opens_longer =
      unless_goes ShortMemory (leb (length (appended bs end e)) 65536) (entries (appended bs end e)) _
      (le-leb (length (appended bs end e)) 65536 (omega (arith, same_size, leb-true (length bs) 65536 parts.0)))
      (holding (appended bs end e) (es ++ e ∷ []) (record { rest = beyond; is = longer; ended = closed-ends (drop (length e.frame + 4) (drop end bs)); fit = All-push Fit es e log.fit fit }))

  pub saved_longer : Ok tt ≡ admitted e.key (length e.frame) (left_of (length bs) (opening bs)) → Saved (newest_of (opening bs)) (left_of (length bs) (opening bs)) e.key e.frame (Ok tt) (newest_of (opening (appended bs end e))) (left_of (length (appended bs end e)) (opening (appended bs end e)))
  saved_longer ok =
      let was : left_of (length bs) (opening bs) ≡ length bs - used es = ap (left_of (length bs)) is in
      let now : left_of (length (appended bs end e)) (opening (appended bs end e)) ≡ length (appended bs end e) - used (es ++ e ∷ []) = ap (left_of (length (appended bs end e))) opens_longer in
      record {
        answers = ok;
        frames = λ k. ap (λ r. newest_of r k) opens_longer ∙ last_frame-push k es e ∙ sym (ap (λ r. renewed (newest_of r) e.key e.frame k) is);
        taken = length e.frame + 4;
        takes = inr refl;
        falls = omega (arith, used_more, same_size);
      }

-- ---- a save

module _ (bs : List ℕ) (key : ℕ) (frame : List ℕ) where
  abbrev left : ℕ
  left = left_of (length bs) (opening bs)

  abbrev entry : Entry
  entry = record { key = key; frame = frame }

  -- the frames and left of the bytes after it
  abbrev pub SavedAs : Result (Unit {0}) Refusal → List ℕ → Type 0
  SavedAs r cs = Saved (newest_of (opening bs)) left key frame r (newest_of (opening cs)) (left_of (length cs) (opening cs))

  saved_at : Bytes bs → Ok tt ≡ admitted key (length frame) left → (end : ℕ) → end ≡ length bs - left → SavedAs (Ok tt) (appended bs end entry)
  saved_at typed ok end there = go (opening bs) refl
    where
      b : Bounds key (length frame) left
      b = bounds key (length frame) left ok

      go : (r : Result (List Entry) Refusal) → opening bs ≡ r → SavedAs (Ok tt) (appended bs end entry)
      go (Err x) is = let z : left ≡ 0 = ap (left_of (length bs)) is in absurd (omega (arith, b.room))
      go (Ok es) is =
          let l : left ≡ length bs - used es = ap (left_of (length bs)) is in
          saved_longer bs es entry typed is (record { low_key = b.low_key; some = b.some; few = b.few }) (omega (arith, b.room)) end (omega (arith, b.room)) ok

  pub saved : Bytes bs → Ok tt ≡ admitted key (length frame) left → (cs : List ℕ) (end : ℕ) → end ≡ length bs - left → cs ≡ appended bs end entry → SavedAs (Ok tt) cs × (cs ≡ saving bs key frame)
  saved typed ok cs end there is =
      let P : List ℕ → Type 0 = SavedAs (Ok tt) in
      (subst P (sym is) (saved_at typed ok end there), is ∙ ap (λ n. appended bs n entry) there ∙ ap (λ r. after_saving r bs (length bs - left) entry) ok)

  pub unsaved : (x : Refusal) → Err x ≡ admitted key (length frame) left → SavedAs (Err x) bs × (bs ≡ saving bs key frame)
  unsaved x why = (record { answers = why; frames = λ k. refl; taken = 0; takes = refl; falls = omega arith }, ap (λ r. after_saving r bs (length bs - left) entry) why)

-- ---- a fresh journal

abbrev pub zeros : ℕ → List ℕ
zeros n = replicate n 0

zeros_end : (n : ℕ) → ends (zeros n) ≡ true
zeros_end zero = refl
zeros_end (suc n) = refl

pub fresh_zeros : (n : ℕ) → 1760 ≤ n → n ≤ 65536 → Fresh (newest_of (opening (zeros n))) (left_of (length (zeros n)) (opening (zeros n)))
fresh_zeros n some few =
    let size : length (zeros n) ≡ n = length-replicate n 0 in
    let o : opening (zeros n) ≡ Ok [] = unless_goes ShortMemory (leb (length (zeros n)) 65536) (entries (zeros n)) _ (le-leb (length (zeros n)) 65536 (omega arith)) (all_ended 0 (zeros n) (ended_none 0 (zeros n) (zeros_end n))) in
    let l : left_of (length (zeros n)) (opening (zeros n)) ≡ length (zeros n) - 0 = ap (left_of (length (zeros n))) o in
    record { none = λ k. ap (λ r. newest_of r k) o; room = omega arith }
