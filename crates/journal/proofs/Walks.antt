-- A walk over entries, step by step. Assumes nothing.
use Rattle.std.proofs.Common.{◌≡◌, ℕ, ◌+◌, ◌≤◌, Bool, true, false, cond, eqb, leb, List, ◌∷◌, length, drop, Some, None, Ok, Err, Option, Result, sym, refl, ap, ◌∙◌, arith}
use Rattle.std.proofs.lemmas.List.{drop-drop, length-append}
use Rattle.std.proofs.lemmas.Bool.{cond-false, cond-true, eq-eqb, le-leb, ne_eqb}
use Rattle.std.specs.Option.{option_map, option_or}
use Rattle.std.specs.List.{flat_map}
use Rattle.refusals.specs.declared.Refusal.{Refusal}
use Rattle.refusals.specs.declared.Refusal.TheVariants.{ShortMemory}
use Rattle.formats.specs.Reading.{then, in_front}
use Rattle.formats.specs.Entries.{Entry, EntryTold, entry_field, next_entry, opening, entries, used}
use Rattle.formats.proofs.Steps.{unless_goes}
use Rattle.formats.proofs.Logs.{all_from, all_ended, all_refused, all-step, cut}
use Rattle.media.specs.Runs.{last_where}
use Rattle.cursor.specs.Seen.{EntryShown, entry_seen}
use Rattle.cursor.proofs.Founds.{shown_refused}
use Rattle.journal.specs.Journals.{last_frame, walked}

-- ---- what a step of the cursor tells

-- an entry, or none, with the offset at which it begins
abbrev show : ℕ → Option EntryTold → Option EntryShown
show at o = option_map (λ t. record { key = t.entry.key; frame = t.entry.frame; at = at }) o

ended : (at : ℕ) (r : Result (Option EntryTold) Refusal) → Ok None ≡ then r (λ o. Ok (show at o)) → r ≡ Ok None
ended at (Err x) is = absurd (let z : ◌≡◌ {A = ℕ} 0 1 = cc in omega arith)
ended at (Ok None) is = refl
ended at (Ok (Some t)) is = absurd (let z : ◌≡◌ {A = ℕ} 0 1 = cc in omega arith)

-- the entry that was told
pub record Told (r : Result (Option EntryTold) Refusal) (key : ℕ) (frame : List ℕ) : Type 0 where
  pub told : EntryTold
  pub is : r ≡ Ok (Some told)
  pub key_is : told.entry.key ≡ key
  pub frame_is : told.entry.frame ≡ frame

tells : (at : ℕ) (r : Result (Option EntryTold) Refusal) (s : EntryShown) → Ok (Some s) ≡ then r (λ o. Ok (show at o)) → Told r s.key s.frame
tells at (Err x) s is = absurd (let z : ◌≡◌ {A = ℕ} 0 1 = cc in omega arith)
tells at (Ok None) s is = absurd (let z : ◌≡◌ {A = ℕ} 0 1 = cc in omega arith)
tells at (Ok (Some t)) s is = record { told = t; is = refl; key_is = cc; frame_is = cc }

-- ---- a walk

one_last : {A B : Type 0} (f : A → B) (last : Option A) (b : Bool) (x : A) (before : Option B) → option_or (option_map f (option_or last (cond b (Some x) None))) before ≡ option_or (option_map f last) (cond b (Some (f x)) before)
one_last f (Some y) b x before = refl
one_last f None true x before = refl
one_last f None false x before = refl

walked_front : (key p : ℕ) (before : Option (List ℕ)) (e : Entry) (r : Result (List Entry) Refusal) → walked key p before (in_front e r) ≡ walked key (p + (4 + length e.frame)) (cond (eqb key e.key) (Some e.frame) before) r
walked_front key p before e (Err x) = refl
walked_front key p before e (Ok es) =
    let n : p + used (e ∷ es) ≡ p + (4 + length e.frame) + used es = omega (arith, length-append e.frame (flat_map entry_field es)) in
    ap (λ m. Ok (m, option_or (last_frame key (e ∷ es)) before)) n
    ∙ ap (λ o. Ok (p + (4 + length e.frame) + used es, o)) (one_last (λ e. e.frame) (last_where (λ e. eqb key e.key) es) (eqb key e.key) e before)

pub opens : (bs : List ℕ) → length bs ≤ 65536 → opening bs ≡ all_from 0 bs
opens bs h = unless_goes ShortMemory (leb (length bs) 65536) (entries bs) _ (le-leb (length bs) 65536 h) refl

-- how far a walk is: what is left tells the answer
abbrev pub Walking : List ℕ → ℕ → ℕ → Option (List ℕ) → Type 0
Walking bs key p newest = walked key 0 None (all_from 0 bs) ≡ walked key p newest (all_from p (drop p bs))

module _ (bs : List ℕ) (key p : ℕ) (newest : Option (List ℕ)) (far : Walking bs key p newest) where
  pub walk_refused : (e : Refusal) → Err e ≡ entry_seen p (drop p bs) → walked key 0 None (all_from 0 bs) ≡ Err e
  walk_refused e is = far ∙ ap (walked key p newest) (all_refused p (drop p bs) e (shown_refused (show p) (next_entry p (drop p bs)) e is))

  pub walk_ended : Ok None ≡ entry_seen p (drop p bs) → walked key 0 None (all_from 0 bs) ≡ Ok (p, newest)
  walk_ended is =
      let n : p + 0 ≡ p = omega arith in
      far ∙ ap (walked key p newest) (all_ended p (drop p bs) (ended p (next_entry p (drop p bs)) is)) ∙ ap (λ m. Ok (m, newest)) n

  pub walk_more : (s : EntryShown) → Ok (Some s) ≡ entry_seen p (drop p bs) → Walking bs key (p + (4 + length s.frame)) (cond (eqb key s.key) (Some s.frame) newest)
  walk_more s is =
      let k = s.key in
      let frame = s.frame in
      let q : ℕ = p + (4 + length frame) in
      let t = tells p (next_entry p (drop p bs)) s is in
      let e = t.told.entry in
      let c = cut p (drop p bs) t.told t.is in
      let len : length e.frame ≡ length frame = ap length t.frame_is in
      let here : p + (4 + length e.frame) ≡ q = omega arith in
      let next : t.told.next ≡ q = c.next ∙ here in
      let rest : t.told.rest ≡ drop q bs = c.rest ∙ drop-drop (4 + length e.frame) p bs ∙ ap (λ m. drop m bs) here in
      far
      ∙ ap (walked key p newest) (all-step p (drop p bs) t.told t.is)
      ∙ walked_front key p newest e (all_from t.told.next t.told.rest)
      ∙ ap (λ m. walked key m (cond (eqb key e.key) (Some e.frame) newest) (all_from t.told.next t.told.rest)) here
      ∙ ap (λ m. walked key q (cond (eqb key m) (Some e.frame) newest) (all_from t.told.next t.told.rest)) t.key_is
      ∙ ap (λ f. walked key q (cond (eqb key k) (Some f) newest) (all_from t.told.next t.told.rest)) t.frame_is
      ∙ ap (λ m. walked key q (cond (eqb key k) (Some frame) newest) (all_from m t.told.rest)) next
      ∙ ap (λ xs. walked key q (cond (eqb key k) (Some frame) newest) (all_from q xs)) rest

  -- an entry of the key is the newest, and another leaves it
  pub walk_newer : (s : EntryShown) → Ok (Some s) ≡ entry_seen p (drop p bs) → s.key ≡ key → Walking bs key (p + (4 + length s.frame)) (Some s.frame)
  walk_newer s is e = walk_more s is ∙ ap (λ n. walked key (p + (4 + length s.frame)) n (all_from (p + (4 + length s.frame)) (drop (p + (4 + length s.frame)) bs))) (cond-true (eqb key s.key) (Some s.frame) newest (eq-eqb key s.key (sym e)))

  pub walk_other : (s : EntryShown) → Ok (Some s) ≡ entry_seen p (drop p bs) → (s.key ≡ key → ⊥) → Walking bs key (p + (4 + length s.frame)) newest
  walk_other s is n = walk_more s is ∙ ap (λ n. walked key (p + (4 + length s.frame)) n (all_from (p + (4 + length s.frame)) (drop (p + (4 + length s.frame)) bs))) (cond-false (eqb key s.key) (Some s.frame) newest (ne_eqb key s.key (λ e. n (sym e))))
