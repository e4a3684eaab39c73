-- What saves left opens again. Assumes nothing.
use Rattle.std.proofs.Common.{◌≡◌, ℕ, ◌≤◌, true, eqb, leb, List, [], length, is_ok, IfOk, Some, Ok, Err, Result, sym, refl, ap, ◌∙◌, subst, arith}
use Rattle.std.proofs.ByRecursion.{All-weaker}
use Rattle.std.proofs.lemmas.Bool.{false≢true}
use Rattle.refusals.specs.declared.Refusal.{Refusal}
use Rattle.refusals.specs.declared.Refusal.TheVariants.{ShortMemory}
use Rattle.formats.specs.Entries.{Entry, Fit, entries, opening}
use Rattle.formats.proofs.Steps.{unless_ok}
use Rattle.formats.proofs.Logs.{all_fit}
use Rattle.media.specs.Runs.{Ran, Tried, last_where}
use Rattle.media.proofs.Trials.{last_found, mapped-found, ran_some}
use Rattle.journal.specs.declared.journals.Journal.{Journal}
use Rattle.journal.specs.declared.journals.Unopened.{Unopened}
use Rattle.journal.specs.Journals.{left_of, newest_of}
use Rattle.journal.specs.Buffers.{handed_back, opened}

-- in what opens no frame is short
opened_some : (bs : List ℕ) (es : List Entry) → opening bs ≡ Ok es → (k : ℕ) (f : List ℕ) → newest_of (opening bs) k ≡ Some f → 4 ≤ length f
opened_some bs es is k f e =
    let u = unless_ok ShortMemory (leb (length bs) 65536) (entries bs) es is in
    let Q : List ℕ → Type 0 = λ f. 4 ≤ length f in
    mapped-found (λ e. e.frame) Q (last_where (λ e. eqb k e.key) es)
    (last_found (λ e. eqb k e.key) (λ e. 4 ≤ length e.frame) es (All-weaker Fit _ (λ e g _. g.some) es (all_fit (length bs) 0 bs es u.1)))
    f (sym (ap (λ r. newest_of r k) is) ∙ e)

module _ (bs cs : List ℕ) (ts : List Tried) (ran : Ran (newest_of (opening bs)) (left_of (length bs) (opening bs)) ts (newest_of (opening cs)) (left_of (length cs) (opening cs))) where
  abbrev RanTo : List ℕ → Type 0
  RanTo ds = Ran (newest_of (opening bs)) (left_of (length bs) (opening bs)) ts (newest_of (opening ds)) (left_of (length ds) (opening ds))

  still_opens : (es : List Entry) → opening bs ≡ Ok es → (x : Refusal) → opening cs ≡ Err x → ⊥
  still_opens es is x not = omega (arith, ran_some ran 0 (opened_some bs es is 0) [] (ap (λ r. newest_of r 0) not))

  abbrev Answer : Result Journal Unopened → Type 0
  Answer r = (is_ok (opening bs) ≡ true → is_ok r ≡ true) × IfOk r (λ j. RanTo j.bytes.now)

  pub reopened : (r : Result Journal Unopened) → handed_back r ≡ opened cs → Answer r
  reopened r e = go r (opening cs) refl e
    where
      go : (r : Result Journal Unopened) (o : Result (List Entry) Refusal) → opening cs ≡ o → handed_back r ≡ elim o [ Ok es ↦ Ok cs | Err x ↦ Err (x, cs) ] → Answer r
      go (Ok j) (Ok es) is e = let same : j.bytes.now ≡ cs = cc in let P : List ℕ → Type 0 = RanTo in (λ _. refl, subst P (sym same) ran)
      go (Ok j) (Err x) is e = absurd (let z : ◌≡◌ {A = ℕ} 0 1 = cc in omega arith)
      go (Err u) (Ok es) is e = absurd (let z : ◌≡◌ {A = ℕ} 0 1 = cc in omega arith)
      go (Err u) (Err x) is e = (λ ok. absurd (was_open (opening bs) refl ok x is), tt)
        where
          was_open : (o : Result (List Entry) Refusal) → opening bs ≡ o → is_ok o ≡ true → (x : Refusal) → opening cs ≡ Err x → ⊥
          was_open (Ok es) b ok x is = still_opens es b x is
          was_open (Err y) b ok x is = false≢true ok
