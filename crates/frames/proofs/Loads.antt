-- A frame loaded in the place of a state. Assumes nothing.
use Rattle.std.proofs.Common.{◌≡◌, ℕ, Bool, true, false, List, ◌++◌, drop, replicate, Ok, Err, Result, refl, ap, ◌∙◌, arith}
use Rattle.refusals.specs.declared.Refusal.{Refusal}
use Rattle.values.specs.BigEndian.{Bytes}
use Rattle.dvvset.specs.Clock.{State, accepted, answer, blank, merge}
use Rattle.dvvset.proofs.States.{merge-blank}
use Rattle.clock.specs.Calls.{Leaves}
use Rattle.clock.specs.Memory.{no_row, roomy, state}
use Rattle.clock.specs.declared.rows.Row.{Row}
use Rattle.clock.proofs.Puts.{leaves_accepted}
use Rattle.formats.specs.Reading.{Keyed, reading}
use Rattle.formats.proofs.Codes.{Code}
use Rattle.formats.proofs.Theorem.{one_frame_lem}
use Rattle.frames.specs.Taking.{accepting, loading_frame, state_read}

-- rows that were filled with an empty one hold no writes, whatever the cells hold
pub state_cleared : {V : Type 0} (row : Row) (n : ℕ) (front rest : List Row) (cells : List V) → (row.top ≡ 0) × (row.count ≡ 0) → n ≡ 24 → front ≡ replicate n row → state (front ++ rest) cells ≡ blank
unfolding state
state_cleared row n front rest cells zero wide is =
    let empty : row ≡ no_row = ap (λ t. record row { top = t }) zero.0 ∙ ap (λ n. record no_row { count = n }) zero.1 in
    ap (λ f. state (f ++ rest) cells) (is ∙ ap (λ k. replicate k row) wide ∙ ap (replicate 24) empty)

module _ {V : Type 0} {w : ℕ} {bytes_of : V → List ℕ} {value_of : List ℕ → V} {valid : V → Type 0} (code : Code w bytes_of value_of valid) (bs : List ℕ) (b : Bytes bs) (rows rows' : List Row) (cells cells' : List V) where
  pub loaded : (key : ℕ) → Ok key ≡ answer (loading_frame w value_of bs rows cells) → state rows' cells' ≡ merge blank (state_read (reading w value_of bs)) → drop 24 rows' ≡ drop 24 rows → drop 96 cells' ≡ drop 96 cells → Leaves rows cells (loading_frame w value_of bs rows cells) (Ok key) rows' cells'
  loaded key = go (reading w value_of bs) refl (roomy rows cells)
    where
      go : (r : Result (Keyed (State V)) Refusal) → reading w value_of bs ≡ r → (room : Bool) → Ok key ≡ answer (accepting room r (λ T. T)) → state rows' cells' ≡ merge blank (state_read r) → drop 24 rows' ≡ drop 24 rows → drop 96 cells' ≡ drop 96 cells → Leaves rows cells (accepting room r (λ T. T)) (Ok key) rows' cells'
      go (Err e) is room h means p q = absurd (let z : ◌≡◌ {A = ℕ} 0 1 = cc in omega arith)
      go (Ok k) is false h means p q = absurd (let z : ◌≡◌ {A = ℕ} 0 1 = cc in omega arith)
      go (Ok k) is true h means p q =
          let legal = ((one_frame_lem code).of_bytes bs k.key k.what b is).1 in
          let same : k.key ≡ key = cc in
          leaves_accepted rows cells (accepted k.key k.what) key k.what rows' cells' (ap (λ n. accepted n k.what) same) (means ∙ merge-blank k.what legal) p q
