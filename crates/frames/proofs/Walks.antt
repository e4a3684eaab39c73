-- A walk over the columns of a frame, by what the cursor tells. Assumes nothing.
use Rattle.std.proofs.Common.{◌≡◌, ℕ, suc, ◌+◌, ◌-◌, ◌<◌, ◌≤◌, List, length, drop, Ok, Err, Result, sym, refl, ap, ◌∙◌, arith}
use Rattle.std.proofs.lemmas.List.{length-drop, drop_all, drop-drop}
use Rattle.refusals.specs.declared.Refusal.{Refusal}
use Rattle.refusals.specs.declared.Refusal.TheVariants.{OutOfOrder}
use Rattle.dvvset.specs.Clock.{ColumnState, State, no_writes}
use Rattle.formats.specs.Reading.{Told, then, column_of, column_told, rising, values_of, verdict, key_of, reading}
use Rattle.formats.proofs.Walking.{walk_end, walk_refused, walk_past, walk_verdict}
use Rattle.cursor.specs.Seen.{HeadShown, ColumnShown, column_seen, head_seen}
use Rattle.cursor.proofs.Founds.{FoundColumn, column-found, head-found, shown_refused}

module _ {V : Type 0} (w : ℕ) (value_of : List ℕ → V) (bs : List ℕ) where
  abbrev told : ℕ → List ℕ → Result (Told (ColumnState V)) Refusal
  told = column_told w value_of

  abbrev read : ℕ → ℕ → Result (State V) Refusal
  read c at = rising told no_writes (24 - c) c at (drop at bs)

  -- what the field tells, and the place behind it
  abbrev found : ℕ → ColumnShown → Told (ColumnState V)
  found at s = record { column = s.column; what = record { top = s.top; values = values_of w value_of s.count s.values }; next = at + (9 + length s.values); rest = drop (at + (9 + length s.values)) bs }

  pub told_here : (at : ℕ) (s : ColumnShown) → FoundColumn w at (drop at bs) s → told at (drop at bs) ≡ Ok (found at s)
  told_here at s f = ap (λ r. then r (λ q. Ok (column_of w value_of q))) f.is ∙ ap (λ d. Ok (record { column = s.column; what = record { top = s.top; values = values_of w value_of s.count s.values }; next = at + (9 + length s.values); rest = d })) (drop-drop (9 + length s.values) at bs)

  pub refused_here : (c at : ℕ) (e : Refusal) → at < length bs → Err e ≡ column_seen w at (drop at bs) → read c at ≡ Err e
  refused_here c at e l h =
      walk_refused told no_writes (λ p. refl) (24 - c) c at (drop at bs) e (simp length-drop (omega arith)) (ap (λ r. then r (λ q. Ok (column_of w value_of q))) (shown_refused _ _ e h))

  -- what a check answers, as the columns from c on tell, whose fields begin at `at`
  abbrev pub Checking : ℕ → ℕ → ℕ → Type 0
  Checking key c at = key_of (reading w value_of bs) ≡ then (verdict (read c at)) (λ u. Ok key)

  pub head_refused : (e : Refusal) → Err e ≡ head_seen 1 0 bs → Err e ≡ key_of (reading w value_of bs)
  unfolding reading
  head_refused e h = sym (ap (λ r. key_of (then r (λ x. then (rising told no_writes 24 0 4 x.rest) (λ S. Ok (record { key = x.key; what = S }))))) (shown_refused _ _ e h))

  pub head_read : (s : HeadShown) → Ok s ≡ head_seen 1 0 bs → (length s.bytes ≡ 1) × Checking s.key 0 4
  unfolding reading
  head_read s h =
      let f = head-found 1 0 bs s h in
      (f.1, ap (λ r. key_of (then r (λ x. then (rising told no_writes 24 0 4 x.rest) (λ S. Ok (record { key = x.key; what = S }))))) f.0.is ∙ go (read 0 4))
    where
      go : (r : Result (State V) Refusal) → key_of (then r (λ S. Ok (record { key = s.key; what = S }))) ≡ then (verdict r) (λ u. Ok s.key)
      go (Ok S) = refl
      go (Err x) = refl

  module _ (key c at : ℕ) (so_far : Checking key c at) where
    pub at_the_end : length bs ≤ at → Ok key ≡ key_of (reading w value_of bs)
    at_the_end l =
        sym (so_far ∙ ap (λ d. then (verdict (rising told no_writes (24 - c) c at d)) (λ u. Ok key)) (drop_all at bs l) ∙ ap (λ r. then (verdict r) (λ u. Ok key)) (walk_end told no_writes (λ p. refl) (24 - c) c at))

    pub at_refused : (e : Refusal) → at < length bs → Err e ≡ column_seen w at (drop at bs) → Err e ≡ key_of (reading w value_of bs)
    at_refused e l h = sym (so_far ∙ ap (λ r. then (verdict r) (λ u. Ok key)) (refused_here c at e l h))

    module _ (s : ColumnShown) (h : Ok s ≡ column_seen w at (drop at bs)) where
      pub at_past : s.column < c → Err (OutOfOrder s.at) ≡ key_of (reading w value_of bs)
      at_past l =
          let f = column-found w at (drop at bs) s h in
          sym (so_far ∙ ap (λ r. then (verdict r) (λ u. Ok key)) (walk_past told no_writes (λ q. refl) (24 - c) c at (drop at bs) _ (told_here at s f) l) ∙ ap (λ q. Err (OutOfOrder q)) (sym f.here))

      pub at_next : c ≤ s.column → Checking key (s.column + 1) (at + (9 + length s.values))
      at_next l =
          let f = column-found w at (drop at bs) s h in
          let j = s.column in
          let low = f.low in
          let k : 24 - c ≡ (j - c) + suc (24 - (j + 1)) = omega arith in
          so_far ∙ ap (λ v. then v (λ u. Ok key)) (ap (λ m. verdict (rising told no_writes m c at (drop at bs))) k ∙ walk_verdict told no_writes (λ q. refl) (j - c) (24 - (j + 1)) c at (drop at bs) (found at s) (told_here at s f) (omega arith))
