-- 196 bytes hold every context. Assumes nothing.
use Rattle.std.proofs.Common.{◌≡◌, ℕ, ◌+◌, ◌*◌, ◌≤◌, eqb, cond, List, [], ◌∷◌, length, arith}
use Rattle.std.specs.Result.{IsOk}
use Rattle.std.proofs.lemmas.List.{length-append}
use Rattle.std.proofs.lemmas.Bool.{cond_both, le-leb}
use Rattle.dvvset.specs.Clock.{answer}
use Rattle.formats.specs.Frames.{context_frame, rising_fields, top_field}
use Rattle.context_frames.specs.Laying.{writing_context}

tops_short : (c : ℕ) (tops : List ℕ) → length (rising_fields (λ t. eqb t 0) top_field c tops) ≤ 8 * length tops
tops_short c [] = omega arith
tops_short c (t ∷ tops) =
    let rest = tops_short (c + 1) tops in
    let here = cond_both (eqb t 0) [] (top_field c t) (λ f. length f ≤ 8) (λ e. omega arith) (λ e. omega arith) in
    omega (arith, length-append (cond (eqb t 0) [] (top_field c t)) (rising_fields (λ t'. eqb t' 0) top_field (c + 1) tops))

context_short : (key : ℕ) (tops : List ℕ) → length tops ≡ 24 → length (context_frame key tops) ≤ 196
unfolding context_frame
context_short key tops wide = let h = tops_short 0 tops in omega arith

pub context_written : (key : ℕ) (tops out : List ℕ) → key ≤ 15 → length tops ≡ 24 → length out ≡ 196 → IsOk (answer (writing_context key tops out))
context_written key tops out low wide long =
    let short : length (context_frame key tops) ≤ length out = omega (arith, context_short key tops wide) in
    rw (le-leb key 15 low, le-leb (length (context_frame key tops)) (length out) short)
