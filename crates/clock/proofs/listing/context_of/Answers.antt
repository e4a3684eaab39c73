use Rattle.std.proofs.Common.{◌≡◌, get_or, length, replicate, Ok, ap, ◌∙◌, sym, arith, rules}
use Rattle.std.proofs.lemmas.Bool.{le-leb, cond-true}
use Rattle.clock.specs.Memory.{no_row, top_of}
use Rattle.clock.proofs.Arrays.{get_or_from_fn}
use Rattle.clock.proofs.Dots.{context_is, context_low}
use Rattle.clock.proofs.listing.context_of.Goals as goal

pub invariant_of-result : goal.invariant_of-result
invariant_of-result c =
    let rows = c.args.rows.now in
    let units = replicate 96 (tt {0}) in
    let is = context_is rows units c.from_fn.result (omega arith) (λ i h. get_or_from_fn _ _ (λ j t. t ≡ top_of (get_or rows j no_row)) (λ j t q s. search rules) c.from_fn.result 24 i 0 c.from_fn.ensures.items h) in
    record { wide = omega arith; low = λ k. omega (arith, ap (λ ns. get_or ns k 0) is, context_low rows units k) }

pub returns : goal.returns
returns c =
    let rows = c.args.rows.now in
    let units = replicate 96 (tt {0}) in
    let is = context_is rows units c.from_fn.result (omega arith) (λ i h. get_or_from_fn _ _ (λ j t. t ≡ top_of (get_or rows j no_row)) (λ j t q s. search rules) c.from_fn.result 24 i 0 c.from_fn.ensures.items h) in
    ap Ok is ∙ sym (cond-true _ _ _ (le-leb 24 (length rows) (omega arith)))
