-- Merges of whole states. Assumes nothing.
use Rattle.std.proofs.Common.{◌≡◌, ◌<◌, min, length, get_or, ap, ◌∙◌, arith}
use Rattle.std.proofs.lemmas.List.{ext_get_or, get_or-replicate}
use Rattle.dvvset.specs.Clock.{State, LegalState, blank, merge, merge_column, no_writes}
use Rattle.dvvset.proofs.Merging.{nothing_merge}
use Rattle.dvvset.proofs.Zips.{get_d_zip, length_zip}

-- merged into the state before any write, a state stays as it is
pub merge-blank : {V : Type 0} (T : State V) → LegalState T → merge blank T ≡ T
unfolding merge
merge-blank T legal =
    ext_get_or no_writes (merge blank T) T (length_zip merge_column blank T ∙ (let w = legal.wide in let e : min 24 (length T) ≡ length T = omega arith in e))
    (λ i h.
    let l : i < 24 = omega (arith, length_zip merge_column (blank {V = _}) T, legal.wide) in
    get_d_zip merge_column i blank T no_writes no_writes no_writes (omega arith) (omega (arith, legal.wide)) ∙ ap (λ a. merge_column a (get_or T i no_writes)) (get_or-replicate 24 i no_writes no_writes l) ∙ nothing_merge (get_or T i no_writes) (legal.each i).within)
