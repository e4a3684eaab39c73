-- A key has never more siblings than cells, so a list of all its cells always holds them. Assumes nothing.
use Rattle.std.proofs.Common.{◌≡◌, ℕ, suc, ◌+◌, ◌-◌, ◌*◌, ◌<◌, ◌≤◌, List, [], ◌∷◌, length, get_or, drop, refl, ap, arith}
use Rattle.std.specs.List.{AllByRecursion}
use Rattle.std.proofs.ByRecursion.{All-from_get_or}
use Rattle.std.proofs.lemmas.List.{length-append, length-take}
use Rattle.dvvset.specs.Clock.{ColumnState, State, no_writes}
use Rattle.dvvset.specs.Listing.{dotted, siblings, siblings_from}
use Rattle.clock.specs.Memory.{count_of, no_row, state}
use Rattle.clock.specs.declared.rows.Row.{Row}
use Rattle.clock.proofs.Whole.{few, get_or-state, length-state}

module _ {V : Type 0} where
  length_dotted : (c n : ℕ) (vs : List V) → length (dotted c n vs) ≡ length vs
  length_dotted c n [] = refl
  length_dotted c n (v ∷ vs) = ap suc (length_dotted c (n - 1) vs)

  abbrev Few : ColumnState V → Type 0
  Few a = length a.values ≤ 4

  few_from : (c : ℕ) (S : State V) → AllByRecursion Few S → length (siblings_from c S) ≤ 4 * length S
  few_from c [] h = omega arith
  few_from c (a ∷ S) h =
      let rest = few_from (c + 1) S h.1 in
      omega (arith, h.0, length_dotted c a.top a.values, length-append (dotted c a.top a.values) (siblings_from (c + 1) S))

  module _ (rows : List Row) (cells : List V) where
    few_each : (c : ℕ) → c < length (state rows cells) → Few (get_or (state rows cells) c no_writes)
    few_each c h =
        let r = get_or rows c no_row in
        rw (get_or-state rows cells c no_writes (omega (arith, length-state rows cells))) (omega (arith, few r, length-take (count_of r) (drop (4 * c) cells)))

    pub siblings_few : length (siblings (state rows cells)) ≤ 96
    unfolding siblings
    siblings_few = omega (arith, few_from 0 (state rows cells) (All-from_get_or Few (state rows cells) no_writes few_each), length-state rows cells)
