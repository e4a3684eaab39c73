-- The siblings of a key: by rising column, newest first. Assumes nothing.
use Rattle.std.specs.Prelude.{ℕ, ◌+◌, ◌-◌, List, [], ◌∷◌, ◌++◌}
use Rattle.dvvset.specs.Clock.{State}
use Rattle.dvvset.specs.declared.writes.Sibling.{Sibling}

-- the values of the counters n, n - 1, .. of column c, under their dots
abbrev pub dotted : {V : Type 0} → ℕ → ℕ → List V → List (Sibling V)
dotted c n [] = []
dotted c n (v ∷ vs) = record { dot = record { column = c; counter = n }; value = v } ∷ dotted c (n - 1) vs

-- those of the columns c, c + 1, ..
abbrev pub siblings_from : {V : Type 0} → ℕ → State V → List (Sibling V)
siblings_from c [] = []
siblings_from c (a ∷ S) = dotted c a.top a.values ++ siblings_from (c + 1) S

unfoldable pub siblings : {V : Type 0} → State V → List (Sibling V)
siblings S = siblings_from 0 S
