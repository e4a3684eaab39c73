-- What a word was read as. Assumes nothing.
use Rattle.std.proofs.Common.{◌≡◌, ℕ, List, Some, None, Option, refl}
use Rattle.std.specs.Borrow.{Bor}
use Rattle.std.specs.Option.{ok_or}
use Rattle.scenario.specs.Parsing.{read_as, told}
use Rattle.scenario.specs.declared.bad_lines.BadLine.TheVariants.{Malformed}
use Rattle.scenario.specs.declared.bad_lines.Part.{Part}

pub told-ok_or : {A : Type 0} (part : Part) (w : Bor (List ℕ)) (o : Option A) (ws : List (List ℕ)) → told (ok_or o (Malformed part w)) ws ≡ read_as part w.now o ws
told-ok_or part w None ws = refl
told-ok_or part w (Some x) ws = refl
