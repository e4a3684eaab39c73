-- What a call does with lent memory that may be too short. Assumes nothing.
use Rattle.std.specs.Prelude.{ℕ, cond, List, ◌++◌, length, drop, Ok, Err, Result, nat_le}
use Rattle.refusals.specs.declared.Refusal.{Refusal}
use Rattle.refusals.specs.declared.Refusal.TheVariants.{ShortMemory}

-- the answer, where the memory has `width` bytes, or a refusal
abbrev pub in_memory : {X : Type 0} → ℕ → List ℕ → X → Result X Refusal
in_memory width memory answer = cond (nat_le width (length memory)) (Ok answer) (Err ShortMemory)

-- the memory with its first `width` bytes replaced, or untouched
abbrev pub overwritten : ℕ → List ℕ → List ℕ → List ℕ
overwritten width bs memory = cond (nat_le width (length memory)) (bs ++ drop width memory) memory
