-- The bytes of a context in lent memory. Assumes nothing.
use Rattle.std.specs.Prelude.{ℕ, cond, List, ◌++◌, length, drop, nat_eq, nat_le}
use Rattle.refusals.specs.declared.Refusal.TheVariants.{NoSuchSeatOrKey}
use Rattle.dvvset.specs.Clock.{Outcome, accepted, refused}
use Rattle.clock.specs.Calls.{in_room}
use Rattle.formats.specs.Frames.{context_frame, rising_fields, top_field}

-- the fields of the tops
abbrev pub tops_laid : List ℕ → List ℕ
tops_laid C = rising_fields (λ t. nat_eq t 0) top_field 0 C

-- the context's bytes go to the front of `out`, which is else as it was; the answer is how many they are
abbrev pub writing_context : ℕ → List ℕ → List ℕ → Outcome ℕ (List ℕ)
writing_context key C out =
    let n = length (context_frame key C) in
    cond (nat_le key 15) (in_room (nat_le n (length out)) (accepted n (context_frame key C ++ drop n out))) (refused NoSuchSeatOrKey)
