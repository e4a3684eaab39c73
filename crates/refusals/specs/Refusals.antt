-- The number and the offset of each kind of refusal. Assumes nothing.
use Rattle.std.specs.Prelude.{ℕ}
use Rattle.refusals.specs.declared.Refusal.{Refusal}
use Rattle.refusals.specs.declared.Refusal.TheVariants.{Truncated, UnexpectedTag, WrongLength, OutOfRange, OutOfOrder, OwnTopAhead, TooManySiblings, CounterExhausted, ShortMemory, NoSuchSeatOrKey, MediumFull, Mismatch}

abbrev pub number : Refusal → ℕ
number (Truncated at) = 1
number (UnexpectedTag at) = 2
number (WrongLength at) = 3
number (OutOfRange at) = 4
number (OutOfOrder at) = 5
number OwnTopAhead = 6
number TooManySiblings = 7
number CounterExhausted = 8
number ShortMemory = 9
number NoSuchSeatOrKey = 10
number MediumFull = 11
number Mismatch = 12

-- the offset of the refused field's tag, and 0 where no field is named
abbrev pub offset : Refusal → ℕ
offset (Truncated at) = at
offset (UnexpectedTag at) = at
offset (WrongLength at) = at
offset (OutOfRange at) = at
offset (OutOfOrder at) = at
offset OwnTopAhead = 0
offset TooManySiblings = 0
offset CounterExhausted = 0
offset ShortMemory = 0
offset NoSuchSeatOrKey = 0
offset MediumFull = 0
offset Mismatch = 0
