-- Numbers as bytes, the highest byte first, and signed ones in two's complement. Assumes nothing.
use Rattle.std.specs.Prelude.{ℕ, zero, suc, ◌+◌, ◌*◌, ◌/◌, ◌%◌, ◌^◌, ◌<◌, List, [], ◌∷◌, length, ℤ}
use Rattle.std.specs.Int.{Width}
use mir.Val.{bytes, of_z, to_z}
use Rattle.std.specs.List.{AllByRecursion}

-- each is a byte
abbrev pub Bytes : List ℕ → Type 0
Bytes bs = AllByRecursion (λ b. b < 256) bs

-- the number that the bytes write
abbrev pub from_bytes : List ℕ → ℕ
from_bytes [] = 0
from_bytes (b ∷ bs) = b * 256 ^ length bs + from_bytes bs

-- the bytes, as many as the width, that write the number
abbrev pub to_bytes : ℕ → ℕ → List ℕ
to_bytes zero n = []
to_bytes (suc width) n = n / 256 ^ width % 256 ∷ to_bytes width n

-- the same for a signed number of a machine width: w16 has two bytes, w32 has four
abbrev pub signed_from_bytes : Width → List ℕ → ℤ
signed_from_bytes w bs = to_z w (from_bytes bs)

abbrev pub signed_to_bytes : Width → ℤ → List ℕ
signed_to_bytes w z = to_bytes (bytes w) (of_z w z)
