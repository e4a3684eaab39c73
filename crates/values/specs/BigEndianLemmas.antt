-- The bytes of a number give it back, and the number of bytes gives them back, at every width. Assumes nothing.
use Rattle.std.specs.Prelude.{◌≡◌, ℕ, zero, suc, ◌+◌, ◌*◌, ◌/◌, ◌%◌, ◌^◌, ◌<◌, ◌≤◌, List, [], ◌∷◌, length, take, drop, ℤ, FitsSigned, slice_index, refl}
use Rattle.std.proofs.Math.Arith.{digits_div, digits_lt, mod-mul}
use Rattle.std.proofs.Common.{drop-cons, sym, ap, ◌∙◌, mod-eq_of_lt, mul_assoc, arith}
use Rattle.std.proofs.Math.Facts.{Fits-of_z, sfits_to_z}
use Rattle.std.specs.Int.{Width, w8, w16, w32, w64, w128}
use mir.Val.{Fits, bits, bytes, of_z, to_z}
use Rattle.std.proofs.Math.Nat.{mod-one, mul-add-div_right, mul-add-mod_self_right, pow-succ'}
use Rattle.std.proofs.ByRecursion.{All-drop, All-from_get_or, All-take}
use Rattle.std.proofs.lemmas.List.{length-drop, length-take-le}
use Rattle.std.proofs.lemmas.Int.{of_z-to_z, to_z-of_z}
use Rattle.values.specs.BigEndian.{Bytes, from_bytes, to_bytes, signed_from_bytes, signed_to_bytes}

-- parts of bytes are bytes
pub bytes_take : (n : ℕ) (bs : List ℕ) → Bytes bs → Bytes (take n bs)
bytes_take = All-take (λ b. b < 256)

pub bytes_drop : (n : ℕ) (bs : List ℕ) → Bytes bs → Bytes (drop n bs)
bytes_drop = All-drop (λ b. b < 256)

-- what a `u8` slice holds, from what the check knows of each element
pub bytes_typed : (bs : List ℕ) → ((i : ℕ) → Fits w8 (slice_index bs i)) → Bytes bs
bytes_typed bs typed = All-from_get_or (λ b. b < 256) bs 0 (λ i h. (typed i).fits)

pub length-to_bytes : (width n : ℕ) → length (to_bytes width n) ≡ width
length-to_bytes zero n = refl
length-to_bytes (suc width) n = ap suc (length-to_bytes width n)

pub to_bytes_are_bytes : (width n : ℕ) → Bytes (to_bytes width n)
to_bytes_are_bytes zero n = tt
to_bytes_are_bytes (suc width) n = (omega arith, to_bytes_are_bytes width n)

pow_positive : (k : ℕ) → 0 < 256 ^ k
pow_positive zero = omega arith
pow_positive (suc k) = rw pow-succ' (omega (arith, pow_positive k))

pub from_bytes_lt : (bs : List ℕ) → Bytes bs → from_bytes bs < 256 ^ length bs
from_bytes_lt [] u = omega arith
from_bytes_lt (b ∷ bs) u = rw pow-succ' (digits_lt u.0 (from_bytes_lt bs u.1))

-- what the bytes write is the number, let go above the width
from_to_bytes_low : (width n : ℕ) → from_bytes (to_bytes width n) ≡ n % 256 ^ width
from_to_bytes_low zero n = sym (mod-one n)
from_to_bytes_low (suc width) n =
    rw (length-to_bytes width n, from_to_bytes_low width n, pow-succ' 256 width) (sym (mod-mul n {m = 256} (omega arith) (pow_positive width)))

pub from_to_bytes : (width n : ℕ) → n < 256 ^ width → from_bytes (to_bytes width n) ≡ n
from_to_bytes width n h = from_to_bytes_low width n ∙ mod-eq_of_lt h

-- what stands above the width is let go
to_bytes_low : (width high low : ℕ) → to_bytes width (high * 256 ^ width + low) ≡ to_bytes width low
to_bytes_low zero high low = refl
to_bytes_low (suc width) high low =
    let first : (high * 256 * 256 ^ width + low) / 256 ^ width % 256 ≡ low / 256 ^ width % 256 =
    ap (λ n. n % 256) (mul-add-div_right (pow_positive width) (high * 256) low) ∙ mul-add-mod_self_right high 256 (low / 256 ^ width) in
    rw (pow-succ' 256 width, ← mul_assoc high 256 (256 ^ width), first, to_bytes_low width (high * 256) low)

to_from_bytes_all : (bs : List ℕ) → Bytes bs → to_bytes (length bs) (from_bytes bs) ≡ bs
to_from_bytes_all [] u = refl
to_from_bytes_all (b ∷ bs) u =
    let first : (b * 256 ^ length bs + from_bytes bs) / 256 ^ length bs % 256 ≡ b =
    ap (λ n. n % 256) (digits_div b (from_bytes_lt bs u.1)) ∙ mod-eq_of_lt u.0 in
    rw (first, to_bytes_low (length bs) b (from_bytes bs), to_from_bytes_all bs u.1)

pub to_from_bytes : (width : ℕ) (bs : List ℕ) → length bs ≡ width → Bytes bs → to_bytes width (from_bytes bs) ≡ bs
to_from_bytes width bs l u = ap (λ w. to_bytes w (from_bytes bs)) (sym l) ∙ to_from_bytes_all bs u

-- the number that stands at place i, as a sum over its bytes: what `from_be_bytes` gives
abbrev pub number_at : ℕ → ℕ → List ℕ → ℕ
number_at zero i bs = 0
number_at (suc width) i bs = slice_index bs i * 256 ^ width + number_at width (suc i) bs

pub from_bytes_at : (width i : ℕ) (bs : List ℕ) → i + width ≤ length bs → from_bytes (take width (drop i bs)) ≡ number_at width i bs
from_bytes_at zero i bs h = refl
from_bytes_at (suc width) i bs h =
    let here : i < length bs = omega arith in
    let rest : width ≤ length (drop (suc i) bs) = rw length-drop (omega arith) in
    rw (drop-cons bs i 0 here, length-take-le width (drop (suc i) bs) rest, from_bytes_at width (suc i) bs (omega arith))

pow_bytes : (w : Width) → 256 ^ bytes w ≡ 2 ^ bits w
pow_bytes w8 = refl
pow_bytes w16 = refl
pow_bytes w32 = refl
pow_bytes w64 = refl
pow_bytes w128 = refl

pub from_bytes_fits : (w : Width) (bs : List ℕ) → length bs ≡ bytes w → Bytes bs → from_bytes bs < 2 ^ bits w
from_bytes_fits w bs l u = rw (← pow_bytes w, ← l) (from_bytes_lt bs u)

pub signed_from_to_bytes : (w : Width) (z : ℤ) → FitsSigned w z → signed_from_bytes w (signed_to_bytes w z) ≡ z
signed_from_to_bytes w z f =
    ap (to_z w) (from_to_bytes (bytes w) (of_z w z) (rw pow_bytes (Fits-of_z f).fits)) ∙ to_z-of_z w z f

pub signed_to_from_bytes : (w : Width) (bs : List ℕ) → length bs ≡ bytes w → Bytes bs → signed_to_bytes w (signed_from_bytes w bs) ≡ bs
signed_to_from_bytes w bs l u =
    ap (to_bytes (bytes w)) (of_z-to_z w (from_bytes bs) (from_bytes_fits w bs l u)) ∙ to_from_bytes (bytes w) bs l u

pub signed_from_bytes_fits : (w : Width) (bs : List ℕ) → length bs ≡ bytes w → Bytes bs → FitsSigned w (signed_from_bytes w bs)
signed_from_bytes_fits w bs l u = sfits_to_z (record { fits = from_bytes_fits w bs l u })
