-- Values of one width, one after the other. Assumes nothing.
use Rattle.std.proofs.Common.{◌≡◌, ℕ, zero, suc, ◌*◌, ◌≤◌, List, [], ◌∷◌, length, take, drop, sym, refl, ap, mul-zero, mul-suc, arith}
use Rattle.std.proofs.lemmas.List.{length-append, length-take-le, length-drop, take_at, drop_at, take-append-drop}
use Rattle.std.specs.List.{flat_map, AllByRecursion}
use Rattle.values.specs.BigEndian.{Bytes}
use Rattle.values.specs.BigEndianLemmas.{bytes_take, bytes_drop}
use Rattle.formats.specs.Reading.{values_of}

-- what a value type promises of its bytes
pub record Code {V : Type 0} (width : ℕ) (bytes_of : V → List ℕ) (value_of : List ℕ → V) (valid : V → Type 0) : Type 0 where
  pub most : width ≤ 16
  pub fills : (v : V) → valid v → length (bytes_of v) ≡ width
  pub back : (v : V) → valid v → value_of (bytes_of v) ≡ v
  pub forth : (bs : List ℕ) → length bs ≡ width → Bytes bs → bytes_of (value_of bs) ≡ bs
  pub fits : (bs : List ℕ) → length bs ≡ width → Bytes bs → valid (value_of bs)

module _ {V : Type 0} {width : ℕ} {bytes_of : V → List ℕ} {value_of : List ℕ → V} {valid : V → Type 0} (code : Code width bytes_of value_of valid) where
  pub length-joined : (vs : List V) → AllByRecursion valid vs → length (flat_map bytes_of vs) ≡ width * length vs
  length-joined [] h = sym (mul-zero width)
  length-joined (v ∷ vs) h = omega (arith, length-append (bytes_of v) (flat_map bytes_of vs), code.fills v h.0, length-joined vs h.1, mul-suc width (length vs))

  pub values_joined : (vs : List V) → AllByRecursion valid vs → values_of width value_of (length vs) (flat_map bytes_of vs) ≡ vs
  values_joined [] h = refl
  values_joined (v ∷ vs) h =
      let f = code.fills v h.0 in
      let t = take_at (bytes_of v) (flat_map bytes_of vs) width f in
      let d = drop_at (bytes_of v) (flat_map bytes_of vs) width f in
      let b = code.back v h.0 in
      let r = values_joined vs h.1 in
      cc

  pub length_values : (n : ℕ) (bs : List ℕ) → length (values_of width value_of n bs) ≡ n
  length_values zero bs = refl
  length_values (suc n) bs = ap suc (length_values n (drop width bs))

  pub record Read (n : ℕ) (bs : List ℕ) : Type 0 where
    pub each : AllByRecursion valid (values_of width value_of n bs)
    pub is : flat_map bytes_of (values_of width value_of n bs) ≡ bs

  pub joined_values : (n : ℕ) (bs : List ℕ) → length bs ≡ width * n → Bytes bs → Read n bs
  joined_values zero [] l b = record { each = tt; is = refl }
  joined_values zero (x ∷ bs) l b = absurd (omega (arith, mul-zero width))
  joined_values (suc n) bs l b =
      let m = mul-suc width n in
      let lt = length-take-le width bs (omega arith) in
      let tb = bytes_take width bs b in
      let r = joined_values n (drop width bs) (omega (arith, length-drop width bs)) (bytes_drop width bs b) in
      let f = code.forth (take width bs) lt tb in
      let all = take-append-drop width bs in
      let rest = r.is in
      record { each = (code.fits (take width bs) lt tb, r.each); is = cc }
