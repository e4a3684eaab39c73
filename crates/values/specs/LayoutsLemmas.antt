-- A value's bytes read as the value; bytes of the right number read as a value, which writes them again. Assumes nothing.
use Rattle.std.specs.Prelude.{◌≡◌, ℕ, List, ◌++◌, length, take, drop, ℤ}
use Rattle.std.proofs.Common.{ap, ◌∙◌, arith}
use Rattle.std.specs.Int.{w16, w32}
use Rattle.std.proofs.lemmas.List.{length-drop, length-take-le, take-append-drop}
use Rattle.values.specs.BigEndian.{Bytes, from_bytes, to_bytes}
use Rattle.values.specs.Layouts.{setting_bytes, setting_of, SettingFits, detent_bytes, detent_of, DetentFits, place_bytes, place_of, PlaceFits}
use Rattle.values.specs.declared.detent.Detent.{Detent}
use Rattle.values.specs.declared.place.Place.{Place}
use Rattle.values.specs.declared.setting.Setting.{Setting}
use Rattle.values.specs.BigEndianLemmas.{bytes_drop, bytes_take, from_bytes_fits, from_to_bytes, to_from_bytes, signed_from_bytes_fits, signed_from_to_bytes, signed_to_from_bytes}

pub setting_back : (s : Setting) → SettingFits s → setting_of (setting_bytes s) ≡ s
setting_back s fits =
    let with_measure : ℤ → Setting = λ z. record { measure = z; label = s.label } in
    ap with_measure (signed_from_to_bytes w32 s.measure fits.0)

pub detent_back : (d : Detent) → DetentFits d → detent_of (detent_bytes d) ≡ d
detent_back d fits =
    let with_step : ℤ → Detent = λ z. record { step = z } in
    ap with_step (signed_from_to_bytes w16 d.step fits)

pub place_back : (p : Place) → PlaceFits p → place_of (place_bytes p) ≡ p
place_back p fits =
    let at : ℕ → Place = λ n. record { offset = n; length = from_bytes (to_bytes 4 p.length) } in
    let long : ℕ → Place = λ n. record { offset = p.offset; length = n } in
    ap at (from_to_bytes 4 p.offset fits.0) ∙ ap long (from_to_bytes 4 p.length fits.1)

module _ (bs : List ℕ) where
  pub setting_forth : length bs ≡ 16 → Bytes bs → setting_bytes (setting_of bs) ≡ bs
  setting_forth l u =
      let four : length (take 4 bs) ≡ 4 = length-take-le 4 bs (omega arith) in
      ap (λ xs. xs ++ drop 4 bs) (signed_to_from_bytes w32 (take 4 bs) four (bytes_take 4 bs u)) ∙ take-append-drop 4 bs

  pub setting_fits : length bs ≡ 16 → Bytes bs → SettingFits (setting_of bs)
  setting_fits l u =
      let four : length (take 4 bs) ≡ 4 = length-take-le 4 bs (omega arith) in
      (signed_from_bytes_fits w32 (take 4 bs) four (bytes_take 4 bs u), rw length-drop (omega arith), bytes_drop 4 bs u)

  pub place_forth : length bs ≡ 8 → Bytes bs → place_bytes (place_of bs) ≡ bs
  place_forth l u =
      let four : length (take 4 bs) ≡ 4 = length-take-le 4 bs (omega arith) in
      let rest : length (drop 4 bs) ≡ 4 = rw length-drop (omega arith) in
      ap (λ xs. xs ++ to_bytes 4 (from_bytes (drop 4 bs))) (to_from_bytes 4 (take 4 bs) four (bytes_take 4 bs u))
      ∙ ap (λ ys. take 4 bs ++ ys) (to_from_bytes 4 (drop 4 bs) rest (bytes_drop 4 bs u))
      ∙ take-append-drop 4 bs

  pub place_fits : length bs ≡ 8 → Bytes bs → PlaceFits (place_of bs)
  place_fits l u =
      let four : length (take 4 bs) ≡ 4 = length-take-le 4 bs (omega arith) in
      let rest : length (drop 4 bs) ≡ 4 = rw length-drop (omega arith) in
      (from_bytes_fits w32 (take 4 bs) four (bytes_take 4 bs u), from_bytes_fits w32 (drop 4 bs) rest (bytes_drop 4 bs u))
