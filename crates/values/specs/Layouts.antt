-- How each value of the crate stands in bytes. Assumes nothing.
use Rattle.std.specs.Prelude.{◌≡◌, ℕ, ◌^◌, ◌<◌, List, ◌++◌, length, take, drop, FitsSigned}
use Rattle.std.specs.Int.{w16, w32}
use Rattle.values.specs.BigEndian.{Bytes, from_bytes, to_bytes, signed_from_bytes, signed_to_bytes}
use Rattle.values.specs.declared.detent.Detent.{Detent}
use Rattle.values.specs.declared.place.Place.{Place}
use Rattle.values.specs.declared.setting.Setting.{Setting}

-- a setting: measure (4), label (12)
abbrev pub setting_bytes : Setting → List ℕ
setting_bytes s = signed_to_bytes w32 s.measure ++ s.label

abbrev pub setting_of : List ℕ → Setting
setting_of bs = record { measure = signed_from_bytes w32 (take 4 bs); label = drop 4 bs }

abbrev pub SettingFits : Setting → Type 0
SettingFits s = FitsSigned w32 s.measure × (length s.label ≡ 12) × Bytes s.label

-- a detent: step (2)
abbrev pub detent_bytes : Detent → List ℕ
detent_bytes d = signed_to_bytes w16 d.step

abbrev pub detent_of : List ℕ → Detent
detent_of bs = record { step = signed_from_bytes w16 bs }

abbrev pub DetentFits : Detent → Type 0
DetentFits d = FitsSigned w16 d.step

-- a place: offset (4), length (4)
abbrev pub place_bytes : Place → List ℕ
place_bytes p = to_bytes 4 p.offset ++ to_bytes 4 p.length

abbrev pub place_of : List ℕ → Place
place_of bs = record { offset = from_bytes (take 4 bs); length = from_bytes (drop 4 bs) }

abbrev pub PlaceFits : Place → Type 0
PlaceFits p = (p.offset < 2 ^ 32) × (p.length < 2 ^ 32)
