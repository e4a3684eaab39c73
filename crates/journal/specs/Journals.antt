-- What the bytes of a journal mean, and what a save makes of them. Assumes nothing.
use Rattle.std.specs.Prelude.{ℕ, ◌+◌, ◌-◌, List, [], ◌∷◌, ◌++◌, length, take, drop, Some, Ok, Err, Option, Result, nat_eq}
use Rattle.std.specs.Option.{option_map, option_or}
use Rattle.refusals.specs.declared.Refusal.{Refusal}
use Rattle.formats.specs.Reading.{then}
use Rattle.formats.specs.Entries.{Entry, entry_field, used, opening}
use Rattle.media.specs.Media.{Frames, admitted, behind}
use Rattle.media.specs.Runs.{last_where}
use Rattle.journal.specs.declared.entries.Walk.{Walk}

-- ---- what entries mean

-- the frame of a key's last entry
abbrev pub last_frame : ℕ → List Entry → Option (List ℕ)
last_frame k es = option_map (λ e. e.frame) (last_where (λ e. nat_eq k e.key) es)

-- Bytes that do not open hold an empty frame for every key, which no save can leave and no reader accepts, and have nothing left.
abbrev pub newest_of : Result (List Entry) Refusal → Frames
newest_of (Ok es) k = last_frame k es
newest_of (Err e) k = Some []

abbrev pub left_of : ℕ → Result (List Entry) Refusal → ℕ
left_of size (Ok es) = size - used es
left_of size (Err e) = 0

-- of a journal's bytes: the newest frame of each key, and what no entry uses
abbrev pub frames_in : List ℕ → Frames
frames_in bs = newest_of (opening bs)

abbrev pub room_in : List ℕ → ℕ
room_in bs = left_of (length bs) (opening bs)

-- ---- a walk from the offset p on, with a frame of the key before it

abbrev pub walked : ℕ → ℕ → Option (List ℕ) → Result (List Entry) Refusal → Result (ℕ × Option (List ℕ)) Refusal
walked key p before r = then r (λ es. Ok (p + used es, option_or (last_frame key es) before))

abbrev pub seen : Result Walk Refusal → Result (ℕ × Option (List ℕ)) Refusal
seen (Ok w) = Ok (w.end, behind w.newest)
seen (Err e) = Err e

-- ---- one entry more

-- a tag 00, where a byte is left
abbrev pub closed : List ℕ → List ℕ
closed [] = []
closed (b ∷ bs) = 0 ∷ bs

-- the entry behind the others, which end at `end`
abbrev pub appended : List ℕ → ℕ → Entry → List ℕ
appended bs end e = take end bs ++ (entry_field e ++ closed (drop (length e.frame + 4) (drop end bs)))

-- the bytes after a save that was answered so
abbrev pub after_saving : Result (Unit {0}) Refusal → List ℕ → ℕ → Entry → List ℕ
after_saving (Ok u) bs end e = appended bs end e
after_saving (Err x) bs end e = bs

abbrev pub saving : List ℕ → ℕ → List ℕ → List ℕ
saving bs key frame =
    let left = room_in bs in
    after_saving (admitted key (length frame) left) bs (length bs - left) (record { key = key; frame = frame })
