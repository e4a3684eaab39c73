-- Entries, each a key and its frame, as a journal keeps them and an archive holds them. Assumes nothing.
use Rattle.std.specs.Prelude.{◌≡◌, ℕ, zero, suc, ◌+◌, ◌≤◌, Bool, true, cond, ◌&&◌, List, [], ◌∷◌, ◌++◌, length, drop, Some, None, Ok, Option, Result, ◌==◌, nat_le, slice_index}
use Rattle.std.specs.List.{flat_map, AllByRecursion}
use Rattle.refusals.specs.declared.Refusal.{Refusal}
use Rattle.refusals.specs.declared.Refusal.TheVariants.{WrongLength, OutOfRange, ShortMemory}
use Rattle.values.specs.BigEndian.{Bytes}
use Rattle.formats.specs.Frames.{field}
use Rattle.formats.specs.Reading.{then, unless, tagged, in_front}

pub record Entry : Type 0 where
  pub key : ℕ
  pub frame : List ℕ

-- tag 10, length (2), key (1), frame
abbrev pub entry_field : Entry → List ℕ
entry_field e = field 16 (e.key ∷ e.frame)

-- the bytes that entries take
abbrev pub used : List Entry → ℕ
used es = length (flat_map entry_field es)

-- ---- one entry, which begins at the offset `at`

-- an entry, and the offset and the bytes that follow it
pub record EntryTold : Type 0 where
  pub entry : Entry
  pub next : ℕ
  pub rest : List ℕ

-- the fields inside the frame are not read
abbrev pub entry_told : ℕ → List ℕ → Result EntryTold Refusal
entry_told at bs =
    then (tagged 16 at bs) (λ f.
    let n = length f.body in
    let key = slice_index f.body 0 in
    unless (WrongLength at) (nat_le 5 n && nat_le n 1757)
    (unless (OutOfRange at) (nat_le key 15)
    (Ok (record { entry = record { key = key; frame = drop 1 f.body }; next = at + (3 + n); rest = f.rest }))))

-- a tag 00 or the end of the bytes
abbrev pub ends : List ℕ → Bool
ends [] = true
ends (t ∷ bs) = t == 0

-- the entry, or none where they end
abbrev pub next_entry : ℕ → List ℕ → Result (Option EntryTold) Refusal
next_entry at bs = cond (ends bs) (Ok None) (then (entry_told at bs) (λ e. Ok (Some e)))

-- ---- all entries

-- the entry, if there is one, and those after it
abbrev pub onward : (EntryTold → Result (List Entry) Refusal) → Option EntryTold → Result (List Entry) Refusal
onward after None = Ok []
onward after (Some e) = in_front e.entry (after e)

-- those from the offset `at` on, at most n of them
unfoldable pub entries_from : ℕ → ℕ → List ℕ → Result (List Entry) Refusal
entries_from zero at bs = Ok []
entries_from (suc n) at bs = then (next_entry at bs) (onward (λ e. entries_from n e.next e.rest))

-- there are never more entries than bytes
abbrev pub entries : List ℕ → Result (List Entry) Refusal
entries bs = entries_from (length bs) 0 bs

-- of a whole journal or archive
abbrev pub opening : List ℕ → Result (List Entry) Refusal
opening bs = unless ShortMemory (nat_le (length bs) 65536) (entries bs)

-- ---- one reading for each list of entries

-- an entry that can stand
pub record Fit (e : Entry) : Type 0 where
  pub low_key : e.key ≤ 15
  pub some : 4 ≤ length e.frame
  pub few : length e.frame ≤ 1756

-- the bytes are these entries, and what ends them
pub record Holds (bs : List ℕ) (es : List Entry) : Type 0 where
  pub rest : List ℕ
  pub is : bs ≡ flat_map entry_field es ++ rest
  pub ended : ends rest ≡ true
  pub fit : AllByRecursion Fit es

pub record OneLog : Type 0 where
  pub of_entries : (bs : List ℕ) (es : List Entry) → Holds bs es → entries bs ≡ Ok es
  pub of_bytes : (bs : List ℕ) (es : List Entry) → Bytes bs → entries bs ≡ Ok es → Holds bs es
