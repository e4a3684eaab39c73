-- What a step of a cursor hands out, with the bytes in the place of the loans. Assumes nothing.
use Rattle.std.specs.Prelude.{◌≡◌, ℕ, ◌+◌, ◌≤◌, List, length, take, drop, Some, None, Ok, Err, Option, Result, MatchResult, IfOk}
use Rattle.std.specs.Option.{option_map}
use Rattle.refusals.specs.declared.Refusal.{Refusal}
use Rattle.formats.specs.Reading.{Field as FieldBytes, then, tagged, head, raw_column, top_told}
use Rattle.formats.specs.Entries.{next_entry}
use Rattle.cursor.specs.declared.cursors.Cursor.{Cursor}
use Rattle.cursor.specs.declared.fields.ColumnField.{ColumnField}
use Rattle.cursor.specs.declared.fields.Entry.{Entry}
use Rattle.cursor.specs.declared.fields.Field.{Field}
use Rattle.cursor.specs.declared.fields.Field.TheVariants.{Head as HeadField, Column as ColumnOf, Top as TopOf, Entry as EntryOf}
use Rattle.cursor.specs.declared.fields.Head.{Head}
use Rattle.cursor.specs.declared.fields.TopField.{TopField}

-- the field at the front of the bytes, by the length of its body
abbrev pub cut_at : List ℕ → ℕ → ℕ → FieldBytes
cut_at bs tag n = record { tag = tag; body = take n (drop 3 bs); rest = drop (3 + n) bs }

abbrev pub Framed : List ℕ → ℕ → ℕ → Result ℕ Refusal → Type 0
Framed bs due at r = MatchResult r (λ n. (3 + n ≤ length bs) × (tagged due at bs ≡ Ok (cut_at bs due n))) (λ e. tagged due at bs ≡ Err e)

-- ---- each kind of field with its bytes themselves, and how many bytes it takes in all

pub record HeadShown : Type 0 where
  pub key : ℕ
  pub bytes : List ℕ
  pub at : ℕ

abbrev pub head_shown : Head → HeadShown
head_shown h = record { key = h.key; bytes = h.bytes.now; at = h.at }

abbrev pub head_span : Head → ℕ
head_span h = 3 + length h.bytes.now

pub record ColumnShown : Type 0 where
  pub column : ℕ
  pub count : ℕ
  pub top : ℕ
  pub values : List ℕ
  pub at : ℕ

abbrev pub column_shown : ColumnField → ColumnShown
column_shown c = record { column = c.column; count = c.count; top = c.top; values = c.values.now; at = c.at }

abbrev pub column_span : ColumnField → ℕ
column_span c = 9 + length c.values.now

pub record TopShown : Type 0 where
  pub column : ℕ
  pub top : ℕ
  pub bytes : List ℕ
  pub at : ℕ

abbrev pub top_shown : TopField → TopShown
top_shown t = record { column = t.column; top = t.top; bytes = t.bytes.now; at = t.at }

abbrev pub top_span : TopField → ℕ
top_span t = 3 + length t.bytes.now

pub record EntryShown : Type 0 where
  pub key : ℕ
  pub frame : List ℕ
  pub at : ℕ

abbrev pub entry_shown : Entry → EntryShown
entry_shown e = record { key = e.key; frame = e.frame.now; at = e.at }

-- nothing where none follows
abbrev pub entry_span : Option Entry → ℕ
entry_span (Some e) = 4 + length e.frame.now
entry_span None = 0

-- of a field of any kind
abbrev pub field_span : Field → ℕ
field_span (HeadField h) = head_span h
field_span (ColumnOf c) = column_span c
field_span (TopOf t) = top_span t
field_span (EntryOf e) = entry_span (Some e)

-- ---- what a step hands out, and how far it moves: a refusal, not at all

abbrev pub seen : {F S : Type 0} → (F → S) → Result F Refusal → Result S Refusal
seen show (Ok f) = Ok (show f)
seen show (Err e) = Err e

abbrev pub spanned : {F : Type 0} → (F → ℕ) → Result F Refusal → ℕ
spanned span (Ok f) = span f
spanned span (Err e) = 0

-- what was read from so many bytes: it shows what is told of them, and spans no more
abbrev pub Reads : {F S : Type 0} → (F → S) → (F → ℕ) → Result S Refusal → ℕ → Result F Refusal → Type 0
Reads show span told size r = (seen show r ≡ told) × IfOk r (λ f. span f ≤ size)

-- What a step of a cursor does: it hands out what stands at the front of what is left, and moves behind it; a refusal leaves the cursor where it was.
pub record Steps {F S : Type 0} (show : F → S) (span : F → ℕ) (told : ℕ → List ℕ → Result S Refusal) (old new : Cursor) (r : Result F Refusal) : Type 0 where
  pub value : seen show r ≡ told old.at (drop old.at old.bytes.now)
  pub moved : new.at ≡ old.at + spanned span r
  pub same : new.bytes.now ≡ old.bytes.now

-- ---- what each step hands out, for the bytes at the offset `at`

abbrev pub head_seen : ℕ → ℕ → List ℕ → Result HeadShown Refusal
head_seen due at bs = then (head due at bs) (λ h. Ok (record { key = h.key; bytes = take 1 (drop 3 bs); at = at }))

abbrev pub column_seen : ℕ → ℕ → List ℕ → Result ColumnShown Refusal
column_seen w at bs = then (raw_column w at bs) (λ r. Ok (record { column = r.column; count = r.count; top = r.top; values = r.values; at = at }))

abbrev pub top_seen : ℕ → List ℕ → Result TopShown Refusal
top_seen at bs = then (top_told at bs) (λ t. Ok (record { column = t.column; top = t.what; bytes = take 5 (drop 3 bs); at = at }))

abbrev pub entry_seen : ℕ → List ℕ → Result (Option EntryShown) Refusal
entry_seen at bs = then (next_entry at bs) (λ o. Ok (option_map (λ t. record { key = t.entry.key; frame = t.entry.frame; at = at }) o))
