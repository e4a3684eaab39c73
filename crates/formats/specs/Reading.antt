-- What any bytes read as: a key with its state or context, or the first refusal, field by field from the left. Assumes nothing.
use Rattle.std.specs.Prelude.{ℕ, zero, suc, ◌+◌, ◌*◌, Bool, cond, ◌&&◌, List, [], ◌∷◌, length, take, drop, Ok, Err, Result, ◌==◌, nat_le, nat_lt, slice_index}
use Rattle.refusals.specs.declared.Refusal.{Refusal}
use Rattle.refusals.specs.declared.Refusal.TheVariants.{Truncated, UnexpectedTag, WrongLength, OutOfRange, OutOfOrder}
use Rattle.values.specs.BigEndian.{from_bytes}
use Rattle.dvvset.specs.Limits.{columns, most_siblings, last_counter}
use Rattle.dvvset.specs.Clock.{ColumnState, State, no_writes}

abbrev pub then : {A B : Type 0} → Result A Refusal → (A → Result B Refusal) → Result B Refusal
then (Ok a) f = f a
then (Err e) f = Err e

-- r, if the test passes
abbrev pub unless : {A : Type 0} → Refusal → Bool → Result A Refusal → Result A Refusal
unless e test r = cond test r (Err e)

-- ---- one field, which begins at the offset `at`

-- its tag, its bytes, and what follows it
pub record Field : Type 0 where
  pub tag : ℕ
  pub body : List ℕ
  pub rest : List ℕ

-- tag (1), length (2), and that many bytes
abbrev pub framed : ℕ → List ℕ → Result Field Refusal
framed at [] = Err (Truncated at)
framed at (t ∷ []) = Err (Truncated at)
framed at (t ∷ h ∷ []) = Err (Truncated at)
framed at (t ∷ h ∷ l ∷ bs) = let n = h * 256 + l in unless (Truncated at) (nat_le n (length bs)) (Ok (record { tag = t; body = take n bs; rest = drop n bs }))

-- with the tag that is due
abbrev pub tagged : ℕ → ℕ → List ℕ → Result Field Refusal
tagged due at bs = then (framed at bs) (λ f. unless (UnexpectedTag at) (f.tag == due) (Ok f))

-- the key of a head, and what follows it
pub record Head : Type 0 where
  pub key : ℕ
  pub rest : List ℕ

abbrev pub head : ℕ → ℕ → List ℕ → Result Head Refusal
head due at bs =
    then (tagged due at bs) (λ f.
    let key = slice_index f.body 0 in
    unless (WrongLength at) (length f.body == 1) (unless (OutOfRange at) (nat_le key 15) (Ok (record { key = key; rest = f.rest }))))

-- what a field says of its column, and the offset and the bytes that follow it
pub record Told (A : Type 0) : Type 0 where
  pub column : ℕ
  pub what : A
  pub next : ℕ
  pub rest : List ℕ

-- n values of w bytes each
abbrev pub values_of : {V : Type 0} → ℕ → (List ℕ → V) → ℕ → List ℕ → List V
values_of w value_of zero bs = []
values_of w value_of (suc n) bs = value_of (take w bs) ∷ values_of w value_of n (drop w bs)

-- a column field as its bytes stand
pub record Raw : Type 0 where
  pub column : ℕ
  pub count : ℕ
  pub top : ℕ
  pub values : List ℕ
  pub next : ℕ
  pub rest : List ℕ

-- a column up to 23, at most four values and never more than the top, and a top of 1 to 999,999
abbrev pub in_range : ℕ → ℕ → ℕ → Bool
in_range c count top = nat_le c 23 && (nat_le count most_siblings && (nat_le count top && (nat_le 1 top && nat_le top last_counter)))

-- column (1), count (1), top (4), values of w bytes each
abbrev pub raw_column : ℕ → ℕ → List ℕ → Result Raw Refusal
raw_column w at bs =
    then (tagged 2 at bs) (λ f.
    let c = slice_index f.body 0 in
    let count = slice_index f.body 1 in
    let top = from_bytes (take 4 (drop 2 f.body)) in
    unless (WrongLength at) (nat_le 6 (length f.body))
    (unless (OutOfRange at) (in_range c count top)
    (unless (WrongLength at) (length f.body == 6 + w * count)
    (Ok (record { column = c; count = count; top = top; values = drop 6 f.body; next = at + (3 + length f.body); rest = f.rest })))))

-- the column that it tells
abbrev pub column_of : {V : Type 0} → ℕ → (List ℕ → V) → Raw → Told (ColumnState V)
column_of w value_of r = record { column = r.column; what = record { top = r.top; values = values_of w value_of r.count r.values }; next = r.next; rest = r.rest }

abbrev pub column_told : {V : Type 0} → ℕ → (List ℕ → V) → ℕ → List ℕ → Result (Told (ColumnState V)) Refusal
column_told w value_of at bs = then (raw_column w at bs) (λ r. Ok (column_of w value_of r))

-- column (1), top (4)
abbrev pub top_told : ℕ → List ℕ → Result (Told ℕ) Refusal
top_told at bs =
    then (tagged 4 at bs) (λ f.
    let c = slice_index f.body 0 in
    let top = from_bytes (drop 1 f.body) in
    unless (WrongLength at) (length f.body == 5)
    (unless (OutOfRange at) (nat_le c 23 && (nat_le 1 top && nat_le top last_counter))
    (Ok (record { column = c; what = top; next = at + (3 + length f.body); rest = f.rest }))))

-- ---- all fields

abbrev pub in_front : {A : Type 0} → A → Result (List A) Refusal → Result (List A) Refusal
in_front a r = then r (λ xs. Ok (a ∷ xs))

-- What the fields say of the n columns from c on: each field of a column above the one before, and nothing of a column without a field.
unfoldable pub rising : {A : Type 0} → (ℕ → List ℕ → Result (Told A) Refusal) → A → ℕ → ℕ → ℕ → List ℕ → Result (List A) Refusal
rising told nothing zero c at [] = Ok []
rising told nothing zero c at (b ∷ bs) = then (told at (b ∷ bs)) (λ f. Err (OutOfOrder at))
rising told nothing (suc n) c at [] = in_front nothing (rising told nothing n (c + 1) at [])
rising told nothing (suc n) c at (b ∷ bs) =
    then (told at (b ∷ bs)) (λ f.
    cond (nat_lt f.column c) (Err (OutOfOrder at))
    (cond (f.column == c) (in_front f.what (rising told nothing n (c + 1) f.next f.rest))
    (in_front nothing (rising told nothing n (c + 1) at (b ∷ bs)))))

-- a key, with what stands in its frame
pub record Keyed (A : Type 0) : Type 0 where
  pub key : ℕ
  pub what : A

unfoldable pub reading : {V : Type 0} → ℕ → (List ℕ → V) → List ℕ → Result (Keyed (State V)) Refusal
reading w value_of bs = then (head 1 0 bs) (λ h. then (rising (column_told w value_of) no_writes columns 0 4 h.rest) (λ S. Ok (record { key = h.key; what = S })))

unfoldable pub context_reading : List ℕ → Result (Keyed (List ℕ)) Refusal
context_reading bs = then (head 3 0 bs) (λ h. then (rising top_told 0 columns 0 4 h.rest) (λ C. Ok (record { key = h.key; what = C })))

-- ---- what a check answers

-- the refusal, or nothing more
abbrev pub verdict : {A : Type 0} → Result A Refusal → Result (Unit {0}) Refusal
verdict r = then r (λ a. Ok tt)

-- the refusal, or the key
abbrev pub key_of : {A : Type 0} → Result (Keyed A) Refusal → Result ℕ Refusal
key_of r = then r (λ k. Ok k.key)
