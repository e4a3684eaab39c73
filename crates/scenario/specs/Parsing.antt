-- What a line says: its words, and the call that they make. Assumes nothing.
use Rattle.std.specs.Prelude.{ℕ, ◌^◌, Bool, cond, ◌&&◌, List, [], ◌∷◌, filter, length, codes, ℤ, pos, neg_ℤ, Some, None, Ok, Err, Option, Result, ◌==◌, nat_eq, nat_le, nat_lt, slice_index}
use Rattle.std.specs.Char.{is_ascii_whitespace, is_digit}
use Rattle.std.specs.Cmp.Lexicographic.{pointwise}
use Rattle.std.specs.List.{list_all, slice_split}
use Rattle.std.specs.Str.Iter.{split_ascii_whitespace_text}
use Rattle.std.specs.Str.Parse.{digits_value, starts_with_minus, without_leading_plus, without_leading_sign}
use Rattle.values.specs.declared.setting.Setting.{Setting}
use Rattle.scenario.specs.Labels.{label_of}
use Rattle.scenario.specs.declared.bad_lines.BadLine.{BadLine}
use Rattle.scenario.specs.declared.bad_lines.BadLine.TheVariants.{NoSuchCall, Missing, Malformed, Superfluous}
use Rattle.scenario.specs.declared.bad_lines.Part.{Part}
use Rattle.scenario.specs.declared.bad_lines.Part.TheVariants.{Seat, Key, Measure, Label, CallNumber}
use Rattle.scenario.specs.declared.calls.Action.{Action}
use Rattle.scenario.specs.declared.calls.Action.TheVariants.{Put, Delete, Get, Send, Save, Deliver}
use Rattle.scenario.specs.declared.calls.Call.{Call}
use Rattle.scenario.specs.declared.calls.Spot.{Spot}
use Rattle.scenario.specs.declared.parsing.Words.{Words}

abbrev pub WordList : Type 0
WordList = List (List ℕ)

-- what stands between ASCII white space
unfoldable pub words : List ℕ → WordList
words bs = filter (λ w. nat_lt 0 (length w)) (slice_split is_ascii_whitespace bs)

-- ---- what is wrong

-- as `BadLine`, with the bytes of the word
pub data Fault : Type 0 where
  no_such_call : List ℕ → Fault
  missing : Part → Fault
  malformed : Part → List ℕ → Fault
  superfluous : List ℕ → Fault

abbrev pub fault : BadLine → Fault
fault (NoSuchCall w) = no_such_call w.now
fault (Missing part) = missing part
fault (Malformed part w) = malformed part w.now
fault (Superfluous w) = superfluous w.now

-- ---- numbers

abbrev pub is_numeral : List ℕ → Bool
is_numeral ds = nat_lt 0 (length ds) && list_all (λ c. is_digit c 10) ds

-- decimal digits, maybe with a `+` in front, of a number below 2^64
unfoldable pub number_of : List ℕ → Option ℕ
number_of w =
    let ds = without_leading_plus w in
    cond (is_numeral ds && nat_lt (digits_value 10 ds) (2 ^ 64)) (Some (digits_value 10 ds)) None

-- decimal digits, maybe with a sign in front, of a number that fits 32 bits
unfoldable pub measure_of : List ℕ → Option ℤ
measure_of w =
    let ds = without_leading_sign w in
    let n = digits_value 10 ds in
    cond (starts_with_minus w) (cond (is_numeral ds && nat_le n (2 ^ 31)) (Some (neg_ℤ (pos n))) None) (cond (is_numeral ds && nat_lt n (2 ^ 31)) (Some (pos n)) None)

-- ---- reading

-- what was read, and the words behind it
abbrev pub Read : Type 0 → Type 0
Read A = Result (A × WordList) Fault

abbrev pub read_then : {A B : Type 0} → Read A → (A → WordList → Read B) → Read B
read_then (Ok p) f = f p.0 p.1
read_then (Err e) f = Err e

infixl 10 ◌>>=◌
abbrev pub ◌>>=◌ : {A B : Type 0} → (WordList → Read A) → (A → WordList → Read B) → WordList → Read B
(r >>= f) ws = read_then (r ws) f

abbrev pub pure : {A : Type 0} → A → WordList → Read A
pure x ws = Ok (x, ws)

abbrev pub read_as : {A : Type 0} → Part → List ℕ → Option A → WordList → Read A
read_as part w (Some x) ws = Ok (x, ws)
read_as part w None ws = Err (malformed part w)

-- a word, as what it stands for
abbrev pub reading : {A : Type 0} → Part → (List ℕ → Option A) → WordList → Read A
reading part value [] = Err (missing part)
reading part value (w ∷ ws) = read_as part w (value w) ws

abbrev pub spot : WordList → Read Spot
spot = do
  seat ← reading Seat number_of
  key ← reading Key number_of
  pure (record { seat = seat; key = key })

abbrev pub setting : WordList → Read Setting
setting = do
  measure ← reading Measure measure_of
  label ← reading Label label_of
  pure (record { measure = measure; label = label })

-- the number behind `with`, or none at the end
abbrev pub named : WordList → Read (Option ℕ)
named [] = Ok (None, [])
named (w ∷ ws) = cond (pointwise nat_eq w (codes "with")) ((reading CallNumber number_of >>= (λ n. pure (Some n))) ws) (Err (superfluous w))

abbrev pub ended : WordList → Read (Unit {0})
ended [] = Ok (tt, [])
ended (w ∷ ws) = Err (superfluous w)

abbrev pub put : WordList → Read Call
put = do
  at ← spot
  value ← setting
  get ← named
  pure (record { at = at; action = Put value get })

abbrev pub delete : WordList → Read Call
delete = do
  at ← spot
  get ← named
  pure (record { at = at; action = Delete get })

abbrev pub deliver : WordList → Read Call
deliver = do
  at ← spot
  call ← reading CallNumber number_of
  pure (record { at = at; action = Deliver call })

-- a call that needs no more than a seat and a key
abbrev pub plain : Action → WordList → Read Call
plain action = do
  at ← spot
  pure (record { at = at; action = action })

-- the call of this name
abbrev pub call_named : List ℕ → WordList → Read Call
call_named w =
    cond (pointwise nat_eq w (codes "put")) put
    (cond (pointwise nat_eq w (codes "delete")) delete
    (cond (pointwise nat_eq w (codes "get")) (plain Get)
    (cond (pointwise nat_eq w (codes "send")) (plain Send)
    (cond (pointwise nat_eq w (codes "save")) (plain Save)
    (cond (pointwise nat_eq w (codes "deliver")) deliver
    (λ ws. Err (no_such_call w)))))))

abbrev pub alone : Read Call → Result (Option Call) Fault
alone (Ok p) = Ok (Some p.0)
alone (Err e) = Err e

-- the call that words make, with nothing behind it; none where there are no words
abbrev pub call_of : WordList → Result (Option Call) Fault
call_of [] = Ok None
call_of (w ∷ ws) = alone ((call_named w >>= (λ call. ended >>= (λ u. pure call))) ws)

-- a line that begins with `#` is a comment
abbrev pub line_call : List ℕ → Result (Option Call) Fault
line_call line = cond (slice_index line 0 == 35) (Ok None) (call_of (words line))

-- ---- what the functions answer

-- the words that are not read yet
abbrev pub left : Words → WordList
left w = words (split_ascii_whitespace_text w.rest)

-- what was read, where these words are left
abbrev pub told : {A : Type 0} → Result A BadLine → WordList → Read A
told (Ok x) ws = Ok (x, ws)
told (Err e) ws = Err (fault e)

abbrev pub said : Result (Option Call) BadLine → Result (Option Call) Fault
said (Ok call) = Ok call
said (Err e) = Err (fault e)
