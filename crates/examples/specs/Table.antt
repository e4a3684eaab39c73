-- The table of worked examples. Assumes nothing.
use Rattle.std.specs.Prelude.{◌≡◌, ℕ, List, [], ◌∷◌, Some, None, Ok, Err, slice_set}
use Rattle.refusals.specs.declared.Refusal.TheVariants.{TooManySiblings, CounterExhausted, OutOfRange}
use Rattle.dvvset.specs.Limits.{owned}
use Rattle.dvvset.specs.Clock.{ColumnState, State, answer, after, blank, no_context, column_at, merge_column, discard_column, put}
use Rattle.formats.specs.Reading.{reading}

-- a column with the top n and these values, newest first
abbrev pub col : {V : Type 0} → ℕ → List V → ColumnState V
col n vs = record { top = n; values = vs }

-- the state in which column 0 is this one, and the others are empty
abbrev pub only : {V : Type 0} → ColumnState V → State V
only a = slice_set blank 0 a

-- the context that has seen column 0 up to n
abbrev pub seen : ℕ → List ℕ
seen n = slice_set no_context 0 n

-- column 0 after a put there
abbrev pub put_0 : {V : Type 0} → List ℕ → V → State V → State V
put_0 C v S = after S (put 0 C v S)

pub record Table {V : Type 0} (a b c p q r : V) : Type 0 where
  -- two puts without a context, and a third that has seen the first
  pub blind_puts : column_at (put_0 no_context b (put_0 no_context a blank)) 0 ≡ col 2 (b ∷ a ∷ [])
  pub covering_put : column_at (put_0 (seen 1) c (put_0 no_context b (put_0 no_context a blank))) 0 ≡ col 3 (c ∷ b ∷ [])
  -- merges
  pub one_replaced : merge_column (col 5 (p ∷ q ∷ [])) (col 5 (p ∷ [])) ≡ col 5 (p ∷ [])
  pub all_replaced : merge_column (col 4 (p ∷ q ∷ [])) (col 6 []) ≡ col 6 []
  pub newer_stand : merge_column (col 6 (p ∷ q ∷ r ∷ [])) (col 4 []) ≡ col 6 (p ∷ q ∷ [])
  -- discards
  pub below_top : discard_column (col 5 (p ∷ q ∷ r ∷ [])) 4 ≡ col 5 (p ∷ [])
  pub above_top : discard_column (col 5 (p ∷ q ∷ r ∷ [])) 7 ≡ col 7 []
  -- four own siblings: a fifth is refused, but for a put that has seen one of them
  pub fifth : answer (put 0 no_context r (only (col 4 (a ∷ b ∷ c ∷ p ∷ [])))) ≡ Err TooManySiblings
  pub four_again : column_at (put_0 (seen 1) r (only (col 4 (a ∷ b ∷ c ∷ p ∷ [])))) 0 ≡ col 5 (r ∷ a ∷ b ∷ c ∷ [])
  -- the last counter
  pub last_accepted : answer (put 0 no_context a (only (col 999998 []))) ≡ Ok (record { column = 0; counter = 999999 })
  pub last_used : answer (put 0 no_context a (only (col 999999 []))) ≡ Err CounterExhausted
  -- the column that seat 1 owns
  pub fourth_life : owned 1 3 ≡ Some 7
  pub mute : owned 1 4 ≡ None
  -- frames, whatever a value's width: key 15 without writes, and a key that is none
  pub no_writes_frame : (w : ℕ) (value_of : List ℕ → V) → reading w value_of (0x01 ∷ 0x00 ∷ 0x01 ∷ 0x0F ∷ []) ≡ Ok (record { key = 15; what = blank })
  pub no_such_key : (w : ℕ) (value_of : List ℕ → V) → reading w value_of (0x01 ∷ 0x00 ∷ 0x01 ∷ 0x10 ∷ []) ≡ Err (OutOfRange 0)
