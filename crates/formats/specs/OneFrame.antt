-- One frame for each state, and one state for each frame. Assumes nothing.
use Rattle.std.specs.Prelude.{◌≡◌, ℕ, ◌+◌, ◌*◌, ◌≤◌, List, length, Ok, slice_index}
use Rattle.std.specs.List.{AllByRecursion}
use Rattle.values.specs.BigEndian.{Bytes}
use Rattle.dvvset.specs.Limits.{columns, last_counter}
use Rattle.dvvset.specs.Clock.{State, LegalState, column_at}
use Rattle.formats.specs.Frames.{frame, frame_length, context_frame}
use Rattle.formats.specs.Reading.{reading, context_reading}

-- every value fits its machine type
abbrev pub Fit : {V : Type 0} → (V → Type 0) → State V → Type 0
Fit valid S = (c : ℕ) → AllByRecursion valid (column_at S c).values

pub record OneFrame {V : Type 0} (width : ℕ) (bytes_of : V → List ℕ) (value_of : List ℕ → V) (valid : V → Type 0) : Type 0 where
  -- the frame of a legal state reads as that state
  pub of_state : (key : ℕ) (S : State V) → key ≤ 15 → LegalState S → Fit valid S → reading width value_of (frame bytes_of key S) ≡ Ok (record { key = key; what = S })
  -- bytes that are accepted are the frame of the legal state that they read as
  pub of_bytes : (bs : List ℕ) (key : ℕ) (S : State V) → Bytes bs → reading width value_of bs ≡ Ok (record { key = key; what = S }) → (key ≤ 15) × LegalState S × Fit valid S × (frame bytes_of key S ≡ bs)
  pub long : (key : ℕ) (S : State V) → LegalState S → Fit valid S → length (frame bytes_of key S) ≡ frame_length width S
  pub longest : (key : ℕ) (S : State V) → LegalState S → Fit valid S → length (frame bytes_of key S) ≤ 4 + 24 * (9 + 4 * width)

-- A context that can be: 24 tops, none over 999,999.
pub record LegalContext (C : List ℕ) : Type 0 where
  pub wide : length C ≡ columns
  pub low : (c : ℕ) → slice_index C c ≤ last_counter

pub record OneContext : Type 0 where
  pub of_context : (key : ℕ) (C : List ℕ) → key ≤ 15 → LegalContext C → context_reading (context_frame key C) ≡ Ok (record { key = key; what = C })
  pub of_bytes : (bs : List ℕ) (key : ℕ) (C : List ℕ) → Bytes bs → context_reading bs ≡ Ok (record { key = key; what = C }) → (key ≤ 15) × LegalContext C × (context_frame key C ≡ bs)
  pub longest : (key : ℕ) (C : List ℕ) → LegalContext C → length (context_frame key C) ≤ 196
