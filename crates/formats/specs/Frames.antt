-- The bytes of a state frame and of a context. Assumes nothing.
use Rattle.std.specs.Prelude.{ℕ, ◌+◌, ◌*◌, Bool, cond, List, [], ◌∷◌, ◌++◌, length, ◌==◌, nat_eq}
use Rattle.std.specs.List.{flat_map}
use Rattle.values.specs.BigEndian.{to_bytes}
use Rattle.dvvset.specs.Clock.{ColumnState, State}

-- a field: tag (1), length (2), and that many bytes
abbrev pub field : ℕ → List ℕ → List ℕ
field tag body = tag ∷ (to_bytes 2 (length body) ++ body)

-- the head of a frame: key (1)
abbrev pub head_field : ℕ → ℕ → List ℕ
head_field tag key = field tag (key ∷ [])

-- the fields of the columns c, c + 1, ..; an absent column has none
abbrev pub rising_fields : {A : Type 0} → (A → Bool) → (ℕ → A → List ℕ) → ℕ → List A → List ℕ
rising_fields absent field_of c [] = []
rising_fields absent field_of c (a ∷ xs) = cond (absent a) [] (field_of c a) ++ rising_fields absent field_of (c + 1) xs

-- ---- state frames: bytes_of gives the bytes of one value

-- a column is absent where it has no top
abbrev pub unwritten : {V : Type 0} → ColumnState V → Bool
unwritten a = a.top == 0

-- a column: column (1), count (1), top (4), values
abbrev pub column_field : {V : Type 0} → (V → List ℕ) → ℕ → ColumnState V → List ℕ
column_field bytes_of c a = field 2 (c ∷ length a.values ∷ (to_bytes 4 a.top ++ flat_map bytes_of a.values))

-- tag 01: the key; then tag 02 for each column with a top
unfoldable pub frame : {V : Type 0} → (V → List ℕ) → ℕ → State V → List ℕ
frame bytes_of key S = head_field 1 key ++ rising_fields unwritten (column_field bytes_of) 0 S

-- how many bytes that is, where a value has w: 9 for each column with a top, and its values
abbrev pub fields_length : {V : Type 0} → ℕ → State V → ℕ
fields_length w [] = 0
fields_length w (a ∷ S) = cond (unwritten a) 0 (9 + w * length a.values) + fields_length w S

abbrev pub frame_length : {V : Type 0} → ℕ → State V → ℕ
frame_length w S = 4 + fields_length w S

-- ---- contexts

-- a top: column (1), top (4)
abbrev pub top_field : ℕ → ℕ → List ℕ
top_field c t = field 4 (c ∷ to_bytes 4 t)

-- tag 03: the key; then tag 04 for each top that is not 0
unfoldable pub context_frame : ℕ → List ℕ → List ℕ
context_frame key C = head_field 3 key ++ rising_fields (λ t. nat_eq t 0) top_field 0 C
