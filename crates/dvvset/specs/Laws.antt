-- What merge, discard and push do, said of writes; and the laws of merge. Each is stated of one column. Assumes nothing.
use Rattle.std.specs.Prelude.{◌≡◌, ℕ, ◌+◌, ◌<◌, ◌≤◌, max, ◌⊎◌, map, length, slice_index_or}
use Rattle.dvvset.specs.Limits.{most_siblings, last_counter}
use Rattle.dvvset.specs.Clock.{ColumnState, Legal, merge_column, discard_column, push}

-- The write with the counter n stands in the column, with the value v.
abbrev pub Holds : {V : Type 0} → ColumnState V → ℕ → V → Type 0
Holds a n v = (i : ℕ) × (i < length a.values) × (n + i ≡ a.top) × (slice_index_or a.values i v ≡ v)

-- The write with the counter n was seen, and stands no more.
abbrev pub Dropped : {V : Type 0} → ColumnState V → ℕ → Type 0
Dropped a n = n + length a.values ≤ a.top

-- Where both hold a write, they have the same value for it.
abbrev pub Agree : {V : Type 0} → ColumnState V → ColumnState V → Type 0
Agree {V} a b = (n : ℕ) (x y : V) → Holds a n x → Holds b n y → x ≡ y

-- the column with f of each value
abbrev pub mapped : {V W : Type 0} → (V → W) → ColumnState V → ColumnState W
mapped f a = record { top = a.top; values = map f a.values }

pub record MergeLaws (V W : Type 0) : Type 0 where
  -- a write that the merge holds is held by one of the two, and dropped by neither
  pub only : (a b : ColumnState V) (n : ℕ) (v : V) → Holds (merge_column a b) n v → (Holds a n v ⊎ Holds b n v) × (Dropped a n → ⊥) × (Dropped b n → ⊥)
  -- and where the two agree, each such write is held
  pub every : (a b : ColumnState V) → Agree a b → (n : ℕ) (v : V) → Holds a n v ⊎ Holds b n v → (Dropped a n → ⊥) → (Dropped b n → ⊥) → Holds (merge_column a b) n v
  pub higher : (a b : ColumnState V) → (merge_column a b).top ≡ max a.top b.top
  -- no merge has more values than the longer of its two
  pub longest : (a b : ColumnState V) → length (merge_column a b).values ≤ max (length a.values) (length b.values)
  pub legal : (a b : ColumnState V) → Legal a → Legal b → Legal (merge_column a b)
  pub idempotent : (a : ColumnState V) → merge_column a a ≡ a
  pub associative : (a b c : ColumnState V) → merge_column (merge_column a b) c ≡ merge_column a (merge_column b c)
  pub commutative : (a b : ColumnState V) → Legal a → Legal b → Agree a b → merge_column a b ≡ merge_column b a
  -- merging, and then taking f of each value, is taking f of each value, and then merging
  pub natural : (f : V → W) (a b : ColumnState V) → merge_column (mapped f a) (mapped f b) ≡ mapped f (merge_column a b)

pub record ClockLaws (V : Type 0) : Type 0 where
  -- a discard holds just the writes above the context's counter
  pub above : (a : ColumnState V) (m n : ℕ) (v : V) → Holds (discard_column a m) n v → Holds a n v × (m < n)
  pub kept : (a : ColumnState V) (m n : ℕ) (v : V) → Holds a n v → m < n → Holds (discard_column a m) n v
  pub discard_legal : (a : ColumnState V) (m : ℕ) → Legal a → m ≤ last_counter → Legal (discard_column a m)
  -- a push holds the new write under the next counter, and what was held
  pub newest : (a : ColumnState V) (v : V) → Holds (push v a) (a.top + 1) v
  pub older : (a : ColumnState V) (v : V) (n : ℕ) (x : V) → Holds a n x → Holds (push v a) n x
  pub nothing_else : (a : ColumnState V) (v : V) (n : ℕ) (x : V) → Holds (push v a) n x → ((n ≡ a.top + 1) × (x ≡ v)) ⊎ Holds a n x
  pub push_legal : (a : ColumnState V) (v : V) → Legal a → length a.values < most_siblings → a.top < last_counter → Legal (push v a)
