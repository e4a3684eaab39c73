-- What a save leaves of the media of the seats, and what a medium holds. Assumes nothing.
use Rattle.std.specs.Prelude.{◌≡◌, ℕ, ◌<◌, ◌≤◌, List, Err, Result, slice_index_or, slice_set}
use Rattle.std.specs.List.{AllByRecursion}
use Rattle.std.specs.Option.{option_map}
use Rattle.std.specs.Ordering.{nat_cmp}
use Rattle.std.specs.BTreeMap.{get}
use Rattle.refusals.specs.declared.Refusal.{Refusal}
use Rattle.refusals.specs.declared.Refusal.TheVariants.{NoSuchSeatOrKey}
use Rattle.media.specs.Media.{Frames, Fresh, Saved}
use Rattle.media.specs.Slots.{frames_of, slots_left}
use Rattle.media.specs.declared.slot.Slots.{Slots}
use Rattle.replay.specs.declared.seat_media.Holding.{Holding}

abbrev pub AllFresh : List Slots → Type 0
AllFresh ms = AllByRecursion (λ m. Fresh (frames_of m.slots) slots_left) ms

-- One medium replaced, by what the save makes of it.
pub record Keeps (seat key : ℕ) (frame : List ℕ) (ms ms' : List Slots) (r : Result (Unit {0}) Refusal) : Type 0 where
  pub no_seat : 5 < seat → (r ≡ Err NoSuchSeatOrKey) × (ms' ≡ ms)
  pub saved : seat ≤ 5 → (m : Slots) → m ≡ slice_index_or ms seat m → (m' : Slots) × (ms' ≡ slice_set ms seat m') × Saved (frames_of m.slots) slots_left key frame r (frames_of m'.slots) slots_left

-- The newest frame of each key, and what is left.
pub record Holds (newest : Frames) (left : ℕ) (h : Holding) : Type 0 where
  pub frames : (k : ℕ) → option_map (λ f. f.items) (get nat_cmp h.frames k) ≡ newest k
  pub rest : h.left ≡ left
