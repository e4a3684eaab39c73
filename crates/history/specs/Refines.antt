-- The theorem: whatever list of calls is made, dotted version vector sets answer as the plain machine does, and are what it shows. Assumes nothing.
use Rattle.std.specs.Prelude.{◌≡◌, ℕ, ◌+◌, ◌*◌, ◌<◌, ◌≤◌, false, List, [], ◌∷◌, ◌++◌, slice_index_or}
use Rattle.std.specs.List.{ContainsAt as Has, AllByRecursion}
use Rattle.dvvset.specs.Clock.{LegalState}
use Rattle.history.specs.Events.{Write, Event, Events, writes, held, highest, in_order}
use Rattle.history.specs.Calls.{Receipt, Call, save, sent, done, misnamed}
use Rattle.history.specs.Shown.{shown, frame_bytes}
use Rattle.history.specs.Machine.{context_of, frame_of, World, own, step, after, answers, start}
use Rattle.history.specs.Clocks.{ClockWorld, clock_after, clock_answers, clock_start}

-- each element of xs is one of ys
abbrev pub Within : {A : Type 0} → List A → List A → Type 0
Within xs ys = AllByRecursion (Has ys) xs

abbrev pub SameMembers : {A : Type 0} → List A → List A → Type 0
SameMembers xs ys = Within xs ys × Within ys xs

-- A set of key k that a seat knows or has saved, or that a get or a send handed out, however long ago.
pub data InPlay {V : Type 0} (w : World V) (k : ℕ) (K : Events V) : Type 0 where
  is_known : (s : ℕ) → w.known s k ≡ K → InPlay w k K
  is_kept : (s : ℕ) → w.kept s k ≡ K → InPlay w k K
  was_seen : (t : ℕ) → w.given t ≡ context_of k K → InPlay w k K
  was_sent : (t : ℕ) → w.given t ≡ frame_of k K → InPlay w k K

-- What holds of the machine after every list of calls.
pub record Sane {V : Type 0} (w : World V) : Type 0 where
  -- the number of a call names one event
  pub one_event : (j k : ℕ) (K L : Events V) → InPlay w j K → InPlay w k L → (d e : Event V) → Has K d → Has L e → d.made_at ≡ e.made_at → d ≡ e
  -- a dot names one write, whoever knows it
  pub one_write : (k : ℕ) (K L : Events V) → InPlay w k K → InPlay w k L → (x y : Write V) → Has (writes K) x → Has (writes L) y → x.column ≡ y.column → x.counter ≡ y.counter → x ≡ y
  -- sets with the same members show the same, and so have the same bytes
  pub same_shown : (k : ℕ) (K L : Events V) → InPlay w k K → InPlay w k L → SameMembers K L → shown K ≡ shown L
  -- what is listed is what is held
  pub all_listed : (k : ℕ) (K : Events V) → InPlay w k K → SameMembers (in_order (held K)) (held K)
  -- nothing that can be delivered or seen has a higher counter in a seat's own column than the seat knows
  pub own_top : (s k : ℕ) (K : Events V) → w.life s < 4 → InPlay w k K → highest (own w s) (writes K) ≤ highest (own w s) (writes (w.known s k))
  -- and nothing has a write in the column of a life to come
  pub unwritten : (s l k : ℕ) (K : Events V) → w.life s < l → l < 4 → InPlay w k K → highest (4 * s + l) (writes K) ≡ 0
  -- what is saved is known
  pub kept_known : (s k : ℕ) → Within (w.kept s k) (w.known s k)
  -- and nothing is, before an accepted save
  pub unsaved : (s k : ℕ) → w.saved s k ≡ false → w.kept s k ≡ []
  -- no life after the fifth
  pub last_life : (s : ℕ) → w.life s ≤ 4
  -- at most four values to a column, and no counter above 999,999
  pub legal : (k : ℕ) (K : Events V) → InPlay w k K → LegalState (shown K)

-- The clock's world D is what the machine's world w shows.
pub record Shows {V : Type 0} (D : ClockWorld V) (w : World V) : Type 0 where
  pub lives : (s : ℕ) → D.life s ≡ w.life s
  pub known : (s k : ℕ) → D.known s k ≡ shown (w.known s k)
  pub kept : (s k : ℕ) → D.kept s k ≡ shown (w.kept s k)

pub record Refined {V : Type 0} (bytes_of : V → List ℕ) (calls : List (Call V)) : Type 0 where
  pub same_answers : clock_answers bytes_of clock_start calls ≡ answers bytes_of start calls
  pub shows : Shows (clock_after bytes_of clock_start calls) (after bytes_of start calls)
  pub sane : Sane (after bytes_of start calls)
  -- what a send handed out is what it answered
  pub sent_bytes : (t k : ℕ) (K : Events V) → (after bytes_of start calls).given t ≡ frame_of k K → slice_index_or (answers bytes_of start calls) t misnamed ≡ sent (frame_bytes bytes_of k K)
  -- sends of one key, at any seats and times, that knew the same gave the same bytes
  pub equal_bytes : (t u k : ℕ) (K L : Events V) → (after bytes_of start calls).given t ≡ frame_of k K → (after bytes_of start calls).given u ≡ frame_of k L → SameMembers K L
      → slice_index_or (answers bytes_of start calls) t misnamed ≡ slice_index_or (answers bytes_of start calls) u misnamed

-- What a seat knew at an accepted save of a key it knows ever after.
abbrev pub NothingForgotten : {V : Type 0} → (V → List ℕ) → Type 0
NothingForgotten {V} bytes_of =
    (before more : List (Call V)) (s k : ℕ) (r : Receipt) (left : ℕ) → (step bytes_of (after bytes_of start before) (save s k r left)).answer ≡ done
    → Within ((after bytes_of start before).known s k) ((after bytes_of start (before ++ save s k r left ∷ more)).known s k)

pub record Refines (V : Type 0) : Type 0 where
  pub refined : (bytes_of : V → List ℕ) (calls : List (Call V)) → Refined bytes_of calls
  pub nothing_forgotten : (bytes_of : V → List ℕ) → NothingForgotten bytes_of
