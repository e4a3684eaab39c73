-- What the calls leave of the states of the seats. Assumes nothing.
use Rattle.std.specs.Prelude.{◌≡◌, ℕ, ◌*◌, Bool, true, false, cond, List, ◌++◌, take, drop, replicate, pos, Err, Result, MatchResult, slice_index_or, slice_set}
use Rattle.refusals.specs.declared.Refusal.{Refusal}
use Rattle.refusals.specs.declared.Refusal.TheVariants.{NoSuchSeatOrKey}
use Rattle.values.specs.declared.setting.Setting.{Setting}
use Rattle.dvvset.specs.Clock.{State, Outcome, answer, after, context}
use Rattle.dvvset.specs.Listing.{siblings}
use Rattle.dvvset.specs.declared.writes.Dot.{Dot}
use Rattle.clock.specs.Memory.{no_row, shape, state}
use Rattle.clock.specs.Calls.{discarding, putting}
use Rattle.formats.specs.Frames.{frame, frame_length}
use Rattle.frames.specs.Taking.{merging_frame}
use Rattle.values.specs.Layouts.{setting_bytes, setting_of}
use Rattle.replay.specs.Places.{place_of, there}
use Rattle.scenario.specs.declared.calls.Spot.{Spot}
use Rattle.replay.specs.declared.answers.Frame.{Frame}
use Rattle.replay.specs.declared.answers.Reading.{Reading}
use Rattle.replay.specs.declared.cockpit.KeyState.{KeyState}

abbrev pub no_setting : Setting
no_setting = record { measure = pos 0; label = replicate 12 0 }

abbrev pub no_state : KeyState
no_state = record { rows = replicate 24 no_row; cells = replicate 96 no_setting }

-- what a seat has of a key
abbrev pub key_at : List KeyState → Spot → KeyState
key_at ks at = slice_index_or ks (place_of at) no_state

abbrev pub meaning : KeyState → State Setting
meaning k = state k.rows k.cells

-- what the calls come to on one state
abbrev pub put_on : Spot → List ℕ → Setting → KeyState → Outcome Dot (State Setting)
put_on at C v k = putting k.rows k.cells (4 * at.seat) C v

abbrev pub delete_on : List ℕ → KeyState → Outcome (Unit {0}) (State Setting)
delete_on C k = discarding k.rows k.cells C

abbrev pub deliver_on : List ℕ → KeyState → Outcome ℕ (State Setting)
deliver_on bs k = merging_frame 16 setting_of bs k.rows k.cells

-- What a call on one key of one seat leaves, where `o` is what it comes to there: its answer, and one state replaced, or all as they were where it is
-- refused.
pub record Changes {A : Type 0} (at : Spot) (inside : Bool) (o : KeyState → Outcome A (State Setting)) (ks ks' : List KeyState) (r : Result A Refusal) : Type 0 where
  pub answers : r ≡ cond inside (answer (o (key_at ks at))) (Err NoSuchSeatOrKey)
  pub states : MatchResult r (λ _. (k : KeyState) × (ks' ≡ slice_set ks (place_of at) k) × (meaning k ≡ after (meaning (key_at ks at)) (o (key_at ks at)))) (λ _. ks' ≡ ks)

-- Why a get or a send fails.
abbrev pub Fails : Spot → Refusal → Type 0
Fails at e = (there at ≡ false) × (e ≡ NoSuchSeatOrKey)

-- What a get tells: the key, its siblings, and its tops.
abbrev pub Tells : Spot → List KeyState → Result Reading Refusal → Type 0
Tells at ks r =
    MatchResult r (λ x. (there at ≡ true) × (x.key ≡ at.key) × (take x.count x.siblings ≡ siblings (meaning (key_at ks at))) × (x.context.tops ≡ context (shape (key_at ks at).rows)))
    (Fails at)

-- What a send gives: how long the frame of the state is, and the frame, with zeros behind it.
abbrev pub Sends : Spot → List KeyState → Result Frame Refusal → Type 0
Sends at ks r =
    MatchResult r (λ x. (there at ≡ true) × (x.length ≡ frame_length 16 (meaning (key_at ks at)))
    × (x.bytes ≡ frame setting_bytes at.key (meaning (key_at ks at)) ++ drop x.length (replicate 1756 0)) × (take x.length x.bytes ≡ frame setting_bytes at.key (meaning (key_at ks at))))
    (Fails at)
