-- What a call leaves of a session. Assumes nothing.
use Rattle.std.specs.Prelude.{◌≡◌, ℕ, ◌+◌, ◌^◌, ◌<◌, List, [], replicate, take, Some, None, Ok, Err, MatchResult, Option, Result, slice_get, vec_items}
use Rattle.std.specs.Global.{Vec}
use Rattle.std.specs.Option.{option_map}
use Rattle.refusals.specs.declared.Refusal.{Refusal}
use Rattle.clock.specs.declared.contexts.Context.{Context}
use Rattle.media.specs.Slots.{frames_of, slots_left}
use Rattle.media.specs.declared.slot.Slots.{Slots}
use Rattle.replay.specs.Gifts.{given, giving}
use Rattle.replay.specs.Keys.{Changes, Fails, Sends, Tells, delete_on, deliver_on, no_state, put_on}
use Rattle.scenario.specs.Parsing.{Fault}
use Rattle.replay.specs.Places.{there}
use Rattle.replay.specs.Saves.{AllFresh, Holds, Keeps}
use Rattle.replay.specs.declared.answers.Answer.{Answer}
use Rattle.replay.specs.declared.answers.Answer.TheVariants.{Written, Done, Seen, Sent, Saved}
use Rattle.replay.specs.declared.answers.Frame.{Frame}
use Rattle.replay.specs.declared.answers.Made.{Made}
use Rattle.replay.specs.declared.answers.Reading.{Reading}
use Rattle.scenario.specs.declared.calls.Action.{Action}
use Rattle.scenario.specs.declared.calls.Action.TheVariants.{Put, Delete, Get, Send, Save, Deliver}
use Rattle.scenario.specs.declared.calls.Call.{Call}
use Rattle.scenario.specs.declared.calls.Spot.{Spot}
use Rattle.replay.specs.declared.cockpit.KeyState.{KeyState}
use Rattle.replay.specs.declared.errors.Failure.{Failure}
use Rattle.replay.specs.declared.errors.Failure.TheVariants.{Refused, Unmade}
use Rattle.replay.specs.declared.errors.NotMade.{NotMade}
use Rattle.replay.specs.declared.errors.NotMade.TheVariants.{NoSuchGet, NoSuchSend, OutOfMemory}
use Rattle.replay.specs.declared.history.Gift.{Gift}
use Rattle.replay.specs.declared.seat_media.Holding.{Holding}
use Rattle.replay.specs.declared.session.Session.{Session}

abbrev pub states_of : Session → List KeyState
states_of s = s.cockpit.states.items

abbrev pub media_of : Session → List Slots
media_of s = s.media.slots.items

abbrev pub gets_of : Session → List (Gift Context)
gets_of s = vec_items s.gets.gifts

-- the bytes in use of each frame
abbrev pub sends_of : Session → List (Gift (Vec ℕ))
sends_of s = vec_items s.sends.gifts

-- the bytes of the frame that the call with this number gave, if it was a send of this key
abbrev pub bytes_given : Session → ℕ → ℕ → Option (List ℕ)
bytes_given s call key = option_map (λ f. f.items) (given (sends_of s) call key)

abbrev pub Fresh : Session → Type 0
Fresh s = (states_of s ≡ replicate 96 no_state) × AllFresh (media_of s) × (gets_of s ≡ []) × (sends_of s ≡ []) × (s.calls ≡ 0)

-- ---- the get that a call names

-- the tops that a call has seen, where it may name a get: none where the one that it names gave nothing
abbrev pub tops_of : Session → Option ℕ → ℕ → Option (List ℕ)
tops_of s None key = Some (replicate 24 0)
tops_of s (Some call) key = option_map (λ c. c.tops) (given (gets_of s) call key)

-- A call that is not made names no get of its key.
abbrev pub UnknownGet : Session → Option ℕ → ℕ → NotMade → Type 0
UnknownGet s named key why = (call : ℕ) × (named ≡ Some call) × (why ≡ NoSuchGet call key) × (given (gets_of s) call key ≡ None)

abbrev pub Names : Session → Option ℕ → ℕ → Result Context NotMade → Type 0
Names s named key r = MatchResult r (λ c. tops_of s named key ≡ Some c.tops) (UnknownGet s named key)

-- ---- a call that is made

-- the context that an answer gives
abbrev pub context_gift : Result Answer Refusal → Option Context
context_gift (Ok (Written d)) = None
context_gift (Ok Done) = None
context_gift (Ok (Seen x)) = Some x.context
context_gift (Ok (Sent x)) = None
context_gift (Ok (Saved x)) = None
context_gift (Err e) = None

-- the frame that an answer gives
abbrev pub frame_gift : Result Answer Refusal → Option (List ℕ)
frame_gift (Ok (Written d)) = None
frame_gift (Ok Done) = None
frame_gift (Ok (Seen x)) = None
frame_gift (Ok (Sent x)) = Some (take x.length x.bytes)
frame_gift (Ok (Saved x)) = None
frame_gift (Err e) = None

-- The answer r is one of a kind of answers, and what it holds has P; or it is a refusal that has P.
abbrev pub Comes : {A : Type 0} → (A → Answer) → Result Answer Refusal → (Result A Refusal → Type 0) → Type 0
Comes {A} kind (Ok a) P = (x : A) × (a ≡ kind x) × P (Ok x)
Comes kind (Err e) P = P (Err e)

-- What an action comes to: what it leaves of the states and the media, and its answer.
abbrev pub Acts : Spot → Action → Session → Session → Result Answer Refusal → Type 0
Acts at (Put v named) s s' r =
    (media_of s' ≡ media_of s) × ((C : List ℕ) × (tops_of s named at.key ≡ Some C) × Comes Written r (Changes at (there at) (put_on at C v) (states_of s) (states_of s')))
Acts at (Delete named) s s' r =
    (media_of s' ≡ media_of s) × ((C : List ℕ) × (tops_of s named at.key ≡ Some C) × Comes (λ u. Done) r (Changes at (there at) (delete_on C) (states_of s) (states_of s')))
Acts at (Deliver call) s s' r =
    (media_of s' ≡ media_of s) × ((f : List ℕ) × (bytes_given s call at.key ≡ Some f) × Comes (λ key. Done) r (Changes at (there at) (deliver_on f) (states_of s) (states_of s')))
Acts at Get s s' r =
    (media_of s' ≡ media_of s) × (states_of s' ≡ states_of s)
    × MatchResult r (λ a. (x : Reading) × (a ≡ Seen x) × Tells at (states_of s) (Ok x)) (Fails at)
Acts at Send s s' r =
    (media_of s' ≡ media_of s) × (states_of s' ≡ states_of s)
    × MatchResult r (λ a. (f : Frame) × (a ≡ Sent f) × Sends at (states_of s) (Ok f)) (Fails at)
Acts at Save s s' r =
    (states_of s' ≡ states_of s)
    × MatchResult r (λ a. (f : Frame) × (h : Holding) × (m : Slots) × (a ≡ Saved h) × Sends at (states_of s) (Ok f)
    × Keeps at.seat at.key (take f.length f.bytes) (media_of s) (media_of s') (Ok tt) × (slice_get (media_of s') at.seat ≡ Some m) × Holds (frames_of m.slots) slots_left h)
    (λ e. Fails at e × (media_of s' ≡ media_of s))

-- What a call leaves that is made, with its number.
pub record Plays (call : Call) (number : ℕ) (s s' : Session) (r : Result Answer Refusal) : Type 0 where
  pub acts : Acts call.at call.action s s' r
  pub gets : (c k : ℕ) → given (gets_of s') c k ≡ giving number call.at.key (context_gift r) (given (gets_of s)) c k
  pub sends : (c k : ℕ) → bytes_given s' c k ≡ giving number call.at.key (frame_gift r) (bytes_given s) c k

-- ---- any call

-- whether an action names the get, or the send, with this number
abbrev pub NamesGet : Action → ℕ → Type 0
NamesGet (Put v named) n = named ≡ Some n
NamesGet (Delete named) n = named ≡ Some n
NamesGet (Deliver call) n = ⊥
NamesGet Get n = ⊥
NamesGet Send n = ⊥
NamesGet Save n = ⊥

abbrev pub NamesSend : Action → ℕ → Type 0
NamesSend (Put v named) n = ⊥
NamesSend (Delete named) n = ⊥
NamesSend (Deliver call) n = call ≡ n
NamesSend Get n = ⊥
NamesSend Send n = ⊥
NamesSend Save n = ⊥

-- A call that is not made names no get or send of its key, and leaves all as it was. Memory may run out after a change.
abbrev pub Leaves : Call → Session → Session → NotMade → Type 0
Leaves c s s' (NoSuchGet n key) = (key ≡ c.at.key) × NamesGet c.action n × (given (gets_of s) n key ≡ None) × (s' ≡ s)
Leaves c s s' (NoSuchSend n key) = (key ≡ c.at.key) × NamesSend c.action n × (given (sends_of s) n key ≡ None) × (s' ≡ s)
Leaves c s s' (OutOfMemory e) = Unit {0}

abbrev pub Answers : Call → ℕ → Session → Session → Result Answer Failure → Type 0
Answers call number s s' (Ok a) = Plays call number s s' (Ok a)
Answers call number s s' (Err (Refused e)) = Plays call number s s' (Err e)
Answers call number s s' (Err (Unmade why)) = Leaves call s s' why

-- A call that is made has the next number.
abbrev pub Makes : Call → Session → Session → Result Made NotMade → Type 0
Makes call s s' (Ok m) = (m.number ≡ s'.calls) × (s.calls + 1 < 2 ^ 64 → m.number ≡ s.calls + 1) × Plays call m.number s s' m.answer
Makes call s s' (Err why) = Leaves call s s' why

-- ---- a line

-- not for want of memory
abbrev pub Settled : Result Made NotMade → Type 0
Settled (Ok m) = Unit {0}
Settled (Err (NoSuchGet n key)) = Unit {0}
Settled (Err (NoSuchSend n key)) = Unit {0}
Settled (Err (OutOfMemory e)) = ⊥

-- A comment, a blank line and a bad line leave all as it was. A call is made, or names nothing.
abbrev pub PlaysLine : Result (Option Call) Fault → Session → Session → Type 0
PlaysLine (Ok None) s s' = s' ≡ s
PlaysLine (Ok (Some call)) s s' = (r : Result Made NotMade) × Settled r × Makes call s s' r
PlaysLine (Err e) s s' = s' ≡ s
