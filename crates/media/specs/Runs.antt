-- Many saves on one medium. Assumes nothing.
use Rattle.std.specs.Prelude.{◌≡◌, ℕ, ◌+◌, ◌-◌, Bool, cond, ◌&&◌, List, [], ◌∷◌, length, take, drop, Some, None, Ok, Err, Option, Result, ◌==◌, is_ok, nat_lt}
use Rattle.std.specs.Option.{option_map, option_or}
use Rattle.refusals.specs.declared.Refusal.{Refusal}
use Rattle.refusals.specs.declared.Refusal.TheVariants.{ShortMemory}
use Rattle.media.specs.declared.orders.Order.{Order}
use Rattle.media.specs.Media.{Frames, Takes, admitted}

-- ---- what was tried

-- a save, and what came of it: what an accepted one took from left
pub record Tried : Type 0 where
  pub key : ℕ
  pub frame : List ℕ
  pub answer : Result ℕ Refusal

abbrev pub tried : List ℕ → Order → Result ℕ Refusal → Tried
tried frames o a = record { key = o.key; frame = take o.length (drop o.start frames); answer = a }

abbrev pub tried_all : List ℕ → List Order → List (Result ℕ Refusal) → List Tried
tried_all frames [] answers = []
tried_all frames (o ∷ os) [] = []
tried_all frames (o ∷ os) (a ∷ answers) = tried frames o a ∷ tried_all frames os answers

-- there is to be an answer for each order
abbrev pub enough : ℕ → ℕ → Result (Unit {0}) Refusal
enough orders answers = cond (nat_lt answers orders) (Err ShortMemory) (Ok tt)

-- ---- what came of it

abbrev pub reply : Result ℕ Refusal → Result (Unit {0}) Refusal
reply (Ok n) = Ok tt
reply (Err e) = Err e

abbrev pub took : Result ℕ Refusal → ℕ
took (Ok n) = n
took (Err e) = 0

abbrev pub all_took : List Tried → ℕ
all_took [] = 0
all_took (t ∷ ts) = took t.answer + all_took ts

-- ---- the law

-- the last one that passes the test
abbrev pub last_where : {A : Type 0} → (A → Bool) → List A → Option A
last_where test [] = None
last_where test (a ∷ rest) = option_or (last_where test rest) (cond (test a) (Some a) None)

-- the frame of a key's last accepted save
abbrev pub last_accepted : ℕ → List Tried → Option (List ℕ)
last_accepted k ts = option_map (λ t. t.frame) (last_where (λ t. (k == t.key) && is_ok t.answer) ts)

-- one save is answered by what is left
abbrev pub Answered : ℕ → Tried → Type 0
Answered left t = (reply t.answer ≡ admitted t.key (length t.frame) left) × Takes (reply t.answer) (length t.frame) (took t.answer)

-- each save is answered by what those before it left
abbrev pub AllAnswered : ℕ → List Tried → Type 0
AllAnswered left [] = Unit {0}
AllAnswered left (t ∷ ts) = Answered left t × AllAnswered (left - took t.answer) ts

-- Saves on a medium: its frames and left before them and after them.
pub record Ran (newest : Frames) (left : ℕ) (ts : List Tried) (newest' : Frames) (left' : ℕ) : Type 0 where
  pub answered : AllAnswered left ts
  pub frames : (k : ℕ) → newest' k ≡ option_or (last_accepted k ts) (newest k)
  pub falls : left ≡ left' + all_took ts

abbrev pub Done : Frames → ℕ → Tried → Frames → ℕ → Type 0
Done newest left t newest' left' = Ran newest left (t ∷ []) newest' left'
