-- What is asked of the seats, and what they answer. Assumes nothing.
use Rattle.std.specs.Prelude.{ℕ, ◌+◌, Bool, true, false, cond, ◌&&◌, List, Some, None, Option, ◌==◌, nat_lt}
use Rattle.refusals.specs.declared.Refusal.{Refusal}
use Rattle.dvvset.specs.declared.writes.Dot.{Dot}
use Rattle.dvvset.specs.declared.writes.Sibling.{Sibling}

-- A call of the list is named by its number, the first being 0.

-- What a put or a delete has seen: nothing, or what the get of this number did, at any seat, for the same key.
pub data Context : Type 0 where
  blind : Context
  seen_at : ℕ → Context

-- What a save spends: nothing, or the receipt of the put of this number, of the same seat, key and life, if it is the seat's last put there and not yet spent.
pub data Receipt : Type 0 where
  no_receipt : Receipt
  receipt_of : ℕ → Receipt

-- Each is of a seat, 0 to 5, and all but restart of a key, 0 to 15.
pub data Call (V : Type 0) : Type 0 where
  get : ℕ → ℕ → Call V
  put : ℕ → ℕ → Context → V → Call V
  delete : ℕ → ℕ → Context → Call V
  send : ℕ → ℕ → Call V
  -- with the number of the send that gave the frame
  deliver : ℕ → ℕ → ℕ → Call V
  -- with what is left on the seat's medium
  save : ℕ → ℕ → Receipt → ℕ → Call V
  restart : ℕ → Call V

pub data Answer (V : Type 0) : Type 0 where
  -- of a put: the dot of the new write
  wrote : Dot → Answer V
  -- of a get: the siblings, and the bytes of the context
  got : List (Sibling V) → List ℕ → Answer V
  -- of a send: the bytes of the frame
  sent : List ℕ → Answer V
  -- of a delete, a deliver or a save
  done : Answer V
  -- of a restart
  live : Answer V
  mute : Answer V
  refused_by : Refusal → Answer V
  -- of a call that names no seat or no key, a get, send or put that did not give what the call takes, or a put at a mute seat
  misnamed : Answer V

-- a seat and a key
abbrev pub named : ℕ → ℕ → Bool
named s k = nat_lt s 6 && nat_lt k 16

-- ---- tables by number, and by seat and key

-- f with x at i
abbrev pub set_at : {A : Type 0} → (ℕ → A) → ℕ → A → ℕ → A
set_at f i x j = cond (j == i) x (f j)

-- f with x at the seat s and the key k
abbrev pub set_key : {A : Type 0} → (ℕ → ℕ → A) → ℕ → ℕ → A → ℕ → ℕ → A
set_key f s k x = set_at f s (set_at (f s) k x)

-- ---- lives and receipts

-- the life after a restart: 4 is the last, in which the seat is mute
abbrev pub next_life : ℕ → ℕ
next_life n = cond (nat_lt n 4) (n + 1) n

-- no receipt, or that of the put that is owed a save
abbrev pub spendable : Receipt → Option ℕ → Bool
spendable no_receipt o = true
spendable (receipt_of t) None = false
spendable (receipt_of t) (Some n) = t == n

abbrev pub spend : Receipt → ℕ → ℕ → (ℕ → ℕ → Option ℕ) → ℕ → ℕ → Option ℕ
spend no_receipt s k f = f
spend (receipt_of t) s k f = set_key f s k None
