-- Lists of calls with the answers that a second program worked out: tests/machine writes this file. Assumes nothing.
use Rattle.std.specs.Prelude.{◌≡◌, ℕ, List, [], ◌∷◌, map}
use Rattle.refusals.specs.declared.Refusal.TheVariants.{TooManySiblings, MediumFull}
use Rattle.dvvset.specs.declared.writes.Dot.{Dot}
use Rattle.dvvset.specs.declared.writes.Sibling.{Sibling}
use Rattle.history.specs.Calls.{blind, seen_at, no_receipt, receipt_of, Call, get, put, delete, send, deliver, save, restart, Answer, wrote, got, sent, done, live, mute, refused_by, misnamed}
use Rattle.history.specs.Machine.{answers, start}
use Rattle.history.specs.Clocks.{clock_answers, clock_start}

abbrev pub dot : ℕ → ℕ → Dot
dot c n = record { column = c; counter = n }

abbrev pub at : ℕ → ℕ → ℕ → Sibling ℕ
at c n v = record { dot = dot c n; value = v }

pub record Turn : Type 0 where
  pub asked : Call ℕ
  pub answered : Answer ℕ

abbrev pub turn : Call ℕ → Answer ℕ → Turn
turn c a = record { asked = c; answered = a }

-- two seats write at once; one hears of both, and puts in place of both
abbrev pub two_writers : List Turn
two_writers =
    turn (put 0 3 blind 10) (wrote (dot 0 1))
    ∷ turn (put 1 3 blind 20) (wrote (dot 4 1))
    ∷ turn (send 1 3) (sent (1 ∷ 0 ∷ 1 ∷ 3 ∷ 2 ∷ 0 ∷ 7 ∷ 4 ∷ 1 ∷ 0 ∷ 0 ∷ 0 ∷ 1 ∷ 20 ∷ []))
    ∷ turn (deliver 0 3 2) done
    ∷ turn (get 0 3) (got (at 0 1 10 ∷ at 4 1 20 ∷ []) (3 ∷ 0 ∷ 1 ∷ 3 ∷ 4 ∷ 0 ∷ 5 ∷ 0 ∷ 0 ∷ 0 ∷ 0 ∷ 1 ∷ 4 ∷ 0 ∷ 5 ∷ 4 ∷ 0 ∷ 0 ∷ 0 ∷ 1 ∷ []))
    ∷ turn (put 0 3 (seen_at 4) 30) (wrote (dot 0 2))
    ∷ turn (get 0 3) (got (at 0 2 30 ∷ []) (3 ∷ 0 ∷ 1 ∷ 3 ∷ 4 ∷ 0 ∷ 5 ∷ 0 ∷ 0 ∷ 0 ∷ 0 ∷ 2 ∷ 4 ∷ 0 ∷ 5 ∷ 4 ∷ 0 ∷ 0 ∷ 0 ∷ 1 ∷ []))
    ∷ []

-- a frame that comes late and twice, and what was never saved
abbrev pub late_frame : List Turn
late_frame =
    turn (put 0 2 blind 65) (wrote (dot 0 1))
    ∷ turn (put 1 2 blind 66) (wrote (dot 4 1))
    ∷ turn (send 0 2) (sent (1 ∷ 0 ∷ 1 ∷ 2 ∷ 2 ∷ 0 ∷ 7 ∷ 0 ∷ 1 ∷ 0 ∷ 0 ∷ 0 ∷ 1 ∷ 65 ∷ []))
    ∷ turn (deliver 1 2 2) done
    ∷ turn (get 1 2) (got (at 0 1 65 ∷ at 4 1 66 ∷ []) (3 ∷ 0 ∷ 1 ∷ 2 ∷ 4 ∷ 0 ∷ 5 ∷ 0 ∷ 0 ∷ 0 ∷ 0 ∷ 1 ∷ 4 ∷ 0 ∷ 5 ∷ 4 ∷ 0 ∷ 0 ∷ 0 ∷ 1 ∷ []))
    ∷ turn (put 0 2 blind 68) (wrote (dot 0 2))
    ∷ turn (put 1 2 (seen_at 4) 67) (wrote (dot 4 2))
    ∷ turn (save 1 2 (receipt_of 6) 1760) done
    ∷ turn (send 1 2) (sent (1 ∷ 0 ∷ 1 ∷ 2 ∷ 2 ∷ 0 ∷ 6 ∷ 0 ∷ 0 ∷ 0 ∷ 0 ∷ 0 ∷ 1 ∷ 2 ∷ 0 ∷ 7 ∷ 4 ∷ 1 ∷ 0 ∷ 0 ∷ 0 ∷ 2 ∷ 67 ∷ []))
    ∷ turn (deliver 0 2 8) done
    ∷ turn (deliver 1 2 2) done
    ∷ turn (get 1 2) (got (at 4 2 67 ∷ []) (3 ∷ 0 ∷ 1 ∷ 2 ∷ 4 ∷ 0 ∷ 5 ∷ 0 ∷ 0 ∷ 0 ∷ 0 ∷ 1 ∷ 4 ∷ 0 ∷ 5 ∷ 4 ∷ 0 ∷ 0 ∷ 0 ∷ 2 ∷ []))
    ∷ turn (put 1 2 blind 69) (wrote (dot 4 3))
    ∷ turn (restart 1) live
    ∷ turn (put 1 2 blind 72) (wrote (dot 5 1))
    ∷ turn (get 1 2) (got (at 4 2 67 ∷ at 5 1 72 ∷ []) (3 ∷ 0 ∷ 1 ∷ 2 ∷ 4 ∷ 0 ∷ 5 ∷ 0 ∷ 0 ∷ 0 ∷ 0 ∷ 1 ∷ 4 ∷ 0 ∷ 5 ∷ 4 ∷ 0 ∷ 0 ∷ 0 ∷ 2 ∷ 4 ∷ 0 ∷ 5 ∷ 5 ∷ 0 ∷ 0 ∷ 0 ∷ 1 ∷ []))
    ∷ turn (get 0 2) (got (at 0 2 68 ∷ at 4 2 67 ∷ []) (3 ∷ 0 ∷ 1 ∷ 2 ∷ 4 ∷ 0 ∷ 5 ∷ 0 ∷ 0 ∷ 0 ∷ 0 ∷ 2 ∷ 4 ∷ 0 ∷ 5 ∷ 4 ∷ 0 ∷ 0 ∷ 0 ∷ 2 ∷ []))
    ∷ []

-- four writes that nothing has seen, and no fifth; but one that has seen the first
abbrev pub four_siblings : List Turn
four_siblings =
    turn (put 2 0 blind 1) (wrote (dot 8 1))
    ∷ turn (get 2 0) (got (at 8 1 1 ∷ []) (3 ∷ 0 ∷ 1 ∷ 0 ∷ 4 ∷ 0 ∷ 5 ∷ 8 ∷ 0 ∷ 0 ∷ 0 ∷ 1 ∷ []))
    ∷ turn (put 2 0 blind 2) (wrote (dot 8 2))
    ∷ turn (put 2 0 blind 3) (wrote (dot 8 3))
    ∷ turn (put 2 0 blind 4) (wrote (dot 8 4))
    ∷ turn (put 2 0 blind 5) (refused_by TooManySiblings)
    ∷ turn (put 2 0 (seen_at 1) 6) (wrote (dot 8 5))
    ∷ turn (get 2 0) (got (at 8 5 6 ∷ at 8 4 4 ∷ at 8 3 3 ∷ at 8 2 2 ∷ []) (3 ∷ 0 ∷ 1 ∷ 0 ∷ 4 ∷ 0 ∷ 5 ∷ 8 ∷ 0 ∷ 0 ∷ 0 ∷ 5 ∷ []))
    ∷ []

-- a delete removes what it has seen, and not what it has not
abbrev pub deletes : List Turn
deletes =
    turn (put 3 7 blind 1) (wrote (dot 12 1))
    ∷ turn (get 3 7) (got (at 12 1 1 ∷ []) (3 ∷ 0 ∷ 1 ∷ 7 ∷ 4 ∷ 0 ∷ 5 ∷ 12 ∷ 0 ∷ 0 ∷ 0 ∷ 1 ∷ []))
    ∷ turn (put 3 7 blind 2) (wrote (dot 12 2))
    ∷ turn (delete 3 7 (seen_at 1)) done
    ∷ turn (get 3 7) (got (at 12 2 2 ∷ []) (3 ∷ 0 ∷ 1 ∷ 7 ∷ 4 ∷ 0 ∷ 5 ∷ 12 ∷ 0 ∷ 0 ∷ 0 ∷ 2 ∷ []))
    ∷ turn (delete 3 7 blind) done
    ∷ turn (get 3 7) (got (at 12 2 2 ∷ []) (3 ∷ 0 ∷ 1 ∷ 7 ∷ 4 ∷ 0 ∷ 5 ∷ 12 ∷ 0 ∷ 0 ∷ 0 ∷ 2 ∷ []))
    ∷ turn (delete 4 7 (seen_at 6)) done
    ∷ turn (get 4 7) (got [] (3 ∷ 0 ∷ 1 ∷ 7 ∷ 4 ∷ 0 ∷ 5 ∷ 12 ∷ 0 ∷ 0 ∷ 0 ∷ 2 ∷ []))
    ∷ turn (send 4 7) (sent (1 ∷ 0 ∷ 1 ∷ 7 ∷ 2 ∷ 0 ∷ 6 ∷ 12 ∷ 0 ∷ 0 ∷ 0 ∷ 0 ∷ 2 ∷ []))
    ∷ []

-- a context of another seat brings its events along
abbrev pub seen_elsewhere : List Turn
seen_elsewhere =
    turn (put 0 1 blind 1) (wrote (dot 0 1))
    ∷ turn (get 0 1) (got (at 0 1 1 ∷ []) (3 ∷ 0 ∷ 1 ∷ 1 ∷ 4 ∷ 0 ∷ 5 ∷ 0 ∷ 0 ∷ 0 ∷ 0 ∷ 1 ∷ []))
    ∷ turn (put 5 1 (seen_at 1) 2) (wrote (dot 20 1))
    ∷ turn (get 5 1) (got (at 20 1 2 ∷ []) (3 ∷ 0 ∷ 1 ∷ 1 ∷ 4 ∷ 0 ∷ 5 ∷ 0 ∷ 0 ∷ 0 ∷ 0 ∷ 1 ∷ 4 ∷ 0 ∷ 5 ∷ 20 ∷ 0 ∷ 0 ∷ 0 ∷ 1 ∷ []))
    ∷ turn (put 0 1 blind 3) (wrote (dot 0 2))
    ∷ turn (send 5 1) (sent (1 ∷ 0 ∷ 1 ∷ 1 ∷ 2 ∷ 0 ∷ 6 ∷ 0 ∷ 0 ∷ 0 ∷ 0 ∷ 0 ∷ 1 ∷ 2 ∷ 0 ∷ 7 ∷ 20 ∷ 1 ∷ 0 ∷ 0 ∷ 0 ∷ 1 ∷ 2 ∷ []))
    ∷ turn (deliver 0 1 5) done
    ∷ turn (get 0 1) (got (at 0 2 3 ∷ at 20 1 2 ∷ []) (3 ∷ 0 ∷ 1 ∷ 1 ∷ 4 ∷ 0 ∷ 5 ∷ 0 ∷ 0 ∷ 0 ∷ 0 ∷ 2 ∷ 4 ∷ 0 ∷ 5 ∷ 20 ∷ 0 ∷ 0 ∷ 0 ∷ 1 ∷ []))
    ∷ []

-- a save that just fits, and one that does not
abbrev pub full_medium : List Turn
full_medium =
    turn (save 5 15 no_receipt 8) done
    ∷ turn (save 5 15 no_receipt 7) (refused_by MediumFull)
    ∷ turn (put 5 15 blind 1) (wrote (dot 20 1))
    ∷ turn (save 5 15 (receipt_of 2) 17) (refused_by MediumFull)
    ∷ turn (save 5 15 (receipt_of 2) 18) done
    ∷ turn (put 5 15 blind 2) (wrote (dot 20 2))
    ∷ turn (save 5 15 no_receipt 18) (refused_by MediumFull)
    ∷ turn (restart 5) live
    ∷ turn (get 5 15) (got (at 20 1 1 ∷ []) (3 ∷ 0 ∷ 1 ∷ 15 ∷ 4 ∷ 0 ∷ 5 ∷ 20 ∷ 0 ∷ 0 ∷ 0 ∷ 1 ∷ []))
    ∷ []

-- a receipt is spent once, by its own seat and key, and not after a newer put or a restart
abbrev pub receipts : List Turn
receipts =
    turn (put 0 4 blind 1) (wrote (dot 0 1))
    ∷ turn (save 1 4 (receipt_of 0) 99) misnamed
    ∷ turn (save 0 5 (receipt_of 0) 99) misnamed
    ∷ turn (save 0 4 (receipt_of 0) 9) (refused_by MediumFull)
    ∷ turn (save 0 4 (receipt_of 0) 99) done
    ∷ turn (save 0 4 (receipt_of 0) 99) misnamed
    ∷ turn (put 0 4 blind 2) (wrote (dot 0 2))
    ∷ turn (put 0 4 blind 3) (wrote (dot 0 3))
    ∷ turn (save 0 4 (receipt_of 6) 99) misnamed
    ∷ turn (save 0 4 no_receipt 99) done
    ∷ turn (restart 0) live
    ∷ turn (save 0 4 (receipt_of 7) 99) misnamed
    ∷ []

-- four restarts, and the seat is mute: it puts no more, and all else goes on
abbrev pub last_life : List Turn
last_life =
    turn (restart 4) live
    ∷ turn (put 4 9 blind 1) (wrote (dot 17 1))
    ∷ turn (save 4 9 (receipt_of 1) 99) done
    ∷ turn (restart 4) live
    ∷ turn (restart 4) live
    ∷ turn (put 4 9 blind 2) (wrote (dot 19 1))
    ∷ turn (restart 4) mute
    ∷ turn (put 4 9 blind 3) misnamed
    ∷ turn (get 4 9) (got (at 17 1 1 ∷ []) (3 ∷ 0 ∷ 1 ∷ 9 ∷ 4 ∷ 0 ∷ 5 ∷ 17 ∷ 0 ∷ 0 ∷ 0 ∷ 1 ∷ []))
    ∷ turn (delete 4 9 (seen_at 8)) done
    ∷ turn (send 4 9) (sent (1 ∷ 0 ∷ 1 ∷ 9 ∷ 2 ∷ 0 ∷ 6 ∷ 17 ∷ 0 ∷ 0 ∷ 0 ∷ 0 ∷ 1 ∷ []))
    ∷ turn (restart 4) mute
    ∷ turn (get 4 9) (got (at 17 1 1 ∷ []) (3 ∷ 0 ∷ 1 ∷ 9 ∷ 4 ∷ 0 ∷ 5 ∷ 17 ∷ 0 ∷ 0 ∷ 0 ∷ 1 ∷ []))
    ∷ []

-- calls that name no seat, no key, or nothing that was given
abbrev pub misnamed_calls : List Turn
misnamed_calls =
    turn (put 6 0 blind 1) misnamed
    ∷ turn (put 0 16 blind 1) misnamed
    ∷ turn (get 0 16) misnamed
    ∷ turn (restart 6) misnamed
    ∷ turn (put 0 0 blind 1) (wrote (dot 0 1))
    ∷ turn (get 0 0) (got (at 0 1 1 ∷ []) (3 ∷ 0 ∷ 1 ∷ 0 ∷ 4 ∷ 0 ∷ 5 ∷ 0 ∷ 0 ∷ 0 ∷ 0 ∷ 1 ∷ []))
    ∷ turn (send 0 0) (sent (1 ∷ 0 ∷ 1 ∷ 0 ∷ 2 ∷ 0 ∷ 7 ∷ 0 ∷ 1 ∷ 0 ∷ 0 ∷ 0 ∷ 1 ∷ 1 ∷ []))
    ∷ turn (put 0 0 (seen_at 6) 2) misnamed
    ∷ turn (put 0 1 (seen_at 5) 2) misnamed
    ∷ turn (delete 0 0 (seen_at 99)) misnamed
    ∷ turn (deliver 1 0 5) misnamed
    ∷ turn (deliver 1 1 6) misnamed
    ∷ turn (deliver 1 0 12) misnamed
    ∷ turn (save 0 0 (receipt_of 5) 99) misnamed
    ∷ turn (get 1 0) (got [] (3 ∷ 0 ∷ 1 ∷ 0 ∷ []))
    ∷ []

abbrev pub scenarios : List (List Turn)
scenarios = two_writers ∷ late_frame ∷ four_siblings ∷ deletes ∷ seen_elsewhere ∷ full_medium ∷ receipts ∷ last_life ∷ misnamed_calls ∷ []

-- The machine gives these answers, and so do the clocks; a value is one byte.
pub record Scenarios : Type 0 where
  pub by_machine : map (λ turns. answers (λ v. v ∷ []) start (map (λ t. t.asked) turns)) scenarios ≡ map (λ turns. map (λ t. t.answered) turns) scenarios
  pub by_clocks : map (λ turns. clock_answers (λ v. v ∷ []) clock_start (map (λ t. t.asked) turns)) scenarios ≡ map (λ turns. map (λ t. t.answered) turns) scenarios
