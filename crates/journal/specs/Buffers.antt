-- What becomes of a buffer that is to be a journal. Assumes nothing.
use Rattle.std.specs.Prelude.{ℕ, cond, ◌&&◌, List, length, replicate, Ok, Err, Result, nat_le}
use Rattle.refusals.specs.declared.Refusal.{Refusal}
use Rattle.refusals.specs.declared.Refusal.TheVariants.{ShortMemory}
use Rattle.formats.specs.Entries.{opening}
use Rattle.journal.specs.declared.journals.Journal.{Journal}
use Rattle.journal.specs.declared.journals.Unopened.{Unopened}

-- the bytes of the journal, or why there is none and the bytes
abbrev pub Buffer : Type 0
Buffer = Result (List ℕ) (Refusal × List ℕ)

abbrev pub handed_back : Result Journal Unopened → Buffer
handed_back (Ok j) = Ok j.bytes.now
handed_back (Err u) = Err (u.why, u.bytes.now)

abbrev pub opened : List ℕ → Buffer
opened bs = elim (opening bs) [ Ok es ↦ Ok bs | Err e ↦ Err (e, bs) ]

abbrev pub emptied : List ℕ → Buffer
emptied bs = cond (nat_le 1760 (length bs) && nat_le (length bs) 65536) (Ok (replicate (length bs) 0)) (Err (ShortMemory, bs))
