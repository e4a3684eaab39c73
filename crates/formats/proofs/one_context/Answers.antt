use Rattle.std.proofs.Common.{ℕ, ◌<◌, ◌≤◌, Bool, eqb, List, length, get_or, ⊎_elim, arith}
use Rattle.std.proofs.ByRecursion.{All-get_or, All-from_get_or}
use Rattle.std.proofs.lemmas.List.{get_or_past}
use Rattle.std.proofs.lemmas.Bool.{cases_lt}
use Rattle.std.specs.List.{AllByRecursion}
use Rattle.formats.specs.Frames.{top_field, context_frame}
use Rattle.formats.specs.Reading.{top_told, context_reading}
use Rattle.formats.proofs.Tops.{kind}
use Rattle.formats.proofs.Whole.{whole_reads, whole_written, fields_short}
use Rattle.formats.proofs.one_context.Goals as goal

abbrev absent : ℕ → Bool
absent t = eqb t 0

abbrev Good : ℕ → Type 0
Good t = t ≤ 999999

low : (C : List ℕ) → AllByRecursion Good C → (c : ℕ) → get_or C c 0 ≤ 999999
low C each c = ⊎_elim (λ (h : c < length C). All-get_or Good C c 0 h each) (λ (h : length C ≤ c). omega (arith, get_or_past C c 0 h)) (cases_lt c (length C))

pub returns : goal.returns
unfolding context_frame context_reading
returns c =
    record {
      of_context = λ key C k legal. whole_reads absent top_field top_told 0 Good kind 3 key C k legal.wide (All-from_get_or Good C 0 (λ i h. legal.low i));
      of_bytes = λ bs key C b e. let w = whole_written absent top_field top_told 0 Good kind 3 bs key C b e in (w.low, record { wide = w.wide; low = low C w.each }, w.is);
      longest = λ key C legal. omega (arith, fields_short absent top_field top_told 0 Good kind 3 8 (λ i t h. omega arith) 0 C (All-from_get_or Good C 0 (λ i h. legal.low i)), legal.wide);
    }
