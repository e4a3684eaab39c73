use Rattle.std.specs.Result.{result_ok}
use Rattle.scenario.proofs.Numbers.{measure_is}
use Rattle.scenario.proofs.Taken.{told-ok_or}
use Rattle.scenario.specs.declared.bad_lines.Part.TheVariants.{Measure}
use Rattle.scenario.proofs.parsing.Words.measure.Goals as goal

pub returns : goal.returns
returns c =
    let h = c.read.ensures in
    rw (c.in_ok-word.ensures, measure_is c.in_ok-word.word.now h.0 h.1.0, h.2) (told-ok_or Measure c.in_ok-word.word (result_ok h.0) _)
