use Rattle.std.proofs.Common.{sym, arith}
use Rattle.scenario.proofs.Padded.{padded_label}
use Rattle.scenario.proofs.labels.padded.Goals as goal

pub returns : goal.returns
returns c = padded_label c.args.word.now c.copy_from_slice.new.self c.copy_from_slice.ensures.after (omega arith) (omega arith) (sym c.if-not-is_printable.ensures)
