use Rattle.formats.proofs.Logs.{held, holding}
use Rattle.formats.proofs.one_log.Goals as goal

pub returns : goal.returns
returns c = record { of_entries = holding; of_bytes = held }
