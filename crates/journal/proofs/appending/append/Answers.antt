use Rattle.std.proofs.Common.{◌+◌, length, drop, arith}
use Rattle.formats.specs.Entries.{entry_field}
use Rattle.journal.proofs.Appends.{closing}
use Rattle.journal.proofs.appending.append.Goals as goal

pub returns : goal.returns
returns c =
    let f = c.args.frame.now in
    closing c.write_entry.new.out (entry_field (record { key = c.args.key; frame = f })) (drop (length f + 4) c.args.out.now) c.close.new.out (length f + 4) c.write_entry.ensures (omega arith) c.close.ensures
