use Rattle.std.proofs.Common.{arith}
use Rattle.std.proofs.lemmas.Bool.Decides.{nat_tests}
use Rattle.replay.proofs.Listed.{siblings_few}
use Rattle.replay.proofs.cockpit.KeyState.reading.Goals as goal

pub unwrap-count-requires : goal.unwrap-count-requires
unwrap-count-requires c =
    let k = c.args.self.now in
    let few = siblings_few k.rows k.cells in
    grind (arith, nat_tests)
