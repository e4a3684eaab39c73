use Rattle.std.proofs.Common.{arith}
use Rattle.host.proofs.Both.{check_near}
use Rattle.host.proofs.exports.zabrusko_check_frame.Goals as goal

pub code_of-requires : goal.code_of-requires
code_of-requires c = omega (arith, check_near c.args.frame.now c.in-Err.e c.in-Err.ensures)
