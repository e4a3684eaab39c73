use Rattle.std.proofs.Common.{rules}
use Rattle.clock.specs.Memory.{no_row}
use Rattle.clock.specs.Calls.{Remains}
use Rattle.clock.proofs.Arrays.{get_or_from_fn}
use Rattle.clock.proofs.keys.discard_rows.Goals as goal

pub returns : goal.returns
returns c i h = get_or_from_fn _ _ (Remains c.args.rows.now c.args.context.now.tops) (λ j r q s. search rules) c.from_fn.result 24 i no_row c.from_fn.ensures.items h
