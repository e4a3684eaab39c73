use Rattle.std.proofs.Common.{replicate, refl}
use Rattle.replay.proofs.Contexts.{context_written}
use Rattle.replay.proofs.answers.ReadingDisplay.fmt.Goals as goal

pub unwrap-length-requires : goal.unwrap-length-requires
unwrap-length-requires g c =
    let x = c.args.self.now in
    rw c.write_context.ensures.answer (context_written x.key x.context.tops (replicate 196 0) x.keys x.context.wide refl)
