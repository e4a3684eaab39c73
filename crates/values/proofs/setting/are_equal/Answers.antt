use Rattle.values.proofs.setting.are_equal.Goals as goal

pub returns : goal.returns
returns c = c.eq.ensures.same
