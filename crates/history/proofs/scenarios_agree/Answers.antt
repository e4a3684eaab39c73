use Rattle.std.proofs.Common.{refl}
use Rattle.dvvset.specs.Clock.{merge_column, discard_column, push, merge, context, discard, put}
use Rattle.dvvset.specs.Listing.{siblings}
use Rattle.formats.specs.Frames.{frame, context_frame}
use Rattle.history.specs.Shown.{shown}
use Rattle.history.specs.Machine.{step}
use Rattle.history.specs.Clocks.{clock_step}
use Rattle.history.proofs.scenarios_agree.Goals as goal

pub returns : goal.returns
unfolding step shown frame context_frame clock_step merge_column discard_column push merge context discard put siblings
returns c = record { by_machine = refl; by_clocks = refl }
