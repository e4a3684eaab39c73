use Rattle.std.proofs.Common.{refl}
use Rattle.dvvset.specs.Clock.{merge_column, discard_column, discard, push, put}
use Rattle.formats.specs.Reading.{reading, rising}
use Rattle.examples.proofs.worked_examples.Goals as goal

pub returns : goal.returns
unfolding merge_column discard_column discard push put reading rising
returns g _ = λ a b c p q r. record {
  blind_puts = refl;
  covering_put = refl;
  one_replaced = refl;
  all_replaced = refl;
  newer_stand = refl;
  below_top = refl;
  above_top = refl;
  fifth = refl;
  four_again = refl;
  last_accepted = refl;
  last_used = refl;
  fourth_life = refl;
  mute = refl;
  no_writes_frame = λ w value_of. refl;
  no_such_key = λ w value_of. refl;
}
