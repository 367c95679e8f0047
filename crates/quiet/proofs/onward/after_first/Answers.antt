-- `onward::after_first` meets its contract: the fields of the record that the definition names.
use mathlib.Core.Path.{refl}
use Rattle.lent.specs.Layout.{axis_reals, axis_counts}
use Rattle.lent.specs.Onward.{onward}
use Rattle.quiet.proofs.onward.after_first.Goals as goal

pub returns : goal.returns
unfolding onward axis_reals axis_counts
returns c = refl
