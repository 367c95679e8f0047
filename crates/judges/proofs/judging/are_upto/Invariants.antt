-- What was found before and what is left stay the answer for the whole.
use mathlib.Core.Path.{◌≡◌}
use mathlib.Core.Bool.{◌&&◌}
use lib.Dec.{leb}
use lib.ListN.{drop}
use Rattle.lent.specs.Judged.{all_upto}
use Rattle.judges.proofs.judging.are_upto.Given as goal

abbrev pub invariant-loop-value : goal.invariant-loop-value
invariant-loop-value l = (l.ok && all_upto l.most (drop l.value-index l.values)) ≡ ((leb 1 l.bins && leb l.bins l.most) && all_upto l.most l.values)
