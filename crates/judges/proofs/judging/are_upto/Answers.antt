-- What was found before and what is left stay the answer for the whole.
use mathlib.Core.Path.{sym, ◌∙◌}
use Rattle.lent.specs.Judged.{all_upto}
use Rattle.lent.proofs.Rooms.{upto-on, upto-out}
use Rattle.judges.proofs.judging.are_upto.Goals as goal

pub loop-value-preserved : goal.loop-value-preserved
loop-value-preserved c = upto-on c.args.most c.args.values.now c.loop-value.value-index c.loop-value.ok c.loop-value-test.true ∙ c.loop-value.invariant

pub returns : goal.returns
unfolding all_upto
returns c = sym (upto-out c.args.most c.args.values.now c.loop-value.value-index c.loop-value.ok c.loop-value-test.false) ∙ c.loop-value.invariant
