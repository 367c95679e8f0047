-- `adapting::are_idle` meets its contract: what holds of the bins so far and of those left holds of all.
use mathlib.Core.Path.{sym, ap, ◌∙◌}
use Rattle.model.specs.Update.{idle}
use Rattle.lent.specs.Memory.{memory}
use Rattle.updates.specs.Own.{bin_own}
use Rattle.updates.proofs.Own.{idle-next, idle-done}
use Rattle.updates.proofs.adapting.are_idle.Goals as goal

pub loop-i-preserved : goal.loop-i-preserved
unfolding bin_own
loop-i-preserved c = (idle-next c.args.b c.args.b.bins (memory c.args.reals.now c.args.counts.now) c.loop-i.i c.loop-i.all c.is_idle-all.result c.loop-i-test.true (c.is_idle-all.ensures ∙ ap (idle c.args.b.averages) c.load-own.ensures) ∙ c.loop-i.invariant)

pub returns : goal.returns
returns c = sym (idle-done c.args.b c.args.b.bins (memory c.args.reals.now c.args.counts.now) c.loop-i.i c.loop-i.all c.loop-i-test.false) ∙ c.loop-i.invariant
