-- `adapting::find_raws` meets its contract: the raw probabilities written with those of the bins left are those of all.
use mathlib.Core.Path.{sym, ap, ◌∙◌}
use native.Mathlib.Omega.{arith}
use lib.ListN.{length-set}
use Rattle.model.specs.Update.{raw_of}
use Rattle.lent.specs.Memory.{memory}
use Rattle.updates.specs.Own.{bin_own}
use Rattle.updates.proofs.Own.{raws-next, raws-done}
use Rattle.updates.proofs.adapting.find_raws.Goals as goal

pub loop-i-preserved : goal.loop-i-preserved
unfolding bin_own
loop-i-preserved c = (simp length-set c.loop-i.invariant.0, raws-next c.args.b c.args.b.bins (memory c.args.reals.now c.args.counts.now) c.loop-i.i c.loop-i.raws c.raw_of.result (omega (arith, c.loop-i-test.true, c.loop-i.invariant.0)) c.loop-i.invariant.0 (c.raw_of.ensures ∙ ap (raw_of c.args.b.averages) c.load-own.ensures) ∙ c.loop-i.invariant.1)

pub returns : goal.returns
returns c = sym (raws-done c.args.b c.args.b.bins (memory c.args.reals.now c.args.counts.now) c.loop-i.i c.loop-i.raws (omega (arith, c.loop-i-test.false, c.loop-i.invariant.0)) c.loop-i.invariant.0) ∙ c.loop-i.invariant.1
