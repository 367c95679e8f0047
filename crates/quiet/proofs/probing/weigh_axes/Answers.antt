-- `probing::weigh_axes` meets its contract: the weight so far and what is left of the axes stay the probe of them all.
use Rattle.lent.proofs.First.{stands_on, one_less}
use native.Mathlib.Omega.{arith}
use mathlib.Core.Path.{ap, sym, ◌∙◌}
use mathlib.Core.Bool.{not}
use Rattle.doubles.proofs.Truth.{passed}
use Rattle.lent.specs.Layout.{axis_reals, axis_counts}
use Rattle.lent.specs.Probed.{coordinates_of}
use Rattle.lent.proofs.First.{first}
use Rattle.lent.proofs.Probes.{probed-stop, probed-next, probed-out}
use Rattle.lent.proofs.Draws.{asked-part}
use Rattle.quiet.proofs.probing.weigh_axes.Goals as goal

pub loop-done-init : goal.loop-done-init
unfolding coordinates_of
loop-done-init c = (c.requires.0, omega arith, rw c.requires.1)

pub returns-then-not-is_fit : goal.returns-then-not-is_fit
returns-then-not-is_fit c = sym (probed-stop c.args.reals.now c.args.counts.now c.args.p c.loop-done.left c.loop-done.done c.loop-done.weight c.is_fit.result (omega (arith, c.loop-done-test.true, c.loop-done.invariant.1)) c.is_fit.ensures (ap not c.if-not-is_fit.true)) ∙ c.loop-done.invariant.2

pub weigh_on-weight-requires : goal.weigh_on-weight-requires
weigh_on-weight-requires c = let n = first c.args.reals.now c.args.counts.now c.loop-done.left (omega (arith, c.loop-done-test.true, c.loop-done.invariant.1)) c.loop-done.invariant.0 in (asked-part c.loop-done.left.reals _ c.args.reals.now n.edges, passed c.is_fit.ensures c.if-not-is_fit.false)

pub after_first-left-requires : goal.after_first-left-requires
unfolding axis_reals axis_counts
after_first-left-requires c = let n = first c.args.reals.now c.args.counts.now c.loop-done.left (omega (arith, c.loop-done-test.true, c.loop-done.invariant.1)) c.loop-done.invariant.0 in ((omega (arith, c.loop-done-test.true, c.loop-done.invariant.1)), n.few, omega arith, omega arith)

pub loop-done-preserved : goal.loop-done-preserved
loop-done-preserved c = let e = one_less c.loop-done.left c.after_first-left.result c.after_first-left.ensures in (
  stands_on c.args.reals.now c.args.counts.now c.loop-done.left c.after_first-left.result (omega (arith, c.loop-done-test.true, c.loop-done.invariant.1)) c.loop-done.invariant.0 c.after_first-left.ensures,
  omega (arith, e, c.loop-done-test.true, c.loop-done.invariant.1),
  probed-next c.args.reals.now c.args.counts.now c.args.p c.loop-done.left c.after_first-left.result c.loop-done.done c.loop-done.weight c.weigh_on-weight.result c.is_fit.result (omega (arith, c.loop-done-test.true, c.loop-done.invariant.1)) c.after_first-left.ensures c.is_fit.ensures (ap not c.if-not-is_fit.false) c.weigh_on-weight.ensures ∙ c.loop-done.invariant.2,
)

pub returns : goal.returns
returns c = sym (probed-out c.args.reals.now c.args.counts.now c.args.p c.loop-done.left c.loop-done.done c.loop-done.weight (omega (arith, c.loop-done-test.false, c.loop-done.invariant.1))) ∙ c.loop-done.invariant.2

pub offset_bounds-counts-place : goal.offset_bounds-counts-place
offset_bounds-counts-place c = let n = first c.args.reals.now c.args.counts.now c.loop-done.left (omega (arith, c.loop-done-test.true, c.loop-done.invariant.1)) c.loop-done.invariant.0 in omega arith

pub bounds-counts-place : goal.bounds-counts-place
bounds-counts-place c = let n = first c.args.reals.now c.args.counts.now c.loop-done.left (omega (arith, c.loop-done-test.true, c.loop-done.invariant.1)) c.loop-done.invariant.0 in omega arith

pub overflow_add-end : goal.overflow_add-end
overflow_add-end c = let n = first c.args.reals.now c.args.counts.now c.loop-done.left (omega (arith, c.loop-done-test.true, c.loop-done.invariant.1)) c.loop-done.invariant.0 in omega arith

pub overflow_add-end-in-loop-done : goal.overflow_add-end-in-loop-done
overflow_add-end-in-loop-done c = let n = first c.args.reals.now c.args.counts.now c.loop-done.left (omega (arith, c.loop-done-test.true, c.loop-done.invariant.1)) c.loop-done.invariant.0 in omega arith

pub offset_bounds-reals-start : goal.offset_bounds-reals-start
offset_bounds-reals-start c = let n = first c.args.reals.now c.args.counts.now c.loop-done.left (omega (arith, c.loop-done-test.true, c.loop-done.invariant.1)) c.loop-done.invariant.0 in omega arith

pub slice_bounds-weigh_on-end : goal.slice_bounds-weigh_on-end
slice_bounds-weigh_on-end c = let n = first c.args.reals.now c.args.counts.now c.loop-done.left (omega (arith, c.loop-done-test.true, c.loop-done.invariant.1)) c.loop-done.invariant.0 in omega arith
