-- `merging::same_lengths` meets its contract: what was found and what is left of both grids stay the answer for them all.
use native.Mathlib.Omega.{arith}
use mathlib.Core.Path.{sym, ◌∙◌}
use Rattle.lent.specs.Layout.{axis_reals, axis_counts}
use Rattle.lent.proofs.First.{first, stands_on, one_less}
use Rattle.lent.proofs.Merges.{same-differ, same_next, same_out}
use Rattle.merges.proofs.merging.same_lengths.Goals as goal

pub returns-then-g-o : goal.returns-then-g-o
returns-then-g-o c = same-differ c.args.reals.now c.args.counts.now c.args.theirs.now c.args.tallies.now c.args.g c.args.o c.if-g-o.true

pub after_first-left-requires : goal.after_first-left-requires
unfolding axis_reals axis_counts
after_first-left-requires c = let n = first c.args.reals.now c.args.counts.now c.loop-left.left c.loop-left-test.true c.loop-left.invariant.0 in (c.loop-left-test.true, n.few, omega arith, omega arith)

pub after_first-right-requires : goal.after_first-right-requires
unfolding axis_reals axis_counts
after_first-right-requires c = let m = first c.args.theirs.now c.args.tallies.now c.loop-left.right (omega (arith, c.loop-left-test.true, c.loop-left.invariant.2)) c.loop-left.invariant.1 in (omega (arith, c.loop-left-test.true, c.loop-left.invariant.2), m.few, omega arith, omega arith)

pub loop-left-preserved : goal.loop-left-preserved
loop-left-preserved c = (
  stands_on _ _ _ _ c.loop-left-test.true c.loop-left.invariant.0 c.after_first-left.ensures,
  stands_on _ _ _ _ (omega (arith, c.loop-left-test.true, c.loop-left.invariant.2)) c.loop-left.invariant.1 c.after_first-right.ensures,
  omega (arith, one_less c.loop-left.left c.after_first-left.result c.after_first-left.ensures, one_less c.loop-left.right c.after_first-right.result c.after_first-right.ensures, c.loop-left.invariant.2),
  same_next c.args.reals.now c.args.counts.now c.args.theirs.now c.args.tallies.now c.loop-left.left c.loop-left.right c.after_first-left.result c.after_first-right.result c.loop-left.same c.loop-left-test.true c.loop-left.invariant.2 c.after_first-left.ensures c.after_first-right.ensures ∙ c.loop-left.invariant.3,
)

pub returns : goal.returns
returns c = sym (same_out c.args.reals.now c.args.counts.now c.args.theirs.now c.args.tallies.now c.loop-left.left c.loop-left.right c.loop-left.same c.loop-left-test.false c.loop-left.invariant.2) ∙ c.loop-left.invariant.3

pub offset_bounds-tallies-right_place : goal.offset_bounds-tallies-right_place
offset_bounds-tallies-right_place c = let n = first c.args.reals.now c.args.counts.now c.loop-left.left c.loop-left-test.true c.loop-left.invariant.0 in let m = first c.args.theirs.now c.args.tallies.now c.loop-left.right (omega (arith, c.loop-left-test.true, c.loop-left.invariant.2)) c.loop-left.invariant.1 in omega arith

pub loop-left-smaller : goal.loop-left-smaller
loop-left-smaller c = omega (arith, one_less c.loop-left.left c.after_first-left.result c.after_first-left.ensures, c.loop-left-test.true)

pub offset_bounds-counts-place : goal.offset_bounds-counts-place
offset_bounds-counts-place c = let n = first c.args.reals.now c.args.counts.now c.loop-left.left c.loop-left-test.true c.loop-left.invariant.0 in let m = first c.args.theirs.now c.args.tallies.now c.loop-left.right (omega (arith, c.loop-left-test.true, c.loop-left.invariant.2)) c.loop-left.invariant.1 in omega arith

pub bounds-tallies-right_place : goal.bounds-tallies-right_place
bounds-tallies-right_place c = let n = first c.args.reals.now c.args.counts.now c.loop-left.left c.loop-left-test.true c.loop-left.invariant.0 in let m = first c.args.theirs.now c.args.tallies.now c.loop-left.right (omega (arith, c.loop-left-test.true, c.loop-left.invariant.2)) c.loop-left.invariant.1 in omega arith

pub bounds-counts-place : goal.bounds-counts-place
bounds-counts-place c = let n = first c.args.reals.now c.args.counts.now c.loop-left.left c.loop-left-test.true c.loop-left.invariant.0 in let m = first c.args.theirs.now c.args.tallies.now c.loop-left.right (omega (arith, c.loop-left-test.true, c.loop-left.invariant.2)) c.loop-left.invariant.1 in omega arith
