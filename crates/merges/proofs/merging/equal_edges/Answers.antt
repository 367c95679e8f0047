-- `merging::equal_edges` meets its contract: what was found and what is left of both grids stay the answer for them all.
use native.Mathlib.Omega.{arith}
use mathlib.Core.Path.{sym, ◌∙◌}
use Rattle.lent.specs.Layout.{axis_reals, axis_counts}
use Rattle.lent.proofs.First.{first, stands_on, one_less}
use Rattle.lent.proofs.Merges.{paired, pairs-on, equal_next, equal-out}
use Rattle.merges.proofs.merging.equal_edges.Goals as goal

pub are_equal-ok-requires : goal.are_equal-ok-requires
are_equal-ok-requires c = let p = paired c.args.reals.now c.args.counts.now c.args.theirs.now c.args.tallies.now c.loop-left.left c.loop-left.right c.loop-left-test.true c.loop-left.invariant.2 in let n = first c.args.reals.now c.args.counts.now c.loop-left.left c.loop-left-test.true c.loop-left.invariant.0 in let m = first c.args.theirs.now c.args.tallies.now c.loop-left.right p.there c.loop-left.invariant.1 in (omega arith, omega arith)

pub after_first-left-requires : goal.after_first-left-requires
unfolding axis_reals axis_counts
after_first-left-requires c = let n = first c.args.reals.now c.args.counts.now c.loop-left.left c.loop-left-test.true c.loop-left.invariant.0 in (c.loop-left-test.true, n.few, omega arith, omega arith)

pub after_first-right-requires : goal.after_first-right-requires
unfolding axis_reals axis_counts
after_first-right-requires c = let p = paired c.args.reals.now c.args.counts.now c.args.theirs.now c.args.tallies.now c.loop-left.left c.loop-left.right c.loop-left-test.true c.loop-left.invariant.2 in let m = first c.args.theirs.now c.args.tallies.now c.loop-left.right p.there c.loop-left.invariant.1 in (p.there, m.few, omega arith, omega arith)

pub loop-left-preserved : goal.loop-left-preserved
loop-left-preserved c = let p = paired c.args.reals.now c.args.counts.now c.args.theirs.now c.args.tallies.now c.loop-left.left c.loop-left.right c.loop-left-test.true c.loop-left.invariant.2 in (
  stands_on _ _ _ _ c.loop-left-test.true c.loop-left.invariant.0 c.after_first-left.ensures,
  stands_on _ _ _ _ p.there c.loop-left.invariant.1 c.after_first-right.ensures,
  pairs-on _ _ _ _ _ _ _ _ c.loop-left-test.true c.loop-left.invariant.2 c.after_first-left.ensures c.after_first-right.ensures,
  equal_next c.args.reals.now c.args.counts.now c.args.theirs.now c.args.tallies.now c.loop-left.left c.loop-left.right c.after_first-left.result c.after_first-right.result c.loop-left.ok c.are_equal-ok.result c.loop-left-test.true c.loop-left.invariant.2 c.after_first-left.ensures c.after_first-right.ensures c.are_equal-ok.ensures ∙ c.loop-left.invariant.3,
)

pub returns : goal.returns
returns c = sym (equal-out c.args.reals.now c.args.counts.now c.args.theirs.now c.args.tallies.now c.loop-left.left c.loop-left.right c.loop-left.ok c.loop-left-test.false) ∙ c.loop-left.invariant.3

pub bounds-counts-place : goal.bounds-counts-place
bounds-counts-place c = let n = first c.args.reals.now c.args.counts.now c.loop-left.left c.loop-left-test.true c.loop-left.invariant.0 in omega arith

pub loop-left-smaller : goal.loop-left-smaller
loop-left-smaller c = omega (arith, one_less c.loop-left.left c.after_first-left.result c.after_first-left.ensures, c.loop-left-test.true)

pub offset_bounds-counts-place : goal.offset_bounds-counts-place
offset_bounds-counts-place c = let n = first c.args.reals.now c.args.counts.now c.loop-left.left c.loop-left-test.true c.loop-left.invariant.0 in omega arith

pub overflow_add-held : goal.overflow_add-held
overflow_add-held c = let n = first c.args.reals.now c.args.counts.now c.loop-left.left c.loop-left-test.true c.loop-left.invariant.0 in omega arith
