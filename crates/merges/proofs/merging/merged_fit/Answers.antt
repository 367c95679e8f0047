-- `merging::merged_fit` meets its contract: what was found and what is left of both grids stay the answer for them all.
use native.Mathlib.Omega.{arith}
use mathlib.Core.Path.{sym, ◌∙◌}
use Rattle.lent.specs.Layout.{axis_reals, axis_counts}
use Rattle.lent.proofs.First.{first, stands_on, one_less}
use Rattle.lent.proofs.Merges.{paired, pairs-on, kept-first, kept_on, fit_next, fit-out}
use Rattle.merges.proofs.merging.merged_fit.Goals as goal

pub first_fits-ok-requires : goal.first_fits-ok-requires
unfolding axis_reals axis_counts
first_fits-ok-requires c = let p = paired c.args.reals.now c.args.counts.now c.args.theirs.now c.args.tallies.now c.loop-left.left c.loop-left.right c.loop-left-test.true c.loop-left.invariant.2 in let n = first c.args.reals.now c.args.counts.now c.loop-left.left c.loop-left-test.true c.loop-left.invariant.0 in let m = first c.args.theirs.now c.args.tallies.now c.loop-left.right p.there c.loop-left.invariant.1 in ((n.held, n.few, n.room, n.places), (omega (arith, p.held, m.held), m.few, m.room, m.places), p.held, (kept-first c.args.reals.now c.args.counts.now c.loop-left.left c.loop-left-test.true c.loop-left.invariant.3).0, (kept-first c.args.theirs.now c.args.tallies.now c.loop-left.right p.there c.loop-left.invariant.4).0)

pub after_first-left-requires : goal.after_first-left-requires
unfolding axis_reals axis_counts
after_first-left-requires c = let n = first c.args.reals.now c.args.counts.now c.loop-left.left c.loop-left-test.true c.loop-left.invariant.0 in (c.loop-left-test.true, n.few, omega arith, omega arith)

pub after_first-right-requires : goal.after_first-right-requires
unfolding axis_reals axis_counts
after_first-right-requires c = let p = paired c.args.reals.now c.args.counts.now c.args.theirs.now c.args.tallies.now c.loop-left.left c.loop-left.right c.loop-left-test.true c.loop-left.invariant.2 in let m = first c.args.theirs.now c.args.tallies.now c.loop-left.right p.there c.loop-left.invariant.1 in (p.there, m.few, omega arith, omega arith)

pub loop-left-preserved : goal.loop-left-preserved
loop-left-preserved c = let p = paired c.args.reals.now c.args.counts.now c.args.theirs.now c.args.tallies.now c.loop-left.left c.loop-left.right c.loop-left-test.true c.loop-left.invariant.2 in (
  stands_on _ _ _ _ c.loop-left-test.true c.loop-left.invariant.0 c.after_first-left.ensures,
  stands_on _ _ _ _ p.there c.loop-left.invariant.1 c.after_first-right.ensures,
  pairs-on _ _ _ _ _ _ _ _ c.loop-left-test.true c.loop-left.invariant.2 c.after_first-left.ensures c.after_first-right.ensures,
  kept_on _ _ _ _ c.loop-left-test.true c.loop-left.invariant.3 c.after_first-left.ensures,
  kept_on _ _ _ _ p.there c.loop-left.invariant.4 c.after_first-right.ensures,
  fit_next c.args.reals.now c.args.counts.now c.args.theirs.now c.args.tallies.now c.loop-left.left c.loop-left.right c.after_first-left.result c.after_first-right.result c.loop-left.ok c.first_fits-ok.result c.loop-left-test.true c.loop-left.invariant.2 c.after_first-left.ensures c.after_first-right.ensures c.first_fits-ok.ensures ∙ c.loop-left.invariant.5,
)

pub returns : goal.returns
returns c = sym (fit-out c.args.reals.now c.args.counts.now c.args.theirs.now c.args.tallies.now c.loop-left.left c.loop-left.right c.loop-left.ok c.loop-left-test.false) ∙ c.loop-left.invariant.5

pub loop-left-smaller : goal.loop-left-smaller
loop-left-smaller c = omega (arith, one_less c.loop-left.left c.after_first-left.result c.after_first-left.ensures, c.loop-left-test.true)
