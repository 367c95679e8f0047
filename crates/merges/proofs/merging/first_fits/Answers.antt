-- `merging::first_fits` meets its contract: the four columns decide, the rest of the axis is kept already.
use native.Mathlib.Omega.{arith}
use mathlib.Core.Path.{refl, sym}
use Rattle.lent.specs.Layout.{axis_reals, axis_counts}
use Rattle.lent.proofs.Kept.{kept-bounded, fits-columns}
use Rattle.merges.proofs.merging.first_fits.Goals as goal

pub bounds-counts-c : goal.bounds-counts-c
unfolding axis_counts
bounds-counts-c c = omega arith

pub are_finite_with-sums-requires : goal.are_finite_with-sums-requires
unfolding axis_reals
are_finite_with-sums-requires c = (omega arith, omega arith)

pub are_finite_with-squares-requires : goal.are_finite_with-squares-requires
unfolding axis_reals
are_finite_with-squares-requires c = (omega arith, omega arith)

pub are_bounded_with-waiting-requires : goal.are_bounded_with-waiting-requires
unfolding axis_reals axis_counts
are_bounded_with-waiting-requires c = let a = kept-bounded _ _ _ _ _ c.requires.0.2 c.requires.0.3 _ c.requires.0.0 refl c.requires.3 in let b = kept-bounded _ _ _ _ _ c.requires.1.2 c.requires.1.3 _ c.requires.1.0 c.requires.2 c.requires.4 in (omega arith, omega arith, a.0, b.0)

pub are_bounded_with-zeros-requires : goal.are_bounded_with-zeros-requires
unfolding axis_reals axis_counts
are_bounded_with-zeros-requires c = let a = kept-bounded _ _ _ _ _ c.requires.0.2 c.requires.0.3 _ c.requires.0.0 refl c.requires.3 in let b = kept-bounded _ _ _ _ _ c.requires.1.2 c.requires.1.3 _ c.requires.1.0 c.requires.2 c.requires.4 in (omega arith, omega arith, a.1, b.1)

pub returns : goal.returns
unfolding axis_reals axis_counts
returns c = rw (c.are_finite_with-sums.ensures, c.are_finite_with-squares.ensures, c.are_bounded_with-waiting.ensures, c.are_bounded_with-zeros.ensures) (sym (fits-columns c.args.g.most c.args.reals.now c.args.counts.now c.args.g.reals c.args.g.counts c.requires.0.2 c.requires.0.3 c.args.o.most c.args.theirs.now c.args.tallies.now c.args.o.reals c.args.o.counts c.requires.1.2 c.requires.1.3 c.requires.0.0 c.requires.1.0 c.requires.2 c.requires.3 c.requires.4))
