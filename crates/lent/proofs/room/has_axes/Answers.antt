-- The bounds on axes and bins come first, so that the products are small.
use native.Mathlib.Omega.{arith}
use borrow.Author.Tests.{le-leb, lt-leb}
use Rattle.lent.specs.Layout.{axis_reals, axis_counts, roomy_axes}
use Rattle.lent.proofs.Rooms.{few-axes}
use Rattle.lent.proofs.room.has_axes.Goals as goal

pub returns-then-most-gt1024 : goal.returns-then-most-gt1024
unfolding roomy_axes
returns-then-most-gt1024 c = rw (lt-leb _ _ c.if-most-gt1024.true)

pub returns-then-axes-gt8 : goal.returns-then-axes-gt8
unfolding roomy_axes
returns-then-axes-gt8 c = rw (le-leb _ _ c.if-most-gt1024.false, lt-leb _ _ c.if-axes-gt8.true)

pub overflow_mul-axes : goal.overflow_mul-axes
overflow_mul-axes c = let h = few-axes c.args.axes c.args.most c.if-axes-gt8.false c.if-most-gt1024.false in omega arith

pub overflow_mul-axes-2 : goal.overflow_mul-axes-2
overflow_mul-axes-2 c = let h = few-axes c.args.axes c.args.most c.if-axes-gt8.false c.if-most-gt1024.false in omega arith

pub returns : goal.returns
unfolding roomy_axes axis_reals axis_counts
returns c = rw (le-leb _ _ c.if-most-gt1024.false, le-leb _ _ c.if-axes-gt8.false, c.is_within-all.ensures, c.is_within-whole.ensures)
