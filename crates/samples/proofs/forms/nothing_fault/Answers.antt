-- Path, weights and coordinates have nothing left exactly where their numbers are used up, tested in the model's order.
use native.Mathlib.Omega.{arith}
use lib.Ieee.{nan}
use Rattle.lent.specs.Trained.{nothing_fault}
use Rattle.lent.proofs.Fitting.{none_left, one_left, some_first, none_first}
use Rattle.samples.proofs.forms.nothing_fault.Goals as goal

pub returns-then-depth-s : goal.returns-then-depth-s
unfolding nothing_fault
returns-then-depth-s c = rw (one_left 0 c.args.s.now.path c.args.depth c.args.s.now.levels c.if-depth-s.true)

pub returns-then-depth-s-2 : goal.returns-then-depth-s-2
unfolding nothing_fault
returns-then-depth-s-2 c = rw ((none_left 0 c.args.s.now.path c.args.depth c.args.s.now.levels c.if-depth-s.false), one_left nan c.args.s.now.weights c.args.depth c.args.s.now.given c.if-depth-s-2.true)

pub returns-then-s-gt0 : goal.returns-then-s-gt0
unfolding nothing_fault
returns-then-s-gt0 c = rw ((none_left 0 c.args.s.now.path c.args.depth c.args.s.now.levels c.if-depth-s.false), (none_left nan c.args.s.now.weights c.args.depth c.args.s.now.given c.if-depth-s-2.false), some_first nan c.args.s.now.coordinates c.args.s.now.axes c.if-s-gt0.true)

pub returns : goal.returns
unfolding nothing_fault
returns c = rw ((none_left 0 c.args.s.now.path c.args.depth c.args.s.now.levels c.if-depth-s.false), (none_left nan c.args.s.now.weights c.args.depth c.args.s.now.given c.if-depth-s-2.false), none_first nan c.args.s.now.coordinates c.args.s.now.axes (omega (arith, c.if-s-gt0.false)))
