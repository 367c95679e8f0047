-- Word 0 tells the kind of the root, and in either kind's head two words say where its record lies.
use native.Mathlib.Omega.{arith}
use lib.ListN.{length}
use mathlib.Core.Path.{◌∙◌}
use Rattle.lent.proofs.Laid.{laid-axes, laid-bins, laid-head}
use Rattle.lent.proofs.States.{own-axes, own-bins}
use Rattle.quiet.proofs.along.own.Goals as goal

pub returns-then-m-eq1 : goal.returns-then-m-eq1
returns-then-m-eq1 c = c.load.ensures ∙ own-axes c.args.m.table.now c.args.m.reals.now c.args.m.counts.now c.if-m-eq1.true

pub returns : goal.returns
returns c = c.load-2.ensures ∙ own-bins c.args.m.table.now c.args.m.reals.now c.args.m.counts.now c.if-m-eq1.false

pub bounds-m-0 : goal.bounds-m-0
bounds-m-0 c = let q = laid-head 4 c.args.m.table.now (length c.args.m.reals.now) (length c.args.m.counts.now) 0 c.requires in omega arith

pub bounds-m-6 : goal.bounds-m-6
bounds-m-6 c = let q = (laid-bins 4 c.args.m.table.now (length c.args.m.reals.now) (length c.args.m.counts.now) 0 c.requires c.if-m-eq1.false).bins in omega arith

pub bounds-m-9 : goal.bounds-m-9
bounds-m-9 c = let q = (laid-axes 4 c.args.m.table.now (length c.args.m.reals.now) (length c.args.m.counts.now) 0 c.requires c.if-m-eq1.true) in omega arith

pub bounds-m-10 : goal.bounds-m-10
bounds-m-10 c = let q = (laid-axes 4 c.args.m.table.now (length c.args.m.reals.now) (length c.args.m.counts.now) 0 c.requires c.if-m-eq1.true) in omega arith

pub bounds-m-5 : goal.bounds-m-5
bounds-m-5 c = let q = (laid-bins 4 c.args.m.table.now (length c.args.m.reals.now) (length c.args.m.counts.now) 0 c.requires c.if-m-eq1.false).bins in omega arith
