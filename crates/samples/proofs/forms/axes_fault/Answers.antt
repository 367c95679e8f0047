-- The numbers tell what is left: no path, one weight, a coordinate for each axis, and last all in [0, 1], in the model's order.
use mathlib.Core.Path.{refl, sym, ◌∙◌}
use Prim.Native.Nat.{◌+◌, ◌-◌}
use native.Mathlib.Omega.{arith}
use borrow.Author.Tests.{eq-eqb, ne_eqb}
use lib.ListN.{get_or}
use lib.Ieee.{nan}
use Rattle.axis.specs.Edges.{in_unit}
use Rattle.lent.specs.Trained.{form_fault, all_in_unit}
use Rattle.lent.proofs.Fitting.{none_left, one_left, many-left}
use Rattle.samples.proofs.forms.axes_fault.Goals as goal

pub returns-then-depth-s : goal.returns-then-depth-s
unfolding form_fault
returns-then-depth-s c = rw (one_left 0 c.args.s.now.path c.args.depth c.args.s.now.levels c.if-depth-s.true)

pub returns-then-s-depth : goal.returns-then-s-depth
unfolding form_fault
returns-then-s-depth c = rw ((none_left 0 c.args.s.now.path c.args.depth c.args.s.now.levels c.if-depth-s.false), (many-left nan c.args.s.now.weights c.args.depth (c.args.s.now.given - c.args.depth)), ne_eqb (c.args.s.now.given - c.args.depth) 1 (λ z. c.if-s-depth.true (omega (arith, z))))

pub returns-then-s-table : goal.returns-then-s-table
unfolding form_fault
returns-then-s-table c = rw ((none_left 0 c.args.s.now.path c.args.depth c.args.s.now.levels c.if-depth-s.false), (many-left nan c.args.s.now.weights c.args.depth (c.args.s.now.given - c.args.depth)), (eq-eqb (c.args.s.now.given - c.args.depth) 1 (omega (arith, c.if-s-depth.false))), (many-left nan c.args.s.now.coordinates 0 c.args.s.now.axes), ne_eqb c.args.s.now.axes (get_or c.args.table.now (c.args.w + 2) 0) c.if-s-table.true)

pub returns-then-not-are_all : goal.returns-then-not-are_all
unfolding form_fault all_in_unit
returns-then-not-are_all c = rw ((none_left 0 c.args.s.now.path c.args.depth c.args.s.now.levels c.if-depth-s.false), (many-left nan c.args.s.now.weights c.args.depth (c.args.s.now.given - c.args.depth)), (eq-eqb (c.args.s.now.given - c.args.depth) 1 (omega (arith, c.if-s-depth.false))), (many-left nan c.args.s.now.coordinates 0 c.args.s.now.axes), eq-eqb c.args.s.now.axes (get_or c.args.table.now (c.args.w + 2) 0) c.if-s-table.false, sym (c.are_all.ensures in_unit (λ x b e. e) all_in_unit refl (λ x xs. refl)) ∙ c.if-not-are_all.true)

pub returns : goal.returns
unfolding form_fault all_in_unit
returns c = rw ((none_left 0 c.args.s.now.path c.args.depth c.args.s.now.levels c.if-depth-s.false), (many-left nan c.args.s.now.weights c.args.depth (c.args.s.now.given - c.args.depth)), (eq-eqb (c.args.s.now.given - c.args.depth) 1 (omega (arith, c.if-s-depth.false))), (many-left nan c.args.s.now.coordinates 0 c.args.s.now.axes), eq-eqb c.args.s.now.axes (get_or c.args.table.now (c.args.w + 2) 0) c.if-s-table.false, sym (c.are_all.ensures in_unit (λ x b e. e) all_in_unit refl (λ x xs. refl)) ∙ c.if-not-are_all.false)
