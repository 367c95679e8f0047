-- `laying::lay_axes` meets its contract: what is left to lay on the memory now is all of it on the memory at entry.
use native.Mathlib.Numerals.{unary_clauses}
use native.Mathlib.Omega.{arith}
use Rattle.lent.specs.Layout.{axis_reals, axis_counts}
use mathlib.Core.Path.{refl, sym, ◌∙◌}
use lib.ListN.{length}
use Rattle.lent.specs.Memory.{memory}
use Rattle.lent.specs.Laid.{lay_at}
use Rattle.lent.proofs.Lays.{room_next, over-next, over_done}
use Rattle.quiet.proofs.laying.lay_axes.Goals as goal

pub loop-done-init : goal.loop-done-init
loop-done-init c = (omega arith, simp unary_clauses c.requires.3, simp unary_clauses c.requires.4, refl, refl, simp unary_clauses)

pub lay_axis-requires : goal.lay_axis-requires
lay_axis-requires c = let taken = c.loop-done-test.true in let room = room_next c.args.g.axes c.loop-done.done (axis_reals c.args.g.most) c.loop-done.r (length c.args.reals.now) taken c.loop-done.invariant.1 in let places = room_next c.args.g.axes c.loop-done.done (axis_counts c.args.g.most) c.loop-done.c (length c.args.counts.now) taken c.loop-done.invariant.2 in (c.requires.1, c.requires.2, omega (arith, room.0, c.loop-done.invariant.3), omega (arith, places.0, c.loop-done.invariant.4))

pub overflow_mul-r : goal.overflow_mul-r
unfolding axis_reals axis_counts
overflow_mul-r c = let taken = c.loop-done-test.true in let room = room_next c.args.g.axes c.loop-done.done (axis_reals c.args.g.most) c.loop-done.r (length c.args.reals.now) taken c.loop-done.invariant.1 in let places = room_next c.args.g.axes c.loop-done.done (axis_counts c.args.g.most) c.loop-done.c (length c.args.counts.now) taken c.loop-done.invariant.2 in omega (arith, c.requires, c.loop-done.invariant, room, places)

pub overflow_add-r : goal.overflow_add-r
unfolding axis_reals axis_counts
overflow_add-r c = let taken = c.loop-done-test.true in let room = room_next c.args.g.axes c.loop-done.done (axis_reals c.args.g.most) c.loop-done.r (length c.args.reals.now) taken c.loop-done.invariant.1 in let places = room_next c.args.g.axes c.loop-done.done (axis_counts c.args.g.most) c.loop-done.c (length c.args.counts.now) taken c.loop-done.invariant.2 in omega (arith, c.requires, c.loop-done.invariant, room, places)

pub overflow_add-r-in-loop-done : goal.overflow_add-r-in-loop-done
unfolding axis_reals axis_counts
overflow_add-r-in-loop-done c = let taken = c.loop-done-test.true in let room = room_next c.args.g.axes c.loop-done.done (axis_reals c.args.g.most) c.loop-done.r (length c.args.reals.now) taken c.loop-done.invariant.1 in let places = room_next c.args.g.axes c.loop-done.done (axis_counts c.args.g.most) c.loop-done.c (length c.args.counts.now) taken c.loop-done.invariant.2 in omega (arith, c.requires, c.loop-done.invariant, room, places)

pub overflow_mul-c : goal.overflow_mul-c
unfolding axis_reals axis_counts
overflow_mul-c c = let taken = c.loop-done-test.true in let room = room_next c.args.g.axes c.loop-done.done (axis_reals c.args.g.most) c.loop-done.r (length c.args.reals.now) taken c.loop-done.invariant.1 in let places = room_next c.args.g.axes c.loop-done.done (axis_counts c.args.g.most) c.loop-done.c (length c.args.counts.now) taken c.loop-done.invariant.2 in omega (arith, c.requires, c.loop-done.invariant, room, places)

pub overflow_add-c : goal.overflow_add-c
unfolding axis_reals axis_counts
overflow_add-c c = let taken = c.loop-done-test.true in let room = room_next c.args.g.axes c.loop-done.done (axis_reals c.args.g.most) c.loop-done.r (length c.args.reals.now) taken c.loop-done.invariant.1 in let places = room_next c.args.g.axes c.loop-done.done (axis_counts c.args.g.most) c.loop-done.c (length c.args.counts.now) taken c.loop-done.invariant.2 in omega (arith, c.requires, c.loop-done.invariant, room, places)

pub overflow_add-c-in-loop-done : goal.overflow_add-c-in-loop-done
unfolding axis_reals axis_counts
overflow_add-c-in-loop-done c = let taken = c.loop-done-test.true in let room = room_next c.args.g.axes c.loop-done.done (axis_reals c.args.g.most) c.loop-done.r (length c.args.reals.now) taken c.loop-done.invariant.1 in let places = room_next c.args.g.axes c.loop-done.done (axis_counts c.args.g.most) c.loop-done.c (length c.args.counts.now) taken c.loop-done.invariant.2 in omega (arith, c.requires, c.loop-done.invariant, room, places)

pub loop-done-preserved : goal.loop-done-preserved
unfolding axis_reals axis_counts
loop-done-preserved c = let taken = c.loop-done-test.true in let room = room_next c.args.g.axes c.loop-done.done (axis_reals c.args.g.most) c.loop-done.r (length c.args.reals.now) taken c.loop-done.invariant.1 in let places = room_next c.args.g.axes c.loop-done.done (axis_counts c.args.g.most) c.loop-done.c (length c.args.counts.now) taken c.loop-done.invariant.2 in (omega arith, room.1, places.1, c.lay_axis.auto.reals ∙ c.loop-done.invariant.3, c.lay_axis.auto.counts ∙ c.loop-done.invariant.4, over-next (lay_at c.args.g.most) c.args.g.most c.args.g.axes c.loop-done.done c.loop-done.r c.loop-done.c c.args.n (memory c.loop-done.reals c.loop-done.counts) _ taken c.lay_axis.ensures ∙ c.loop-done.invariant.5)

pub shape_of-reals : goal.shape_of-reals
shape_of-reals c = c.loop-done.invariant.3

pub shape_of-counts : goal.shape_of-counts
shape_of-counts c = c.loop-done.invariant.4

pub returns : goal.returns
returns c = sym (over_done (lay_at c.args.g.most) c.args.g.most c.args.g.axes c.loop-done.done c.loop-done.r c.loop-done.c c.args.n _ c.loop-done-test.false) ∙ c.loop-done.invariant.5
