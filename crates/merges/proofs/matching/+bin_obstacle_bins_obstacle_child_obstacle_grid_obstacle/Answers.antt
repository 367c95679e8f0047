-- What was found so far, joined with what the bins that are left come to, is what all of them come to.
use mathlib.Core.Path.{sym, ap, ap₂, ◌∙◌}
use native.Mathlib.Omega.{arith}
use Rattle.model.specs.Sound.{sound}
use Rattle.lent.specs.Tree.{head_at}
use Rattle.lent.specs.Lent.{head_in}
use Rattle.lent.specs.Sampled.{ChildLaid}
use mathlib.Core.Bool.{true}
use Rattle.lent.specs.Matched.{obstacle, grid_obstacle}
use Rattle.lent.proofs.Laid.{laid-axes, laid-bins, laid-head}
use Rattle.lent.proofs.Sounds.{node-axes, node-bins}
use Rattle.lent.proofs.Samples.{sound-in, sound-below, child-sound}
use Rattle.lent.proofs.Matches.{own-sound, head-sound, bin-room, bin-joined, going-begin, going_on, going-out, many-differ, both-none, first-none, second_none, both-there, first-axes, second-axes}
use Rattle.merges.proofs.matching.+bin_obstacle_bins_obstacle_child_obstacle_grid_obstacle.Goals as goal

pub bin_obstacle-bin_own_obstacle-own-requires : goal.bin_obstacle-bin_own_obstacle-own-requires
bin_obstacle-bin_own_obstacle-own-requires t c = (bin-room _ _ _ _ _ _ c.requires.0 c.requires.2, bin-room _ _ _ _ _ _ c.requires.1 c.requires.3, own-sound _ _ c.requires.4, own-sound _ _ c.requires.5)

pub bin_obstacle-child_obstacle-below-requires : goal.bin_obstacle-child_obstacle-below-requires
unfolding ChildLaid
bin_obstacle-child_obstacle-below-requires t c = (omega (arith, c.decreases), (c.requires.0.children c.args.i c.requires.2, c.requires.1.children c.args.i c.requires.3, sound-below _ _ c.requires.4, sound-below _ _ c.requires.5))

pub bin_obstacle-returns : goal.bin_obstacle-returns
bin_obstacle-returns t c = bin-joined _ _ _ _ _ _ _ c.bin_own_obstacle-own.ensures c.child_obstacle-below.ensures c.worse.ensures

pub bins_obstacle-returns-then-n-many : goal.bins_obstacle-returns-then-n-many
bins_obstacle-returns-then-n-many t c = many-differ _ _ _ _ _ _ _ _ _ _ _ _ _ (head_in c.args.o c.args.v) c.if-n-many.true

pub bins_obstacle-account_fits-fits-requires : goal.bins_obstacle-account_fits-fits-requires
unfolding head_at
bins_obstacle-account_fits-fits-requires t c = (omega (arith, c.requires.0, c.requires.1), omega (arith, c.requires.0, c.requires.1), omega (arith, c.requires.0, c.requires.1), omega (arith, c.requires.0, c.requires.1), head-sound _ _ c.requires.2, head-sound _ _ c.requires.3)

pub bins_obstacle-loop-i-init : goal.bins_obstacle-loop-i-init
unfolding head_at
bins_obstacle-loop-i-init t c = going-begin _ _ _ _ _ _ _ _ _ _ _ _ _ _ _ c.if-n-many.false (c.found_of-found.ensures ∙ ap (obstacle true true) c.account_fits-fits.ensures)

pub bins_obstacle-bin_obstacle-here-requires : goal.bins_obstacle-bin_obstacle-here-requires
bins_obstacle-bin_obstacle-here-requires t c = (omega (arith, c.decreases), (c.requires.0, c.requires.1, c.loop-i-test.true, omega (arith, c.if-n-many.false, c.loop-i-test.true), sound-in _ _ _ _ _ _ _ c.loop-i.i c.loop-i-test.true c.requires.2, sound-in _ _ _ _ _ _ _ c.loop-i.i (omega (arith, c.if-n-many.false, c.loop-i-test.true)) c.requires.3))

pub bins_obstacle-loop-i-preserved : goal.bins_obstacle-loop-i-preserved
bins_obstacle-loop-i-preserved t c = going_on _ _ _ _ _ _ _ _ _ _ _ _ _ _ _ _ c.loop-i-test.true c.loop-i.invariant c.bin_obstacle-here.ensures c.worse-found.ensures

pub bins_obstacle-returns : goal.bins_obstacle-returns
bins_obstacle-returns t c = going-out _ _ _ _ _ _ _ _ _ _ _ _ _ _ c.loop-i-test.false c.loop-i.invariant

pub child_obstacle-returns-then-far-eq0 : goal.child_obstacle-returns-then-far-eq0
child_obstacle-returns-then-far-eq0 t c = both-none _ _ _ _ c.if-link-eq0.true c.if-far-eq0.true

pub child_obstacle-returns-then-link-eq0 : goal.child_obstacle-returns-then-link-eq0
child_obstacle-returns-then-link-eq0 t c = first-none _ _ _ _ c.if-link-eq0.true c.if-far-eq0.false

pub child_obstacle-returns-then-far-eq0-2 : goal.child_obstacle-returns-then-far-eq0-2
child_obstacle-returns-then-far-eq0-2 t c = second_none _ _ _ _ c.if-link-eq0.false c.if-far-eq0-2.true

pub child_obstacle-grid_obstacle-requires : goal.child_obstacle-grid_obstacle-requires
unfolding ChildLaid
child_obstacle-grid_obstacle-requires t c = (omega (arith, c.decreases), (c.requires.0 c.if-link-eq0.false, c.requires.1 c.if-far-eq0-2.false, child-sound _ _ c.if-link-eq0.false c.requires.2, child-sound _ _ c.if-far-eq0-2.false c.requires.3))

pub child_obstacle-returns : goal.child_obstacle-returns
child_obstacle-returns t c = c.grid_obstacle.ensures ∙ both-there _ _ _ _ c.if-link-eq0.false c.if-far-eq0-2.false

pub grid_obstacle-axes_obstacle-requires : goal.grid_obstacle-axes_obstacle-requires
grid_obstacle-axes_obstacle-requires t c = (laid-axes _ _ _ _ _ c.requires.0 c.if-m-w-eq1.true, laid-axes _ _ _ _ _ c.requires.1 c.if-o-v-eq1.true, sym (ap sound (node-axes c.args.level c.args.m.table.now _ _ c.args.w c.if-m-w-eq1.true)) ∙ c.requires.2, sym (ap sound (node-axes c.args.level c.args.o.table.now _ _ c.args.v c.if-o-v-eq1.true)) ∙ c.requires.3)

pub grid_obstacle-returns-then-o-v-eq1 : goal.grid_obstacle-returns-then-o-v-eq1
grid_obstacle-returns-then-o-v-eq1 t c = c.axes_obstacle.ensures ∙ sym (ap₂ grid_obstacle (node-axes c.args.level c.args.m.table.now _ _ c.args.w c.if-m-w-eq1.true) (node-axes c.args.level c.args.o.table.now _ _ c.args.v c.if-o-v-eq1.true))

pub grid_obstacle-returns-then-m-w-eq1 : goal.grid_obstacle-returns-then-m-w-eq1
grid_obstacle-returns-then-m-w-eq1 t c = first-axes _ _ _ _ _ _ _ _ _ c.if-m-w-eq1.true c.if-o-v-eq1.false (laid-bins _ _ _ _ _ c.requires.1 c.if-o-v-eq1.false).level

pub grid_obstacle-returns-then-o-v-eq1-2 : goal.grid_obstacle-returns-then-o-v-eq1-2
grid_obstacle-returns-then-o-v-eq1-2 t c = second-axes _ _ _ _ _ _ _ _ _ c.if-m-w-eq1.false c.if-o-v-eq1-2.true (laid-bins _ _ _ _ _ c.requires.0 c.if-m-w-eq1.false).level

pub grid_obstacle-bins_obstacle-requires : goal.grid_obstacle-bins_obstacle-requires
grid_obstacle-bins_obstacle-requires t c = let d = (laid-bins _ _ _ _ _ c.requires.0 c.if-m-w-eq1.false) in let e = laid-bins _ _ _ _ _ c.requires.1 c.if-o-v-eq1-2.false in (omega (arith, c.decreases, d.level), (d.bins, e.bins, sym (ap sound (node-bins c.args.level c.args.m.table.now _ _ c.args.w c.if-m-w-eq1.false (laid-bins _ _ _ _ _ c.requires.0 c.if-m-w-eq1.false).level)) ∙ c.requires.2, sym (ap sound (node-bins c.args.level c.args.o.table.now _ _ c.args.v c.if-o-v-eq1-2.false e.level)) ∙ c.requires.3))

pub grid_obstacle-returns : goal.grid_obstacle-returns
grid_obstacle-returns t c = c.bins_obstacle.ensures ∙ sym (ap₂ grid_obstacle (node-bins c.args.level c.args.m.table.now _ _ c.args.w c.if-m-w-eq1.false (laid-bins _ _ _ _ _ c.requires.0 c.if-m-w-eq1.false).level) (node-bins c.args.level c.args.o.table.now _ _ c.args.v c.if-o-v-eq1-2.false (laid-bins _ _ _ _ _ c.requires.0 c.if-m-w-eq1.false).level))

pub grid_obstacle-bounds-m-w : goal.grid_obstacle-bounds-m-w
grid_obstacle-bounds-m-w t c = omega (arith, laid-head _ _ _ _ _ c.requires.0)

pub grid_obstacle-bounds-o-v : goal.grid_obstacle-bounds-o-v
grid_obstacle-bounds-o-v t c = omega (arith, laid-head _ _ _ _ _ c.requires.1)

pub grid_obstacle-offset_bounds-o-v : goal.grid_obstacle-offset_bounds-o-v
grid_obstacle-offset_bounds-o-v t c = omega (arith, laid-head _ _ _ _ _ c.requires.1)

pub grid_obstacle-offset_bounds-o-v-2 : goal.grid_obstacle-offset_bounds-o-v-2
grid_obstacle-offset_bounds-o-v-2 t c = omega (arith, laid-head _ _ _ _ _ c.requires.1)

pub grid_obstacle-offset_bounds-m-w : goal.grid_obstacle-offset_bounds-m-w
grid_obstacle-offset_bounds-m-w t c = omega (arith, laid-head _ _ _ _ _ c.requires.0)

pub grid_obstacle-bounds-o-v-2 : goal.grid_obstacle-bounds-o-v-2
grid_obstacle-bounds-o-v-2 t c = omega (arith, laid-head _ _ _ _ _ c.requires.1)

pub grid_obstacle-overflow_sub-level : goal.grid_obstacle-overflow_sub-level
grid_obstacle-overflow_sub-level t c = omega (arith, (laid-bins _ _ _ _ _ c.requires.0 c.if-m-w-eq1.false).level)
