-- `renewal::update_each` meets its contract: what is left to update, with what was found, stays the whole.
use native.Mathlib.Omega.{arith}
use Rattle.lent.specs.Layout.{axis_reals, axis_counts}
use Rattle.lent.specs.Memory.{memory}
use mathlib.Core.Path.{refl, ◌∙◌}
use Rattle.lent.specs.Renewed.{update_all_at}
use Rattle.lent.proofs.Changes.{going-first, going_done, going-held, going-here, going_next}
use Rattle.updates.proofs.renewal.update_each.Goals as goal

pub loop-init : goal.loop-init
loop-init c = (going-first c.args.rule c.args.values.now c.args.rate c.args.g.most c.args.reals.now c.args.counts.now c.args.g.axes c.args.g.reals c.args.g.counts c.requires.0.2, refl, refl)

pub update_axis-requires : goal.update_axis-requires
unfolding axis_reals axis_counts
update_axis-requires c = let taken = c.loop-test.true in
    let whole = update_all_at c.args.rule c.args.values.now c.args.rate c.args.g.most c.args.g.axes c.args.g.reals c.args.g.counts (memory c.args.reals.now c.args.counts.now) in
    let here = going-here c.args.rule c.args.values.now c.args.rate c.args.g.most c.args.reals.now c.args.counts.now c.args.g.axes whole c.loop.reals c.loop.counts c.loop.found.eight c.loop.found.nine c.loop.r c.loop.c c.loop.counter c.loop.invariant.0 taken in
    let held = going-held c.args.rule c.args.values.now c.args.rate c.args.g.most c.args.reals.now c.args.counts.now c.args.g.axes whole c.loop.reals c.loop.counts c.loop.found.eight c.loop.found.nine c.loop.r c.loop.c c.loop.counter c.loop.invariant.0 taken in
    ((held, c.requires.0.1, here.room, here.places), c.requires.1, omega (arith, c.requires.2, c.loop.invariant.1), omega (arith, c.requires.3, c.loop.invariant.2))

pub overflow_add-r : goal.overflow_add-r
overflow_add-r c = let whole = update_all_at c.args.rule c.args.values.now c.args.rate c.args.g.most c.args.g.axes c.args.g.reals c.args.g.counts (memory c.args.reals.now c.args.counts.now) in
    let here = going-here c.args.rule c.args.values.now c.args.rate c.args.g.most c.args.reals.now c.args.counts.now c.args.g.axes whole c.loop.reals c.loop.counts c.loop.found.eight c.loop.found.nine c.loop.r c.loop.c c.loop.counter c.loop.invariant.0 c.loop-test.true in
    omega (arith, here.room, c.requires.0.1)

pub overflow_add-c : goal.overflow_add-c
overflow_add-c c = let whole = update_all_at c.args.rule c.args.values.now c.args.rate c.args.g.most c.args.g.axes c.args.g.reals c.args.g.counts (memory c.args.reals.now c.args.counts.now) in
    let here = going-here c.args.rule c.args.values.now c.args.rate c.args.g.most c.args.reals.now c.args.counts.now c.args.g.axes whole c.loop.reals c.loop.counts c.loop.found.eight c.loop.found.nine c.loop.r c.loop.c c.loop.counter c.loop.invariant.0 c.loop-test.true in
    omega (arith, here.places, c.requires.0.1)

pub loop-preserved : goal.loop-preserved
unfolding axis_reals axis_counts
loop-preserved c = let whole = update_all_at c.args.rule c.args.values.now c.args.rate c.args.g.most c.args.g.axes c.args.g.reals c.args.g.counts (memory c.args.reals.now c.args.counts.now) in
    (going_next c.args.rule c.args.values.now c.args.rate c.args.g.most c.args.reals.now c.args.counts.now c.args.g.axes whole c.loop.reals c.loop.counts c.loop.found.eight c.loop.found.nine c.loop.r c.loop.c c.loop.counter c.loop.invariant.0 c.loop-test.true c.requires.1 c.update_axis.result c.bitor_assign.new.self c.update_axis.new.reals c.update_axis.new.counts c.update_axis.ensures c.bitor_assign.ensures.after, c.update_axis.auto.importances ∙ c.loop.invariant.1, c.update_axis.auto.counters ∙ c.loop.invariant.2)

pub returns : goal.returns
returns c = let whole = update_all_at c.args.rule c.args.values.now c.args.rate c.args.g.most c.args.g.axes c.args.g.reals c.args.g.counts (memory c.args.reals.now c.args.counts.now) in
    going_done c.args.rule c.args.values.now c.args.rate c.args.g.most c.args.reals.now c.args.counts.now c.args.g.axes whole c.loop.reals c.loop.counts c.loop.found.eight c.loop.found.nine c.loop.r c.loop.c c.loop.counter c.loop.invariant.0 c.loop-test.false
