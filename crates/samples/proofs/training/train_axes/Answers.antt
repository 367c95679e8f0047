-- Each given bin is a cell of its axis, and its training keeps to that axis: what is asked of the others is asked still.
use mathlib.Core.Path.{◌≡◌, refl, sym, ap, ap₂, ◌∙◌, subst}
use Prim.Native.Nat.{◌+◌, ◌-◌, ◌*◌, ◌≤◌}
use native.Mathlib.Omega.{arith}
use lib.ListN.{length, get_or}
use Rattle.lent.specs.Memory.{Memory, memory, over_axes, Asked}
use Rattle.lent.specs.Sampled.{entries}
use Rattle.lent.specs.Trained.{trained_at, Cell}
use Rattle.lent.proofs.Trains.{trained-out, given-cell, given-on, trained-on}
use Rattle.samples.proofs.training.train_axes.Goals as goal
use Rattle.samples.proofs.training.train_axes.Goals.{In-loop-done}

pub loop-done-init : goal.loop-done-init
loop-done-init c = let e : c.args.g.axes - 0 ≡ c.args.g.axes = omega arith in
    (omega arith, refl, refl, rw e c.requires.2, rw e)

-- in the loop the given bin is a cell of its axis
cell : (c : In-loop-done) → Cell c.args.g.most c.loop-done.at c.loop-done.place (get_or c.args.spots.now c.loop-done.done 0) (memory c.loop-done.reals c.loop-done.counts)
cell c = given-cell c.args.g.most c.args.g.axes c.args.v c.args.spots.now c.loop-done.done c.loop-done.at c.loop-done.place (memory c.loop-done.reals c.loop-done.counts) c.loop-done-test.true c.loop-done.invariant.3

-- so there is room for the axis
room : (c : In-loop-done) → (c.loop-done.at + (6 * c.args.g.most + 1) ≤ length c.args.reals.now) × (c.loop-done.place + (3 * c.args.g.most + 2) ≤ length c.args.counts.now)
room c = let n = cell c in (omega (arith, n.room, c.loop-done.invariant.1), omega (arith, n.places, c.loop-done.invariant.2))

pub train_reals-requires : goal.train_reals-requires
train_reals-requires c = let n = cell (goal.at.train_reals-requires c).In-loop-done in (c.requires.1, omega (arith, n.bin, n.held), n.room)

pub train_counts-requires : goal.train_counts-requires
train_counts-requires c = let n = cell (goal.at.train_counts-requires c).In-loop-done in (c.requires.1, omega (arith, n.bin, n.held), n.places, n.waiting, n.zeros)

pub loop-done-preserved : goal.loop-done-preserved
unfolding trained_at
loop-done-preserved c = let left = entries 0 c.args.spots.now (c.loop-done.done + 1) (c.args.g.axes - (c.loop-done.done + 1)) in
    let at = c.loop-done.at + (6 * c.args.g.most + 1) in
    let place = c.loop-done.place + (3 * c.args.g.most + 2) in
    let now-is = ap₂ memory c.train_reals.ensures c.train_counts.ensures in (
      omega (arith, c.loop-done-test.true),
      c.train_reals.auto.reals ∙ c.loop-done.invariant.1,
      c.train_counts.auto.counts ∙ c.loop-done.invariant.2,
      subst (λ (t : Memory). Asked (Cell c.args.g.most) c.args.g.most left at place t) (sym now-is) (given-on c.args.g.most c.args.g.axes c.args.v c.args.spots.now c.loop-done.done c.loop-done.at c.loop-done.place (memory c.loop-done.reals c.loop-done.counts) c.loop-done-test.true c.loop-done.invariant.3),
      ap (λ (t : Memory). over_axes (trained_at c.args.g.most c.args.v) c.args.g.most left at place t) now-is ∙ trained-on c.args.g.most c.args.g.axes c.args.v c.args.spots.now c.loop-done.done c.loop-done.at c.loop-done.place (memory c.loop-done.reals c.loop-done.counts) c.loop-done-test.true c.loop-done.invariant.3 ∙ c.loop-done.invariant.4,
    )

pub shape_of-reals : goal.shape_of-reals
shape_of-reals c = c.loop-done.invariant.1

pub shape_of-counts : goal.shape_of-counts
shape_of-counts c = c.loop-done.invariant.2

pub returns : goal.returns
returns c = sym (trained-out c.args.g.most c.args.g.axes c.args.v c.args.spots.now c.loop-done.done c.loop-done.at c.loop-done.place (memory c.loop-done.reals c.loop-done.counts) (omega (arith, c.loop-done-test.false))) ∙ c.loop-done.invariant.4

pub overflow_add-at-in-loop-done : goal.overflow_add-at-in-loop-done
overflow_add-at-in-loop-done c = omega (arith, room (goal.at.overflow_add-at-in-loop-done c).In-loop-done)

pub overflow_add-place-in-loop-done : goal.overflow_add-place-in-loop-done
overflow_add-place-in-loop-done c = omega (arith, room (goal.at.overflow_add-place-in-loop-done c).In-loop-done)
