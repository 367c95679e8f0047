-- The coordinates drawn, followed by the walk over the axes left, are the whole walk; the places not yet written stay.
use native.Mathlib.Omega.{arith}
use mathlib.Core.Path.{◌≡◌, refl, sym, ◌∙◌}
use Prim.Native.Nat.{◌-◌}
use lib.ListN.{get_or, length-set}
use Rattle.lent.proofs.Standing.{next}
use Rattle.lent.proofs.Draws.{drawn-on, drawn-out, asked-part, asked-unit, kept_on, walk-made}
use Rattle.samples.proofs.axes.walk_axes.Goals as goal

pub loop-done-init : goal.loop-done-init
loop-done-init c = let e : c.args.g.axes - 0 ≡ c.args.g.axes = omega arith in (omega arith, c.requires.1, rw e c.requires.0.2, rw e, refl, refl)

pub offset_bounds-counts-place : goal.offset_bounds-counts-place
offset_bounds-counts-place c = let n = next c.args.g.most c.args.reals.now c.args.counts.now c.args.g.axes c.loop-done.done c.loop-done.at c.loop-done.place c.loop-done-test.true c.loop-done.invariant.2 in omega arith

pub bounds-counts-place : goal.bounds-counts-place
bounds-counts-place c = let n = next c.args.g.most c.args.reals.now c.args.counts.now c.args.g.axes c.loop-done.done c.loop-done.at c.loop-done.place c.loop-done-test.true c.loop-done.invariant.2 in omega arith

pub guess_of-guess-requires : goal.guess_of-guess-requires
guess_of-guess-requires c = let n = next c.args.g.most c.args.reals.now c.args.counts.now c.args.g.axes c.loop-done.done c.loop-done.at c.loop-done.place c.loop-done-test.true c.loop-done.invariant.2 in omega (arith, c.requires.0.1)

pub overflow_add-end : goal.overflow_add-end
overflow_add-end c = let n = next c.args.g.most c.args.reals.now c.args.counts.now c.args.g.axes c.loop-done.done c.loop-done.at c.loop-done.place c.loop-done-test.true c.loop-done.invariant.2 in omega arith

pub overflow_add-end-in-loop-done : goal.overflow_add-end-in-loop-done
overflow_add-end-in-loop-done c = let n = next c.args.g.most c.args.reals.now c.args.counts.now c.args.g.axes c.loop-done.done c.loop-done.at c.loop-done.place c.loop-done-test.true c.loop-done.invariant.2 in omega arith

pub offset_bounds-reals-at : goal.offset_bounds-reals-at
offset_bounds-reals-at c = let n = next c.args.g.most c.args.reals.now c.args.counts.now c.args.g.axes c.loop-done.done c.loop-done.at c.loop-done.place c.loop-done-test.true c.loop-done.invariant.2 in omega arith

pub slice_bounds-edges-count : goal.slice_bounds-edges-count
slice_bounds-edges-count c = let n = next c.args.g.most c.args.reals.now c.args.counts.now c.args.g.axes c.loop-done.done c.loop-done.at c.loop-done.place c.loop-done-test.true c.loop-done.invariant.2 in omega arith

pub slice_bounds-edges-start : goal.slice_bounds-edges-start
slice_bounds-edges-start c = let n = next c.args.g.most c.args.reals.now c.args.counts.now c.args.g.axes c.loop-done.done c.loop-done.at c.loop-done.place c.loop-done-test.true c.loop-done.invariant.2 in omega arith

pub slice_bounds-edges-end : goal.slice_bounds-edges-end
slice_bounds-edges-end c = let n = next c.args.g.most c.args.reals.now c.args.counts.now c.args.g.axes c.loop-done.done c.loop-done.at c.loop-done.place c.loop-done-test.true c.loop-done.invariant.2 in omega arith

pub place_on-spot-requires : goal.place_on-spot-requires
place_on-spot-requires c = let n = next c.args.g.most c.args.reals.now c.args.counts.now c.args.g.axes c.loop-done.done c.loop-done.at c.loop-done.place c.loop-done-test.true c.loop-done.invariant.2 in
    (asked-part c.loop-done.at (get_or c.args.counts.now c.loop-done.place 0) c.args.reals.now n.edges, asked-unit c.loop-done.stream c.next_u64-word.result c.unit_of-unit.result c.next_u64-word.ensures c.unit_of-unit.ensures)

pub overflow_mul-at : goal.overflow_mul-at
overflow_mul-at c = let n = next c.args.g.most c.args.reals.now c.args.counts.now c.args.g.axes c.loop-done.done c.loop-done.at c.loop-done.place c.loop-done-test.true c.loop-done.invariant.2 in omega (arith, c.requires.0.1)

pub overflow_add-at : goal.overflow_add-at
overflow_add-at c = let n = next c.args.g.most c.args.reals.now c.args.counts.now c.args.g.axes c.loop-done.done c.loop-done.at c.loop-done.place c.loop-done-test.true c.loop-done.invariant.2 in omega (arith, c.requires.0.1)

pub overflow_add-at-in-loop-done : goal.overflow_add-at-in-loop-done
overflow_add-at-in-loop-done c = let n = next c.args.g.most c.args.reals.now c.args.counts.now c.args.g.axes c.loop-done.done c.loop-done.at c.loop-done.place c.loop-done-test.true c.loop-done.invariant.2 in omega (arith, c.requires.0.1)

pub overflow_mul-place : goal.overflow_mul-place
overflow_mul-place c = let n = next c.args.g.most c.args.reals.now c.args.counts.now c.args.g.axes c.loop-done.done c.loop-done.at c.loop-done.place c.loop-done-test.true c.loop-done.invariant.2 in omega (arith, c.requires.0.1)

pub overflow_add-place : goal.overflow_add-place
overflow_add-place c = let n = next c.args.g.most c.args.reals.now c.args.counts.now c.args.g.axes c.loop-done.done c.loop-done.at c.loop-done.place c.loop-done-test.true c.loop-done.invariant.2 in omega (arith, c.requires.0.1)

pub overflow_add-place-in-loop-done : goal.overflow_add-place-in-loop-done
overflow_add-place-in-loop-done c = let n = next c.args.g.most c.args.reals.now c.args.counts.now c.args.g.axes c.loop-done.done c.loop-done.at c.loop-done.place c.loop-done-test.true c.loop-done.invariant.2 in omega (arith, c.well_formed.1.0, c.requires.0.1)

pub loop-done-preserved : goal.loop-done-preserved
loop-done-preserved c = let n = next c.args.g.most c.args.reals.now c.args.counts.now c.args.g.axes c.loop-done.done c.loop-done.at c.loop-done.place c.loop-done-test.true c.loop-done.invariant.2 in (
  omega (arith, c.loop-done-test.true),
  simp length-set c.loop-done.invariant.1,
  n.rest,
  drawn-on c.args.g.most c.args.reals.now c.args.counts.now c.args.evenly c.args.g.axes c.loop-done.done c.loop-done.at c.loop-done.place c.loop-done.coordinates c.loop-done.weight c.loop-done.stream c.next_u64-word.result c.unit_of-unit.result c.place_on-spot.result.point c.loop-done-test.true (omega (arith, c.requires.0.0, c.loop-done.invariant.1, c.loop-done-test.true)) c.next_u64-word.ensures c.unit_of-unit.ensures c.place_on-spot.ensures ∙ c.loop-done.invariant.3,
  kept_on c.args.coordinates.now c.loop-done.coordinates c.loop-done.done c.place_on-spot.result.point.at c.loop-done.invariant.4,
  simp length-set c.loop-done.invariant.5,
)

pub returns : goal.returns
returns c = let same : c.loop-done.done ≡ c.args.g.axes = omega (arith, c.loop-done.invariant.0, c.loop-done-test.false) in (
  walk-made c.args.coordinates.now c.loop-done.coordinates c.args.g.axes c.loop-done.done c.loop-done.weight c.loop-done.stream _ same c.requires.0.0 c.loop-done.invariant.1 c.requires.1 c.loop-done.invariant.4
      (sym (drawn-out c.args.g.most c.args.reals.now c.args.counts.now c.args.evenly c.args.g.axes c.loop-done.done c.loop-done.at c.loop-done.place c.loop-done.coordinates c.loop-done.weight c.loop-done.stream c.loop-done.invariant.0 c.loop-done-test.false) ∙ c.loop-done.invariant.3),
  c.loop-done.invariant.5,
)
