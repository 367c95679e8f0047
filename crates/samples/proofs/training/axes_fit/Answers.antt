-- The bins that are left to judge, with what was found before, and those that are written with those that are left.
use mathlib.Core.Path.{refl, sym, ap, ◌∙◌}
use mathlib.Core.Bool.{Bool, ◌&&◌}
use mathlib.Core.List.{List}
use Prim.Native.Nat.{ℕ, ◌+◌, ◌*◌}
use native.Mathlib.Omega.{arith}
use lib.ListN.{get_or, length-set}
use Rattle.lent.specs.Memory.{memory}
use Rattle.lent.specs.Trained.{cells_fit}
use Rattle.lent.proofs.Standing.{next}
use Rattle.lent.proofs.Draws.{asked-part}
use Rattle.lent.proofs.Spots.{begun, spots_left, spots-all, left-all, unit-here, cell-here, left-judged, fits_on, fits-none, noted-on, noted-all}
use Rattle.samples.specs.Tried.{all_fit}
use Rattle.samples.proofs.Tries.{none-tried, none-rest}
use Rattle.samples.proofs.training.axes_fit.Goals as goal

pub loop-done-init : goal.loop-done-init
loop-done-init c = (omega arith, left-all c.args.g.most c.args.g.axes c.args.xs.now c.args.g.reals c.args.g.counts (memory c.args.reals.now c.args.counts.now) c.requires.0.0.2 c.requires.0.1 c.requires.0.2, none-tried _, c.requires.1, none-rest, refl)

pub offset_bounds-counts-place : goal.offset_bounds-counts-place
offset_bounds-counts-place c = let n = next c.args.g.most c.args.reals.now c.args.counts.now c.args.g.axes c.loop-done.done c.loop-done.at c.loop-done.place c.loop-done-test.true c.loop-done.invariant.1.standing in
    omega arith

pub bounds-counts-place : goal.bounds-counts-place
bounds-counts-place c = let n = next c.args.g.most c.args.reals.now c.args.counts.now c.args.g.axes c.loop-done.done c.loop-done.at c.loop-done.place c.loop-done-test.true c.loop-done.invariant.1.standing in
    omega arith

pub overflow_add-end : goal.overflow_add-end
overflow_add-end c = let n = next c.args.g.most c.args.reals.now c.args.counts.now c.args.g.axes c.loop-done.done c.loop-done.at c.loop-done.place c.loop-done-test.true c.loop-done.invariant.1.standing in
    omega arith

pub overflow_add-end-in-loop-done : goal.overflow_add-end-in-loop-done
overflow_add-end-in-loop-done c = let n = next c.args.g.most c.args.reals.now c.args.counts.now c.args.g.axes c.loop-done.done c.loop-done.at c.loop-done.place c.loop-done-test.true c.loop-done.invariant.1.standing in
    omega arith

pub offset_bounds-reals-at : goal.offset_bounds-reals-at
offset_bounds-reals-at c = let n = next c.args.g.most c.args.reals.now c.args.counts.now c.args.g.axes c.loop-done.done c.loop-done.at c.loop-done.place c.loop-done-test.true c.loop-done.invariant.1.standing in
    omega arith

pub slice_bounds-bin_near-count : goal.slice_bounds-bin_near-count
slice_bounds-bin_near-count c = let n = next c.args.g.most c.args.reals.now c.args.counts.now c.args.g.axes c.loop-done.done c.loop-done.at c.loop-done.place c.loop-done-test.true c.loop-done.invariant.1.standing in
    omega arith

pub slice_bounds-bin_near-start : goal.slice_bounds-bin_near-start
slice_bounds-bin_near-start c = let n = next c.args.g.most c.args.reals.now c.args.counts.now c.args.g.axes c.loop-done.done c.loop-done.at c.loop-done.place c.loop-done-test.true c.loop-done.invariant.1.standing in
    omega arith

pub slice_bounds-bin_near-end : goal.slice_bounds-bin_near-end
slice_bounds-bin_near-end c = let n = next c.args.g.most c.args.reals.now c.args.counts.now c.args.g.axes c.loop-done.done c.loop-done.at c.loop-done.place c.loop-done-test.true c.loop-done.invariant.1.standing in
    omega arith

pub bin_near-bin-requires : goal.bin_near-bin-requires
bin_near-bin-requires c = let n = next c.args.g.most c.args.reals.now c.args.counts.now c.args.g.axes c.loop-done.done c.loop-done.at c.loop-done.place c.loop-done-test.true c.loop-done.invariant.1.standing in
    (asked-part c.loop-done.at (get_or c.args.counts.now c.loop-done.place 0) c.args.reals.now n.edges, unit-here c.args.g.most c.args.g.axes c.args.xs.now c.loop-done.done c.loop-done.at c.loop-done.place (memory c.args.reals.now c.args.counts.now) c.loop-done-test.true c.loop-done.invariant.1)

pub cell_tried-tried-requires : goal.cell_tried-tried-requires
cell_tried-tried-requires c = (c.requires.0.0.1, cell-here c.args.g.most c.args.g.axes c.args.xs.now c.loop-done.done c.loop-done.at c.loop-done.place (memory c.args.reals.now c.args.counts.now) c.loop-done-test.true c.loop-done.invariant.1 c.bin_near-bin.result c.bin_near-bin.ensures, c.loop-done.invariant.4)

pub overflow_mul-at : goal.overflow_mul-at
overflow_mul-at c = let n = next c.args.g.most c.args.reals.now c.args.counts.now c.args.g.axes c.loop-done.done c.loop-done.at c.loop-done.place c.loop-done-test.true c.loop-done.invariant.1.standing in
    omega arith

pub overflow_add-at : goal.overflow_add-at
overflow_add-at c = let n = next c.args.g.most c.args.reals.now c.args.counts.now c.args.g.axes c.loop-done.done c.loop-done.at c.loop-done.place c.loop-done-test.true c.loop-done.invariant.1.standing in
    omega arith

pub overflow_add-at-in-loop-done : goal.overflow_add-at-in-loop-done
overflow_add-at-in-loop-done c = let n = next c.args.g.most c.args.reals.now c.args.counts.now c.args.g.axes c.loop-done.done c.loop-done.at c.loop-done.place c.loop-done-test.true c.loop-done.invariant.1.standing in
    omega arith

pub overflow_mul-place : goal.overflow_mul-place
overflow_mul-place c = let n = next c.args.g.most c.args.reals.now c.args.counts.now c.args.g.axes c.loop-done.done c.loop-done.at c.loop-done.place c.loop-done-test.true c.loop-done.invariant.1.standing in
    omega arith

pub overflow_add-place : goal.overflow_add-place
overflow_add-place c = let n = next c.args.g.most c.args.reals.now c.args.counts.now c.args.g.axes c.loop-done.done c.loop-done.at c.loop-done.place c.loop-done-test.true c.loop-done.invariant.1.standing in
    omega arith

pub overflow_add-place-in-loop-done : goal.overflow_add-place-in-loop-done
overflow_add-place-in-loop-done c = let n = next c.args.g.most c.args.reals.now c.args.counts.now c.args.g.axes c.loop-done.done c.loop-done.at c.loop-done.place c.loop-done-test.true c.loop-done.invariant.1.standing in
    omega arith

pub loop-done-preserved : goal.loop-done-preserved
loop-done-preserved c = let at = c.loop-done.at + (6 * c.args.g.most + 1) in
    let place = c.loop-done.place + (3 * c.args.g.most + 2) in (
      omega (arith, c.loop-done-test.true),
      left-judged c.args.g.most c.args.g.axes c.args.xs.now c.loop-done.done c.loop-done.at c.loop-done.place (memory c.args.reals.now c.args.counts.now) c.loop-done-test.true c.loop-done.invariant.1 c.bin_near-bin.result c.bin_near-bin.ensures,
      ap (λ (b : Bool). b && cells_fit c.args.g.most c.args.v (spots_left c.args.g.most c.args.g.axes c.args.xs.now (c.loop-done.done + 1) at place (memory c.args.reals.now c.args.counts.now)) at place (memory c.args.reals.now c.args.counts.now)) c.cell_tried-tried.ensures.0
          ∙ fits_on c.args.g.most c.args.g.axes c.args.xs.now c.loop-done.done c.loop-done.at c.loop-done.place (memory c.args.reals.now c.args.counts.now) c.loop-done-test.true c.loop-done.invariant.1 c.bin_near-bin.result c.bin_near-bin.ensures c.args.v (all_fit c.loop-done.tried) ∙ c.loop-done.invariant.2,
      simp length-set c.loop-done.invariant.3,
      c.cell_tried-tried.ensures.1,
      noted-on c.args.g.most c.args.g.axes c.args.xs.now c.loop-done.done c.loop-done.at c.loop-done.place (memory c.args.reals.now c.args.counts.now) c.loop-done-test.true c.loop-done.invariant.1 c.bin_near-bin.result c.bin_near-bin.ensures c.loop-done.spots (omega (arith, c.loop-done.invariant.3, c.requires.0.0.0, c.loop-done-test.true)) ∙ c.loop-done.invariant.5,
    )

pub returns : goal.returns
returns c = let all = spots-all c.args.g.most c.args.g.axes c.args.xs.now c.args.g.reals c.args.g.counts (memory c.args.reals.now c.args.counts.now) in (
  c.all_fit.ensures ∙ sym (fits-none c.args.g.most c.args.g.axes c.args.xs.now c.loop-done.done c.loop-done.at c.loop-done.place (memory c.args.reals.now c.args.counts.now) c.args.v (all_fit c.loop-done.tried) (omega (arith, c.loop-done-test.false))) ∙ c.loop-done.invariant.2
      ∙ ap (λ (is : List ℕ). cells_fit c.args.g.most c.args.v is c.args.g.reals c.args.g.counts (memory c.args.reals.now c.args.counts.now)) all,
  begun c.loop-done.spots _ c.args.g.axes (omega (arith, c.loop-done.invariant.3, c.requires.0.0.0))
      (noted-all c.args.g.most c.args.g.axes c.args.xs.now c.loop-done.done c.loop-done.at c.loop-done.place (memory c.args.reals.now c.args.counts.now) c.loop-done.spots _ c.loop-done.invariant.0 (omega (arith, c.loop-done-test.false)) c.loop-done.invariant.5 ∙ all),
)
