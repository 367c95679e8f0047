-- `copying::clear_axes` meets its contract: what is left to clear in memory as it is now makes what all of it makes of memory at entry.
use native.Mathlib.Omega.{arith}
use mathlib.Core.Path.{◌≡◌, refl, sym, ◌∙◌}
use lib.ListN.{length, get_or}
use Rattle.lent.specs.Layout.{axis_reals, axis_counts}
use Rattle.lent.specs.Memory.{memory}
use Rattle.lent.specs.Laid.{Roomy}
use Rattle.lent.proofs.Same.{same_refl}
use Rattle.lent.proofs.First.{first, stands_on, one_less, counts-left, reals-left}
use Rattle.lent.proofs.Rooms.{waitless-known}
use Rattle.lent.proofs.Copies.{cleared-next, cleared-done, cleared-apart}
use Rattle.quiet.proofs.copying.clear_axes.Goals as goal

pub loop-left-init : goal.loop-left-init
loop-left-init c = (c.requires, refl, same_refl 0 c.args.g.counts (length c.args.counts.now) c.args.counts.now, refl)

pub after_first-left-requires : goal.after_first-left-requires
unfolding axis_reals axis_counts
after_first-left-requires c = let n = first c.args.reals.now c.args.counts.now c.loop-left.left c.loop-left-test.true c.loop-left.invariant.0 in (c.loop-left-test.true, n.few, omega arith, omega arith)

pub loop-left-preserved : goal.loop-left-preserved
unfolding axis_reals axis_counts
loop-left-preserved c = let n = first c.args.reals.now c.args.counts.now c.loop-left.left c.loop-left-test.true c.loop-left.invariant.0 in let held : get_or c.loop-left.counts c.loop-left.left.counts 0 ≡ get_or c.args.counts.now c.loop-left.left.counts 0 = c.loop-left.invariant.2.cells c.loop-left.left.counts (omega arith) (omega arith) in let size = c.loop-left.invariant.2.size in
    let roomy : Roomy c.loop-left.left.most (get_or c.loop-left.counts c.loop-left.left.counts 0) c.loop-left.left.reals c.loop-left.left.counts c.loop-left.reals c.loop-left.counts = (omega arith, n.few, omega (arith, c.loop-left.invariant.1), omega arith) in
    let made = c.clear_waiting.ensures ∙ waitless-known c.loop-left.left.most (get_or c.loop-left.counts c.loop-left.left.counts 0) c.loop-left.left.reals c.loop-left.left.counts (memory c.loop-left.reals c.loop-left.counts) roomy in
    let a = cleared-apart c.loop-left.left.most c.loop-left.left.reals c.loop-left.left.counts (get_or c.loop-left.counts c.loop-left.left.counts 0) (memory c.loop-left.reals c.loop-left.counts) (memory c.clear_waiting.new.reals c.clear_waiting.new.counts) (omega arith) (record { room = omega (arith, c.loop-left.invariant.1); places = omega arith }) made in (
      stands_on c.args.reals.now c.args.counts.now c.loop-left.left c.after_first-left.result c.loop-left-test.true c.loop-left.invariant.0 c.after_first-left.ensures,
      reals-left c.loop-left.left.most c.loop-left.left.reals c.loop-left.left.counts (memory c.loop-left.reals c.loop-left.counts) (memory c.clear_waiting.new.reals c.clear_waiting.new.counts) a ∙ c.loop-left.invariant.1,
      counts-left c.loop-left.left c.after_first-left.result (length c.args.counts.now) (memory c.loop-left.reals c.loop-left.counts) (memory c.clear_waiting.new.reals c.clear_waiting.new.counts) c.args.counts.now c.after_first-left.ensures a c.loop-left.invariant.2,
      cleared-next c.loop-left.left c.after_first-left.result (get_or c.loop-left.counts c.loop-left.left.counts 0) (memory c.loop-left.reals c.loop-left.counts) (memory c.clear_waiting.new.reals c.clear_waiting.new.counts) c.loop-left-test.true c.after_first-left.ensures refl made ∙ c.loop-left.invariant.3,
    )

pub shape_of-reals : goal.shape_of-reals
shape_of-reals c = c.loop-left.invariant.1

pub shape_of-counts : goal.shape_of-counts
shape_of-counts c = c.loop-left.invariant.2.size

pub returns : goal.returns
returns c = sym (cleared-done c.loop-left.left (memory c.loop-left.reals c.loop-left.counts) c.loop-left-test.false) ∙ c.loop-left.invariant.3

pub offset_bounds-counts-c : goal.offset_bounds-counts-c
offset_bounds-counts-c c = let n = first c.args.reals.now c.args.counts.now c.loop-left.left c.loop-left-test.true c.loop-left.invariant.0 in let size = c.loop-left.invariant.2.size in omega arith

pub loop-left-smaller : goal.loop-left-smaller
loop-left-smaller c = omega (arith, one_less c.loop-left.left c.after_first-left.result c.after_first-left.ensures, c.loop-left-test.true)

pub bounds-counts-c : goal.bounds-counts-c
bounds-counts-c c = let n = first c.args.reals.now c.args.counts.now c.loop-left.left c.loop-left-test.true c.loop-left.invariant.0 in let size = c.loop-left.invariant.2.size in omega arith
