-- Level by level the definition answers as the code branches; the levels left fall, so it ends.
use mathlib.Core.Path.{◌∙◌}
use native.Mathlib.Omega.{arith}
use lib.ListN.{length, get_or}
use Rattle.lent.proofs.Laid.{laid-bins, laid-head}
use Rattle.lent.proofs.Named.{axes-none, path-ended, bin-past, bin-here, bin-bare, bin-deeper}
use Rattle.quiet.proofs.along.+estimate_along.Goals as goal

pub returns-then-m-w-eq1 : goal.returns-then-m-w-eq1
returns-then-m-w-eq1 t c = axes-none c.args.level c.args.m.table.now c.args.m.reals.now c.args.m.counts.now c.args.w c.args.path c.args.levels c.args.depth c.if-m-w-eq1.true

pub returns-then-levels-depth : goal.returns-then-levels-depth
returns-then-levels-depth t c = path-ended c.args.level c.args.m.table.now c.args.m.reals.now c.args.m.counts.now c.args.w c.args.path c.args.levels c.args.depth c.if-m-w-eq1.false (laid-bins c.args.level c.args.m.table.now (length c.args.m.reals.now) (length c.args.m.counts.now) c.args.w c.requires.0 c.if-m-w-eq1.false).level c.if-levels-depth.true

pub returns-then-m-w : goal.returns-then-m-w
returns-then-m-w t c = bin-past c.args.level c.args.m.table.now c.args.m.reals.now c.args.m.counts.now c.args.w c.args.path c.args.levels c.args.depth c.if-m-w-eq1.false (laid-bins c.args.level c.args.m.table.now (length c.args.m.reals.now) (length c.args.m.counts.now) c.args.w c.requires.0 c.if-m-w-eq1.false).level c.if-levels-depth.false c.if-m-w.true

pub estimate_of_bin-requires : goal.estimate_of_bin-requires
estimate_of_bin-requires t c = let d = (laid-bins c.args.level c.args.m.table.now (length c.args.m.reals.now) (length c.args.m.counts.now) c.args.w c.requires.0 c.if-m-w-eq1.false) in (d.bins, c.if-m-w.false)

pub returns-then-levels-depth-2 : goal.returns-then-levels-depth-2
returns-then-levels-depth-2 t c = c.estimate_of_bin.ensures ∙ bin-here c.args.level c.args.m.table.now c.args.m.reals.now c.args.m.counts.now c.args.w c.args.path c.args.levels c.args.depth c.if-m-w-eq1.false (laid-bins c.args.level c.args.m.table.now (length c.args.m.reals.now) (length c.args.m.counts.now) c.args.w c.requires.0 c.if-m-w-eq1.false).level c.if-levels-depth.false c.if-m-w.false c.if-levels-depth-2.true

pub returns-then-link-eq0 : goal.returns-then-link-eq0
returns-then-link-eq0 t c = bin-bare c.args.level c.args.m.table.now c.args.m.reals.now c.args.m.counts.now c.args.w c.args.path c.args.levels c.args.depth c.if-m-w-eq1.false (laid-bins c.args.level c.args.m.table.now (length c.args.m.reals.now) (length c.args.m.counts.now) c.args.w c.requires.0 c.if-m-w-eq1.false).level c.if-levels-depth.false c.if-m-w.false c.if-levels-depth-2.false c.if-link-eq0.true

pub estimate_along-requires : goal.estimate_along-requires
estimate_along-requires t c = let d = (laid-bins c.args.level c.args.m.table.now (length c.args.m.reals.now) (length c.args.m.counts.now) c.args.w c.requires.0 c.if-m-w-eq1.false) in (omega (arith, c.decreases, d.level), (d.bins.children (get_or c.args.path c.args.depth 0) c.if-m-w.false c.if-link-eq0.false, omega (arith, c.requires.1, d.level)))

pub returns : goal.returns
returns t c = c.estimate_along.ensures ∙ bin-deeper c.args.level c.args.m.table.now c.args.m.reals.now c.args.m.counts.now c.args.w c.args.path c.args.levels c.args.depth c.if-m-w-eq1.false (laid-bins c.args.level c.args.m.table.now (length c.args.m.reals.now) (length c.args.m.counts.now) c.args.w c.requires.0 c.if-m-w-eq1.false).level c.if-levels-depth.false c.if-m-w.false c.if-levels-depth-2.false c.if-link-eq0.false

pub offset_bounds-m-w-2 : goal.offset_bounds-m-w-2
offset_bounds-m-w-2 t c = omega (arith, laid-head c.args.level c.args.m.table.now (length c.args.m.reals.now) (length c.args.m.counts.now) c.args.w c.requires.0)

pub bounds-path-depth : goal.bounds-path-depth
bounds-path-depth t c = let d = (laid-bins c.args.level c.args.m.table.now (length c.args.m.reals.now) (length c.args.m.counts.now) c.args.w c.requires.0 c.if-m-w-eq1.false) in omega (arith, d.level, c.requires.1)

pub bounds-m-w-2 : goal.bounds-m-w-2
bounds-m-w-2 t c = omega (arith, laid-head c.args.level c.args.m.table.now (length c.args.m.reals.now) (length c.args.m.counts.now) c.args.w c.requires.0)

pub overflow_add-link-2 : goal.overflow_add-link-2
overflow_add-link-2 t c = let d = (laid-bins c.args.level c.args.m.table.now (length c.args.m.reals.now) (length c.args.m.counts.now) c.args.w c.requires.0 c.if-m-w-eq1.false) in omega (arith, d.bins.head, c.if-m-w.false)

pub bounds-m-w : goal.bounds-m-w
bounds-m-w t c = omega (arith, laid-head c.args.level c.args.m.table.now (length c.args.m.reals.now) (length c.args.m.counts.now) c.args.w c.requires.0)

pub bounds-m-w-3 : goal.bounds-m-w-3
bounds-m-w-3 t c = let d = (laid-bins c.args.level c.args.m.table.now (length c.args.m.reals.now) (length c.args.m.counts.now) c.args.w c.requires.0 c.if-m-w-eq1.false) in omega (arith, d.bins.head, c.if-m-w.false)

pub overflow_sub-below : goal.overflow_sub-below
overflow_sub-below t c = let d = (laid-bins c.args.level c.args.m.table.now (length c.args.m.reals.now) (length c.args.m.counts.now) c.args.w c.requires.0 c.if-m-w-eq1.false) in omega (arith, d.level)

pub offset_bounds-m-w : goal.offset_bounds-m-w
offset_bounds-m-w t c = omega (arith, laid-head c.args.level c.args.m.table.now (length c.args.m.reals.now) (length c.args.m.counts.now) c.args.w c.requires.0)

pub overflow_add-w : goal.overflow_add-w
overflow_add-w t c = omega (arith, laid-head c.args.level c.args.m.table.now (length c.args.m.reals.now) (length c.args.m.counts.now) c.args.w c.requires.0)

pub offset_bounds-m-w-3 : goal.offset_bounds-m-w-3
offset_bounds-m-w-3 t c = let d = (laid-bins c.args.level c.args.m.table.now (length c.args.m.reals.now) (length c.args.m.counts.now) c.args.w c.requires.0 c.if-m-w-eq1.false) in omega (arith, d.bins.head, c.if-m-w.false)
