-- The root's kind decides; since the root is sound, its axes stand in memory as `clear_axes_grid` asks.
use mathlib.Core.Path.{sym, ap, ◌∙◌}
use native.Mathlib.Omega.{arith}
use lib.ListN.{length}
use Rattle.model.specs.Sound.{sound}
use Rattle.lent.specs.Memory.{memory}
use Rattle.lent.proofs.Laid.{laid-head, laid-axes, laid-bins}
use Rattle.lent.proofs.Sounds.{node-axes}
use Rattle.lent.proofs.Samples.{sound-stands}
use Rattle.lent.proofs.Clones.{root-axes, root-bins}
use Rattle.quiet.proofs.copying.clear_root.Goals as goal

pub clear_axes_grid-requires : goal.clear_axes_grid-requires
clear_axes_grid-requires c = ((laid-axes 4 c.args.table.now (length c.args.reals.now) (length c.args.counts.now) 0 c.requires.0 c.if-table-eq1.true), sound-stands c.args.table.now c.args.reals.now c.args.counts.now 0 (laid-axes 4 c.args.table.now (length c.args.reals.now) (length c.args.counts.now) 0 c.requires.0 c.if-table-eq1.true) (sym (ap sound (node-axes 4 c.args.table.now c.args.reals.now c.args.counts.now 0 c.if-table-eq1.true)) ∙ c.requires.1))

pub returns-then-table-eq1 : goal.returns-then-table-eq1
returns-then-table-eq1 c = c.clear_axes_grid.ensures ∙ root-axes c.args.table.now (memory c.args.reals.now c.args.counts.now) c.if-table-eq1.true

pub clear_own-requires : goal.clear_own-requires
clear_own-requires c = (laid-bins 4 c.args.table.now (length c.args.reals.now) (length c.args.counts.now) 0 c.requires.0 c.if-table-eq1.false).bins

pub returns : goal.returns
returns c = c.clear_own.ensures ∙ root-bins c.args.table.now (memory c.args.reals.now c.args.counts.now) c.if-table-eq1.false

pub bounds-table-0 : goal.bounds-table-0
bounds-table-0 c = omega (arith, laid-head 4 c.args.table.now (length c.args.reals.now) (length c.args.counts.now) 0 c.requires.0)
