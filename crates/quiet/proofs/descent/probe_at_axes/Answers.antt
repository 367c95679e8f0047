-- A path that goes on is 4, as in the model; else the axes of a sound grid stand at the place read, and are probed.
use Rattle.lent.proofs.Places.{placed}
use mathlib.Core.Path.{sym, ◌∙◌, subst}
use Rattle.lent.specs.declared.AxesAt.{AxesAt}
use Rattle.lent.specs.Drawn.{Stands}
use Rattle.lent.specs.Tree.{axes_grid_at}
use Rattle.lent.specs.Probed.{coordinates_of}
use Rattle.lent.proofs.Samples.{sound-stands}
use Rattle.lent.proofs.Paths.{axes-passed, axes-met, axes-probed}
use borrow.Author.Rules.{rules}
use Rattle.quiet.proofs.descent.probe_at_axes.Goals as goal

pub returns-then-depth-p : goal.returns-then-depth-p
returns-then-depth-p c = sym (axes-passed (axes_grid_at c.args.m.table.now c.args.m.reals.now c.args.m.counts.now c.args.w) c.args.p c.args.depth (coordinates_of c.args.p.coordinates) c.if-depth-p.true)

pub probe_axes-requires : goal.probe_axes-requires
probe_axes-requires c = subst (λ (g : AxesAt). Stands c.args.m.reals.now c.args.m.counts.now g) (sym (placed c.args.m.table.now c.args.w c.axes_place-g.ensures (search rules))) (sound-stands c.args.m.table.now c.args.m.reals.now c.args.m.counts.now c.args.w c.requires.0 c.requires.1)

pub returns : goal.returns
returns c = c.probe_axes.ensures ∙ axes-probed c.args.m.table.now c.args.m.reals.now c.args.m.counts.now c.args.w c.axes_place-g.result (coordinates_of c.args.p.coordinates) (placed c.args.m.table.now c.args.w c.axes_place-g.ensures (search rules)) ∙ sym (axes-met (axes_grid_at c.args.m.table.now c.args.m.reals.now c.args.m.counts.now c.args.w) c.args.p c.args.depth (coordinates_of c.args.p.coordinates) c.if-depth-p.false)
