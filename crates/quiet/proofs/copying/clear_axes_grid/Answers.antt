-- The place read is where the axes stand; they are cleared first and the own record then, as in the definition.
use Rattle.lent.specs.Tree.{axes_place}
use Rattle.lent.proofs.Places.{placed}
use mathlib.Core.Path.{◌≡◌, sym, subst}
use Rattle.lent.specs.declared.AxesAt.{AxesAt}
use Rattle.lent.specs.Memory.{memory}
use Rattle.lent.specs.Drawn.{Stands}
use Rattle.lent.proofs.Clones.{axes-emptied}
use borrow.Author.Rules.{rules}
use Rattle.quiet.proofs.copying.clear_axes_grid.Goals as goal
use Rattle.quiet.proofs.copying.clear_axes_grid.Goals.{After-axes_place-g}

-- where the axes stand
there : (c : After-axes_place-g) → c.axes_place-g.result ≡ axes_place c.args.table.now c.args.w
there c = placed c.args.table.now c.args.w c.axes_place-g.ensures (search rules)

pub clear_axes-requires : goal.clear_axes-requires
clear_axes-requires c = subst (λ (g : AxesAt). Stands c.args.reals.now c.args.counts.now g) (sym (there (goal.at.clear_axes-requires c).After-axes_place-g)) c.requires.1

pub returns : goal.returns
returns c = axes-emptied c.args.table.now c.args.w c.axes_place-g.result (memory c.args.reals.now c.args.counts.now) (memory c.clear_axes.new.reals c.clear_axes.new.counts) (memory c.clear.new.reals c.clear.new.counts) (there (goal.at.returns c).After-axes_place-g) c.clear_axes.ensures c.clear.ensures
