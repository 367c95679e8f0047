-- Storing the fresh record keeps the lengths, so there is room for the axes still; the two steps are the definition's.
use Rattle.lent.specs.Tree.{axes_place}
use Rattle.lent.proofs.Places.{placed}
use lib.ListN.{length}
use Rattle.lent.specs.Memory.{memory}
use Rattle.lent.proofs.Founds.{axes-room, axes-founded}
use mathlib.Core.Path.{◌≡◌, ◌∙◌}
use borrow.Author.Rules.{rules}
use Rattle.quiet.proofs.founding.lay_axes_grid.Goals as goal
use Rattle.quiet.proofs.founding.lay_axes_grid.Goals.{After-axes_place-g}

-- where the axes stand
there : (c : After-axes_place-g) → c.axes_place-g.result ≡ axes_place c.args.table.now c.args.w
there c = placed c.args.table.now c.args.w c.axes_place-g.ensures (search rules)

pub lay_axes-requires : goal.lay_axes-requires
lay_axes-requires c = axes-room c.args.table.now (length c.args.reals.now) (length c.args.counts.now) (length c.store.new.reals) (length c.store.new.counts) c.args.w c.axes_place-g.result c.requires c.store.auto.reals c.store.auto.counts (there (goal.at.lay_axes-requires c).After-axes_place-g)

pub shape_of-reals : goal.shape_of-reals
shape_of-reals c = c.lay_axes.auto.reals ∙ c.store.auto.reals

pub shape_of-counts : goal.shape_of-counts
shape_of-counts c = c.lay_axes.auto.counts ∙ c.store.auto.counts

pub returns : goal.returns
returns c = axes-founded c.args.table.now c.args.w c.axes_place-g.result c.new.result (memory c.args.reals.now c.args.counts.now) (memory c.store.new.reals c.store.new.counts) (memory c.lay_axes.new.reals c.lay_axes.new.counts) (there (goal.at.returns c).After-axes_place-g) c.new.ensures c.store.ensures c.lay_axes.ensures
