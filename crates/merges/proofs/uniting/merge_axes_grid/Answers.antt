-- The places are the runs', so the axes lie in memory after the accumulator was stored too.
use Rattle.lent.specs.Tree.{axes_place}
use Rattle.lent.proofs.Places.{placed}
use mathlib.Core.Path.{◌≡◌, refl}
use native.Mathlib.Omega.{arith}
use Rattle.lent.proofs.Unites.{spaced-at, axes-stay, axes-united}
use borrow.Author.Rules.{rules}
use Rattle.merges.proofs.uniting.merge_axes_grid.Goals as goal
use Rattle.merges.proofs.uniting.merge_axes_grid.Goals.{After-axes_place-g, After-axes_place-far}

-- where the axes of both stand
mine : (c : After-axes_place-g) → c.axes_place-g.result ≡ axes_place c.args.table.now c.args.w
mine c = placed c.args.table.now c.args.w c.axes_place-g.ensures (search rules)

theirs : (c : After-axes_place-far) → c.axes_place-far.result ≡ axes_place c.args.o.table.now c.args.v
theirs c = placed c.args.o.table.now c.args.v c.axes_place-far.ensures (search rules)

pub returns-then-g-far : goal.returns-then-g-far
returns-then-g-far c = axes-stay _ _ _ _ _ _ _ _ (mine (goal.at.returns-then-g-far c).After-axes_place-g) (theirs (goal.at.returns-then-g-far c).After-axes_place-far) c.if-g-far.true

pub merge_axes-requires : goal.merge_axes-requires
merge_axes-requires c = (spaced-at _ _ _ _ _ _ _ c.requires.0 c.join_account.auto.reals c.join_account.auto.counts (mine (goal.at.merge_axes-requires c).After-axes_place-g), spaced-at _ _ _ _ _ _ _ c.requires.1 refl refl (theirs (goal.at.merge_axes-requires c).After-axes_place-far), omega (arith, c.if-g-far.false))

pub returns : goal.returns
returns c = axes-united _ _ _ _ _ _ _ _ _ _ (mine (goal.at.returns c).After-axes_place-g) (theirs (goal.at.returns c).After-axes_place-far) c.if-g-far.false c.join_account.ensures c.merge_axes.ensures
