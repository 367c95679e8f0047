-- `laying::lay_axis` meets its contract: the part comes back with even edges, then the axis is emptied.
use native.Mathlib.Omega.{arith}
use Rattle.lent.specs.Layout.{axis_reals, axis_counts}
use mathlib.Core.Path.{ap, ◌∙◌}
use Rattle.lent.specs.Laid.{empty_at, edged_at, lay_at}
use Rattle.lent.proofs.Lays.{laid-even}
use Rattle.lent.proofs.Rooms.{empty-known}
use borrow.Author.Rules.{rules}
use Rattle.quiet.proofs.laying.lay_axis.Goals as goal

pub slice_bounds-lay_even-end : goal.slice_bounds-lay_even-end
unfolding axis_reals axis_counts
slice_bounds-lay_even-end c = omega arith

pub returns : goal.returns
unfolding lay_at edged_at axis_reals axis_counts
returns c = c.empty_axis.ensures ∙ empty-known c.args.most c.args.n c.args.r c.args.c 0 _ (search rules) ∙ ap (empty_at c.args.most c.args.r c.args.c c.args.n 0) (laid-even c.args.r c.args.n _ c.args.reals.now c.args.counts.now (omega (arith, c.requires)) c.lay_even.ensures)
