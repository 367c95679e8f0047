-- `laying::empty_axis_there` meets its contract: two stages, then the two numbers at the head of the counts.
use native.Mathlib.Omega.{arith}
use Rattle.lent.specs.Layout.{axis_reals, axis_counts}
use mathlib.Core.Path.{ap, ◌∙◌}
use lib.ListN.{length-set}
use Rattle.lent.specs.Laid.{headed_at, forgotten_at, empty_at}
use Rattle.ground.proofs.laying.empty_axis_there.Goals as goal

pub bounds-counts-c : goal.bounds-counts-c
unfolding axis_reals axis_counts
bounds-counts-c c = omega arith

pub bounds-counts-c-2 : goal.bounds-counts-c-2
unfolding axis_reals axis_counts
bounds-counts-c-2 c = simp length-set (omega arith)

pub returns : goal.returns
unfolding empty_at headed_at
returns c = ap (headed_at c.args.c c.args.n c.args.recuts) (c.forget.ensures ∙ ap (forgotten_at c.args.most c.args.r c.args.c c.args.n) c.clear_waiting_there.ensures)
