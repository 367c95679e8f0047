-- What `choose` picks is the walk that the definition makes under this floor, and the floor is then put on its weight.
use mathlib.Core.Path.{ap, sym, ◌∙◌, subst}
use lib.Ieee.{Float}
use Rattle.model.specs.Draw.{Placed, floored_of}
use Rattle.lent.specs.declared.Walked.{Walked}
use Rattle.lent.specs.Drawn.{axes_at, Places, under_floor}
use Rattle.samples.proofs.axes.draw_axes.Goals as goal

pub returns : goal.returns
unfolding under_floor
returns c = let axs = axes_at c.args.reals.now c.args.counts.now c.args.g in
    let drawn = subst (λ (p : Placed). Places c.args.g.axes p c.walk_axes-walked.result c.args.coordinates.now c.walk_axes-walked.new.coordinates) (sym (c.choose-choice.ensures axs)) c.walk_axes-walked.ensures.0 in (
      (
        ap (λ (x : Float). record { weight = x; stream = c.walk_axes-walked.result.stream }) c.floored.ensures
            ∙ ap (λ (v : Walked). record { weight = floored_of c.args.g.floor v.weight; stream = v.stream }) drawn.0,
        drawn.1,
        drawn.2,
      ),
      c.walk_axes-walked.ensures.1,
    )
