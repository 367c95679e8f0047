-- The axes judged so far, with those from `at` and `place` on, stay the answer for all; what room is left holds the rest.
use mathlib.Core.Path.{sym, ap, ◌∙◌}
use mathlib.Core.Bool.{Bool, ◌&&◌}
use mathlib.Core.List.{◌∷◌}
use Prim.Native.Nat.{◌+◌, ◌-◌, ◌*◌, ◌≤◌}
use lib.ListN.{length}
use Rattle.lent.specs.Judged.{axes_fit}
use Rattle.lent.proofs.Judges.{room_next, fit_on, fit-out}
use Rattle.judges.proofs.judging.axes_fit_there.Goals as goal
use Rattle.judges.proofs.judging.axes_fit_there.Goals.{In-loop}

-- room for this axis, and for those after it
here : (c : In-loop)
    → ((c.loop.at + (6 * c.args.g.most + 1) ≤ length c.args.reals.now) × (c.loop.at + (6 * c.args.g.most + 1) + (c.args.g.axes - (c.loop.counter + 1)) * (6 * c.args.g.most + 1) ≤ length c.args.reals.now))
    × ((c.loop.place + (3 * c.args.g.most + 2) ≤ length c.args.counts.now) × (c.loop.place + (3 * c.args.g.most + 2) + (c.args.g.axes - (c.loop.counter + 1)) * (3 * c.args.g.most + 2) ≤ length c.args.counts.now))
here c = (
  room_next c.args.g.axes c.loop.counter (6 * c.args.g.most + 1) c.loop.at (length c.args.reals.now) c.loop-test.true c.loop.invariant.0,
  room_next c.args.g.axes c.loop.counter (3 * c.args.g.most + 2) c.loop.place (length c.args.counts.now) c.loop-test.true c.loop.invariant.1,
)

pub loop-preserved : goal.loop-preserved
loop-preserved c = let r = here (goal.at.loop-preserved c).In-loop in (
  r.0.1,
  r.1.1,
  ap (λ (b : Bool). (c.loop.ok && b) && axes_fit (c.args.bins ∷ c.args.values.now) c.args.g.most c.args.reals.now c.args.counts.now (c.args.g.axes - (c.loop.counter + 1)) (c.loop.at + (6 * c.args.g.most + 1)) (c.loop.place + (3 * c.args.g.most + 2))) c.axis_fits-ok.ensures
      ∙ fit_on (c.args.bins ∷ c.args.values.now) c.args.g.most c.args.reals.now c.args.counts.now c.args.g.axes c.loop.counter c.loop.at c.loop.place c.loop.ok c.loop-test.true
      ∙ c.loop.invariant.2,
)

pub returns : goal.returns
returns c = sym (fit-out (c.args.bins ∷ c.args.values.now) c.args.g.most c.args.reals.now c.args.counts.now c.args.g.axes c.loop.counter c.loop.at c.loop.place c.loop.ok c.loop-test.false) ∙ c.loop.invariant.2
