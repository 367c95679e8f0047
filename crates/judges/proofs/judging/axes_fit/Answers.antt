-- The test is the definition's own: failed, the answer is no; passed, the axes are there to be judged.
use mathlib.Core.Path.{◌≡◌, ap₂}
use mathlib.Core.Bool.{true, ◌&&◌}
use mathlib.Core.List.{◌∷◌}
use lib.ListN.{length}
use Rattle.doubles.proofs.Truth.{both, failed, passed}
use Rattle.lent.specs.Layout.{axis_reals, axis_counts, roomy_axes}
use Rattle.lent.specs.Judged.{all_upto, axes_fit_of}
use Rattle.lent.proofs.Rooms.{axes-had, upto-had}
use Rattle.judges.proofs.judging.axes_fit.Goals as goal
use Rattle.judges.proofs.judging.axes_fit.Goals.{Else-not-room-are_upto}

pub returns-then-not-room-are_upto : goal.returns-then-not-room-are_upto
unfolding axes_fit_of
returns-then-not-room-are_upto c = rw (failed (ap₂ ◌&&◌ c.has_axes-room.ensures c.are_upto.ensures) c.if-not-room-are_upto.true)

there : (c : Else-not-room-are_upto)
    → (roomy_axes c.args.g.most c.args.g.axes c.args.g.reals c.args.g.counts (length c.args.reals.now) (length c.args.counts.now)
    && all_upto c.args.g.most (c.args.bins ∷ c.args.values.now)) ≡ true
there c = passed (ap₂ ◌&&◌ c.has_axes-room.ensures c.are_upto.ensures) c.if-not-room-are_upto.false

pub axes_fit_there-requires : goal.axes_fit_there-requires
unfolding axis_reals axis_counts
axes_fit_there-requires c = let e = both _ _ (there (goal.at.axes_fit_there-requires c).Else-not-room-are_upto) in
    let room = axes-had c.args.g.most c.args.g.axes c.args.g.reals c.args.g.counts (length c.args.reals.now) (length c.args.counts.now) e.0 in
    (room.0, upto-had c.args.g.most (c.args.bins ∷ c.args.values.now) e.1, room.2, room.3)

pub returns : goal.returns
unfolding axes_fit_of
returns c = rw (there (goal.at.returns c).Else-not-room-are_upto) c.axes_fit_there.ensures
