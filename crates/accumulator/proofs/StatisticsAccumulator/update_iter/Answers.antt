-- What the iteration comes to names the refusal, or is what the record after it is made of.
use mathlib.Core.Path.{◌≡◌, sym, ◌∙◌, ap}
use Rattle.std.proofs.lemmas.Result.{err_from_is_err_and}
use Rattle.doubles.specs.Refusal.{paper}
use Rattle.accumulator.specs.Update.{enough}
use Rattle.accumulator.specs.Calls.{update_of}
use Rattle.accumulator.specs.Ended.{ended_of}
use Rattle.accumulator.proofs.Counts.{counts_of_lem}
use Rattle.accumulator.proofs.Ended.{ended-tally, ended-given, may-end, stops, goes, figures}
use Rattle.accumulator.proofs.StatisticsAccumulator.update_iter.Goals as goal
use Rattle.accumulator.proofs.StatisticsAccumulator.update_iter.Goals.{Joined-self-lt2, then-self-lt2, else-self-lt2}

-- by either call
ended : (c : Joined-self-lt2) → paper c.if-self-lt2.figures ≡ ended_of c.args.weighted_average c.args.self
ended c = elim c.if-self-lt2.branch [ then-self-lt2 w ↦ ap paper w.figures-is ∙ w.figures_of-figures.ensures ∙ ended-tally _ _ | else-self-lt2 w ↦ ap paper w.figures-is ∙ w.figures_of-figures-else-self-lt2.ensures ∙ ended-tally _ _ ]

pub returns-in_err-figures : goal.returns-in_err-figures
unfolding update_of
returns-in_err-figures c = let p = err_from_is_err_and c.from_residual.result c.from_residual.ensures.1 in
    rw (p.1, p.2) (stops c.args.weighted_average c.args.self _ _ (sym (ap paper c.in_err-figures.was) ∙ ended (goal.at.returns-in_err-figures c).Joined-self-lt2))

pub updated-requires : goal.updated-requires
updated-requires c = let e = sym (ap paper c.in_ok-figures.was) ∙ ended (goal.at.updated-requires c).Joined-self-lt2 in
    let z = (ended-given c.args.weighted_average c.args.self _ e).0 in
    (counts_of_lem _ (may-end c.args.weighted_average c.args.self z).0, figures c.args.weighted_average c.args.self _ e)

pub returns : goal.returns
unfolding update_of enough
returns c = rw c.updated.ensures (goes c.args.weighted_average c.args.self _ _ (sym (ap paper c.in_ok-figures.was) ∙ ended (goal.at.returns c).Joined-self-lt2))
