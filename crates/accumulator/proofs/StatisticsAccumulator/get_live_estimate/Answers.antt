-- What the iteration comes to names the refusal, or is what the estimates are made of.
use mathlib.Core.Path.{◌∙◌}
use mathlib.Core.Bool.{false}
use Rattle.std.proofs.lemmas.Result.{err_from_is_err_and}
use Rattle.accumulator.specs.Calls.{live_estimate_of}
use Rattle.accumulator.proofs.Ended.{ended-tally, stops, goes, figures}
use Rattle.accumulator.proofs.StatisticsAccumulator.get_live_estimate.Goals as goal

pub returns-in_err-figures : goal.returns-in_err-figures
unfolding live_estimate_of
returns-in_err-figures c = let p = err_from_is_err_and c.from_residual.result c.from_residual.ensures.1 in
    rw (p.1, p.2) (stops false c.args.self _ _ (c.in_err-figures.ensures ∙ ended-tally c.args.self false))

pub live-requires : goal.live-requires
live-requires c = figures false c.args.self _ (c.in_ok-figures.ensures ∙ ended-tally c.args.self false)

pub returns : goal.returns
unfolding live_estimate_of
returns c = rw c.live.ensures (goes false c.args.self _ _ (c.in_ok-figures.ensures ∙ ended-tally c.args.self false))
