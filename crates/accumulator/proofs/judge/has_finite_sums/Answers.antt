-- Four numbers, each less itself, add up to zero exactly where all four are finite.
use Rattle.doubles.proofs.Finites.{all-finite}
use Rattle.accumulator.specs.Record.{finite_sums}
use Rattle.accumulator.proofs.judge.has_finite_sums.Goals as goal

pub returns : goal.returns
unfolding finite_sums
returns c = all-finite c.args.a.sum c.args.a.sum_sq c.args.a.total_sum c.args.a.total_sum_sq
