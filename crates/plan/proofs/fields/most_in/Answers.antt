-- Two bytes stand in each value.
use Rattle.std.proofs.Common.{rules}
use Rattle.plan.specs.Numbers.{number_at, values_at}
use Rattle.plan.proofs.fields.most_in.Goals as goal

pub returns : goal.returns
unfolding values_at
returns c = c.most_of.ensures (λ j. number_at c.args.bytes.now j 2) 2 c.args.at (λ i x h k. search rules)
