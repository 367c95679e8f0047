-- The calls, put together, are the definition's figures, whatever all samples come to.
use Rattle.accumulator.specs.Update.{variance_of, figures_of}
use Rattle.accumulator.proofs.steps.figured_weighted.Goals as goal

pub returns : goal.returns
unfolding figures_of variance_of
returns c total squares all = rw (
  c.sqrt-err.ensures,
  c.inv-sigma.ensures,
  c.weight-weight.ensures,
  c.variance.ensures,
  c.sqrt.ensures,
)
