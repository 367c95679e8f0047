-- The calls, put together, are the definition's figures.
use Rattle.accumulator.specs.Update.{variance_of, figures_of}
use Rattle.accumulator.proofs.steps.figured_plain.Goals as goal

pub returns : goal.returns
unfolding figures_of variance_of
returns c = rw (
  c.sqrt-err.ensures,
  c.variance-2.ensures,
  c.inv-sigma.ensures,
  c.weight-weight.ensures,
  c.variance.ensures,
  c.sqrt-root_of_all.ensures,
  c.sqrt-root.ensures,
)
