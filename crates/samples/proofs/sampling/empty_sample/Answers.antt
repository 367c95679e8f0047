-- Each array is the padding of nothing.
use mathlib.Core.Path.{refl}
use Rattle.lent.specs.Drawn.{padded}
use Rattle.lent.specs.Sampled.{laid_sample}
use Rattle.samples.proofs.sampling.empty_sample.Goals as goal

pub returns : goal.returns
unfolding laid_sample padded
returns c = refl
