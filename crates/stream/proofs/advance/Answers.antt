-- The sum that wraps is the definition's `plus`.
use Rattle.std.proofs.Common.{refl}
use Rattle.stream.specs.Words.{plus}
use Rattle.stream.specs.SplitMix.{advanced}
use Rattle.stream.proofs.advance.Goals as goal

pub returns : goal.returns
unfolding advanced plus
returns c = refl
