-- Shift, exclusive or and wrapping product twice, then a last shift and exclusive or, in the order of `mix_of`.
use Rattle.std.proofs.Common.{refl}
use Rattle.stream.specs.Words.{times, shifted_down}
use Rattle.stream.specs.SplitMix.{mix_of, first_mix, second_mix}
use Rattle.stream.proofs.mix.Goals as goal

pub returns : goal.returns
unfolding mix_of first_mix second_mix times shifted_down
returns c = refl
