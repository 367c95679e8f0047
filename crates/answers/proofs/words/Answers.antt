-- The definition's own quotient: the length divided by 17.
use mathlib.Core.Path.{refl}
use Rattle.answers.specs.List.{words_of}
use Rattle.answers.proofs.words.Goals as goal

pub returns : goal.returns
unfolding words_of
returns c = refl
