-- `words_for` divides before it adds, so that nothing wraps.
use Rattle.std.proofs.Common.{arith}
use Rattle.stream.specs.Calls.{words_for}
use Rattle.stream.proofs.words_for.Goals as goal

pub returns : goal.returns
unfolding words_for
returns c = omega arith
