-- `count` is the cast where that is exact, else std's nearest double. Assumes nothing.
use Rattle.std.proofs.Common.{refl, le→leb}
use lib.Ieee.{in_float}
use Rattle.doubles.specs.Count.{count_of}
use Rattle.plain.proofs.count.Goals as goal

pub int_to_float-result : goal.int_to_float-result
unfolding in_float
int_to_float-result c = le→leb _ _ c.if-n-le9007199254740992.true

pub returns-then-n-le9007199254740992 : goal.returns-then-n-le9007199254740992
unfolding count_of
returns-then-n-le9007199254740992 c = refl

pub returns : goal.returns
unfolding count_of
returns c = c.nearest_u64_to_f64.ensures
