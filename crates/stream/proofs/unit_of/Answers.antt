-- A word's top 53 bits are exact as a double, and times 2^-53 they round as their quotient by 2^53 does (`scaled`).
use Rattle.std.proofs.Common.{le_of_lt, le→leb, shr_lt}
use lib.Ieee.{in_float}
use Rattle.stream.specs.Calls.{unit_of}
use Rattle.stream.proofs.Units.{scaled}
use Rattle.stream.proofs.unit_of.Goals as goal

pub int_to_float-result : goal.int_to_float-result
unfolding in_float
int_to_float-result c = le→leb _ _ (le_of_lt (shr_lt 53 11 c.ranges.word.fits))

pub returns : goal.returns
unfolding unit_of
returns c = scaled _ (shr_lt 53 11 c.ranges.word.fits)
