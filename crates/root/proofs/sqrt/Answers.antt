-- `sqrt`: a guess that passes the test is the root; else the judge answers. Assumes nothing.
use Rattle.std.proofs.Common.{◌≡◌, true, T, refl}
use lib.Ieee.{binary64, fits, lt}
use Rattle.doubles.specs.Numbers.{zero64}
use Rattle.doubles.proofs.Truth.{was, passed}
use Rattle.root.proofs.Settled.{above_no_nan, plus, settles}
use Rattle.root.proofs.sqrt.Goals as goal
use Rattle.root.proofs.sqrt.Goals.{Else-not-x, Start}

held : (c : Start) → T (fits binary64 c.args.x)
held c = was c.well_formed.0.1

above : (c : Else-not-x) → lt zero64 c.args.x ≡ true
above c = passed refl c.if-not-x.false

pub float_to_bits-bits : goal.float_to_bits-bits
float_to_bits-bits c = above_no_nan c.args.x (above (goal.at.float_to_bits-bits c).Else-not-x)

pub guess-g-requires : goal.guess-g-requires
guess-g-requires c = plus c.args.x (held (goal.at.guess-g-requires c).Start) (above (goal.at.guess-g-requires c).Else-not-x)

pub float_to_bits-g : goal.float_to_bits-g
float_to_bits-g c = above_no_nan c.guess-g.result c.if-g.true

pub returns-then-is_root : goal.returns-then-is_root
returns-then-is_root c = settles c.args.x c.guess-g.result (held (goal.at.returns-then-is_root c).Start) (was c.guess-g.type_inv) (above (goal.at.returns-then-is_root c).Else-not-x) (c.is_root.ensures c.if-is_root.true)
