-- `careful_root`: the judge answers the root from any guess. Assumes nothing.
use Rattle.std.proofs.Common.{◌^◌, ◌<◌, T, arith}
use lib.Ieee.{binary64, fits}
use lib.Ieee.Positive.{positive}
use Rattle.doubles.proofs.Truth.{was, passed}
use Rattle.doubles.proofs.Bits.{no_nan, splits}
use Rattle.root.proofs.positive.careful_root.Goals as goal
use Rattle.root.proofs.positive.careful_root.Goals.{After-split-p, Else-not-above_zero, Start}

held : (c : Start) → T (fits binary64 c.args.x)
held c = was c.well_formed.0.1

above : (c : Else-not-above_zero) → T (positive c.args.x)
above c = was (passed c.above_zero.ensures c.if-not-above_zero.false)

pub float_to_bits-x : goal.float_to_bits-x
float_to_bits-x c = no_nan c.args.x (above (goal.at.float_to_bits-x c).Else-not-above_zero)

short : (c : After-split-p) → c.split-p.result.digits < 2 ^ 53
short c = (splits c.args.x c.split-p.result (held c.before.before.before) (above c.before) c.split-p.ensures).short

pub overflow_add-p : goal.overflow_add-p
overflow_add-p c = let h = short (goal.at.overflow_add-p c).After-split-p in omega arith

pub guess-requires : goal.guess-requires
guess-requires c = let h = short (goal.at.guess-requires c).After-split-p in omega arith
