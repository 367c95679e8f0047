-- Two pairs side by side are a number of four bytes.
use native.Mathlib.Omega.{arith}
use Rattle.plan.proofs.Numbers.{four_bytes}
use Rattle.plan.proofs.bytes.four_at.Goals as goal

pub returns : goal.returns
returns c = (rw (c.pair_at-low.ensures.0, c.pair_at-high.ensures.0) (four_bytes _ _), omega (arith, c.pair_at-low.ensures.1, c.pair_at-high.ensures.1))
