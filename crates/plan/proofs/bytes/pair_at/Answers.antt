-- Two bytes side by side are a number below 65,536.
use native.Mathlib.Omega.{arith}
use Rattle.plan.proofs.Numbers.{two_bytes}
use Rattle.plan.proofs.bytes.pair_at.Goals as goal

pub returns : goal.returns
returns c = (rw (c.byte_at-low.ensures.0, c.byte_at-high.ensures.0) (two_bytes _ _), omega (arith, c.byte_at-low.ensures.1, c.byte_at-high.ensures.1))
