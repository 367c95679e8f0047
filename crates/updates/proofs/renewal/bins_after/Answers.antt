-- `renewal::bins_after` meets its contract: no values, a value, the last value.
use native.Mathlib.Omega.{arith}
use Rattle.lent.proofs.Renewals.{bins-none, bins-listed, bins-last}
use Rattle.updates.proofs.renewal.bins_after.Goals as goal

pub returns-then-k-eq0 : goal.returns-then-k-eq0
returns-then-k-eq0 c = bins-none _ _ _ c.if-k-eq0.true

pub returns : goal.returns
returns c = bins-last _ _ _ (omega (arith, c.if-k-eq0.false)) c.if-recuts-k.false

pub returns-then-recuts-k : goal.returns-then-recuts-k
returns-then-recuts-k c = bins-listed _ _ _ c.if-recuts-k.true
