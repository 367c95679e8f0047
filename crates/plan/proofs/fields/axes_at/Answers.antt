-- Each number is read where the definition reads it; no place wraps.
use native.Mathlib.Omega.{arith}
use Rattle.plan.specs.Fields.{axes_at}
use Rattle.plan.proofs.Ranges.{scan-or}
use Rattle.plan.proofs.fields.axes_at.Goals as goal

pub returns : goal.returns
unfolding axes_at
returns c = (rw (c.byte_at.ensures.0, c.pair_at-bins.ensures.0, c.four_at.ensures.0, c.byte_at-2.ensures.0, c.eight_at.ensures, c.unwrap_or.ensures, c.most_in.ensures, scan-or, c.values_in-values.ensures.0, c.pair_at-bins.ensures.0), omega (arith, c.values_in-values.ensures.1))
