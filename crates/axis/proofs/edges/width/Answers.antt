-- Past the last edge the definition takes NaN from a number, and a difference with NaN is NaN.
use mathlib.Core.Path.{sym, ap, ◌∙◌}
use lib.ListN.{get_or, get_or-eq_default}
use lib.Ieee.{nan, binary64, sub, of_bits}
use Prim.Native.Nat.{◌+◌}
use Rattle.axis.specs.Edges.{width_of}
use Rattle.axis.proofs.Lists.{sub-nan}
use Rattle.axis.proofs.edges.width.Goals as goal

pub returns-then-i-edges : goal.returns-then-i-edges
unfolding width_of
returns-then-i-edges c = rw c.edge.ensures

pub returns : goal.returns
unfolding width_of of_bits
returns c = sym (ap (sub binary64 (get_or c.args.edges.now (c.args.i + 1) nan)) (get_or-eq_default c.args.edges.now nan c.if-i-edges.false) ∙ sub-nan (get_or c.args.edges.now (c.args.i + 1) nan))
