-- Two edges at least, the first 0, the last 1, tested in the definition's order; then `is_rising` is all that is left of it.
use lib.ListN.{length, get_or}
use lib.Ieee.{nan, eq}
use Prim.Native.Nat.{◌-◌}
use Rattle.doubles.specs.Numbers.{zero64, one64}
use borrow.Author.Tests.{lt-leb, le-leb, not-true, not-false}
use lib.Ieee.{ne}
use Rattle.axis.specs.Edges.{bins_of, well_formed}
use Rattle.axis.proofs.scans.is_well_formed.Goals as goal

pub returns-then-n-lt2 : goal.returns-then-n-lt2
unfolding well_formed
returns-then-n-lt2 c = rw (lt-leb _ _ c.if-n-lt2.true)

pub returns-then-edges : goal.returns-then-edges
unfolding well_formed ne
returns-then-edges c = rw (le-leb _ _ c.if-n-lt2.false, not-true (eq (get_or c.args.edges.now 0 nan) zero64) c.if-edges.true)

pub returns-then-edges-n : goal.returns-then-edges-n
unfolding well_formed bins_of ne
returns-then-edges-n c = rw (le-leb _ _ c.if-n-lt2.false, not-false (eq (get_or c.args.edges.now 0 nan) zero64) c.if-edges.false, not-true (eq (get_or c.args.edges.now (length c.args.edges.now - 1) nan) one64) c.if-edges-n.true)

pub returns : goal.returns
unfolding well_formed bins_of ne
returns c = rw (le-leb _ _ c.if-n-lt2.false, not-false (eq (get_or c.args.edges.now 0 nan) zero64) c.if-edges.false, not-false (eq (get_or c.args.edges.now (length c.args.edges.now - 1) nan) one64) c.if-edges-n.false) c.is_rising.ensures
