-- `ok`, and rising from edge k - 1 on, is the answer at every turn, which compares one more pair of neighbours.
use mathlib.Core.Path.{◌≡◌}
use mathlib.Core.Bool.{◌&&◌}
use Prim.Native.Nat.{◌-◌}
use lib.ListN.{drop}
use Rattle.axis.specs.Edges.{rising}
use Rattle.axis.proofs.scans.is_rising.Given as goal

abbrev pub invariant-loop-k : goal.invariant-loop-k
invariant-loop-k l = (l.ok && rising (drop (l.k - 1) l.edges)) ≡ rising l.edges
