-- The search from `base` over `size` bins stays the whole search; each halving is one step of it, and the size falls.
use mathlib.Core.Path.{◌≡◌}
use Prim.Native.Nat.{◌+◌, ◌<◌}
use lib.ListN.{length}
use Rattle.axis.specs.Search.{searched, search_of}
use Rattle.axis.proofs.edges.bin_of.Given as goal

abbrev pub invariant-loop-size : goal.invariant-loop-size
invariant-loop-size l = (0 < l.size) × (l.base + l.size < length l.edges) × (searched l.size l.edges l.x l.base l.size ≡ search_of l.edges l.x)

abbrev pub decreases-loop-size : goal.decreases-loop-size
decreases-loop-size l = l.size
