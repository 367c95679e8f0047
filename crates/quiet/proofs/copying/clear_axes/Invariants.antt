-- `copying::clear_axes` meets its contract: what is left to clear in memory as it is now makes what all of it makes of memory at entry.
use mathlib.Core.Path.{◌≡◌}
use lib.ListN.{length}
use Rattle.lent.specs.Memory.{memory}
use Rattle.lent.specs.Drawn.{Stands}
use Rattle.lent.specs.Cleared.{cleared_memory}
use Rattle.lent.proofs.Same.{Same}
use Rattle.quiet.proofs.copying.clear_axes.Given as goal

abbrev pub invariant-loop-left : goal.invariant-loop-left
invariant-loop-left l = Stands l.initial.reals l.initial.counts l.left × (length l.reals ≡ length l.initial.reals) × Same 0 l.left.counts (length l.initial.counts) l.counts l.initial.counts
    × (cleared_memory l.left (memory l.reals l.counts) ≡ cleared_memory l.initial.left (memory l.initial.reals l.initial.counts))

abbrev pub decreases-loop-left : goal.decreases-loop-left
decreases-loop-left l = l.left.axes
