-- `adapting::find_raws` meets its contract: the raw probabilities written with those of the bins left are those of all.
use mathlib.Core.Path.{◌≡◌}
use mathlib.Core.List.{◌++◌}
use Prim.Native.Nat.{◌-◌}
use lib.ListN.{length, take}
use Rattle.lent.specs.Memory.{memory}
use Rattle.updates.specs.Own.{bins_raws}
use Rattle.updates.proofs.adapting.find_raws.Given as goal

abbrev pub invariant-loop-i : goal.invariant-loop-i
invariant-loop-i l = (length l.raws ≡ l.b.bins) × (take l.i l.raws ++ bins_raws l.b (memory l.reals l.counts) l.i (l.b.bins - l.i) ≡ bins_raws l.b (memory l.reals l.counts) 0 l.b.bins)
