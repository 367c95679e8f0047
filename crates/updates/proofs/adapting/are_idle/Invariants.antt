-- `adapting::are_idle` meets its contract: what holds of the bins so far and of those left holds of all.
use mathlib.Core.Path.{◌≡◌}
use mathlib.Core.Bool.{◌&&◌}
use Prim.Native.Nat.{◌-◌}
use Rattle.lent.specs.Memory.{memory}
use Rattle.updates.specs.Own.{bins_idle}
use Rattle.updates.proofs.adapting.are_idle.Given as goal

abbrev pub invariant-loop-i : goal.invariant-loop-i
invariant-loop-i l = ((l.all && bins_idle l.b (memory l.reals l.counts) l.i (l.n - l.i)) ≡ bins_idle l.b (memory l.reals l.counts) 0 l.n)
