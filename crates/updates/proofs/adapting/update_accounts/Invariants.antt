-- `adapting::update_accounts` meets its contract: what was found so far with the update of the bins left is the update of all.
use mathlib.Core.Path.{◌≡◌}
use Prim.Native.Nat.{◌-◌}
use lib.ListN.{length}
use Rattle.lent.specs.Memory.{memory}
use Rattle.lent.specs.Renewed.{finding}
use Rattle.lent.specs.Adapted.{followed}
use Rattle.updates.specs.Own.{bins_updated}
use Rattle.updates.proofs.adapting.update_accounts.Given as goal

abbrev pub invariant-loop-i : goal.invariant-loop-i
invariant-loop-i l = (length l.reals ≡ length l.initial.reals) × (length l.counts ≡ length l.initial.counts) × (followed (finding l.found.eight l.found.nine (memory l.reals l.counts)) (bins_updated l.r l.c l.i (l.n - l.i)) ≡ bins_updated l.r l.c 0 l.n (memory l.initial.reals l.initial.counts))
