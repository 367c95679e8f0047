-- An axis's update to the number of bins that follows is its update by the plan's rule and list of values.
use mathlib.Core.Path.{◌≡◌, ap}
use mathlib.Core.List.{List, []}
use Prim.Native.Nat.{ℕ, ◌+◌}
use lib.ListN.{get_or}
use lib.Ieee.{Float}
use Rattle.model.specs.Update.{last_or}
use Rattle.lent.specs.declared.Rule.{Rule}
use Rattle.lent.specs.Memory.{Memory}
use Rattle.lent.specs.Renewed.{bins_to, recut_at, adapted_at, update_at}

pub next-bins : (rule : Rule) (values : List ℕ) (rate : Float) (m r c : ℕ) (s : Memory) (n : ℕ) → n ≡ bins_to rule values (get_or s.counts (c + 1) 0)
    → update_at (record { bins = n; least = rule.least; averages = rule.averages }) [] rate m r c s ≡ update_at rule values rate m r c s
unfolding update_at adapted_at recut_at bins_to last_or
next-bins rule values rate m r c s n e = ap (λ (j : ℕ). update_at (record { bins = j; least = rule.least; averages = rule.averages }) [] rate m r c s) e
