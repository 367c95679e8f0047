-- `renewal::update_each` meets its contract: what is left to update, with what was found, stays the whole.
use Rattle.lent.specs.Memory.{memory}
use mathlib.Core.Path.{◌≡◌}
use lib.ListN.{length}
use Rattle.lent.specs.Renewed.{update_all_at}
use Rattle.lent.proofs.Changes.{Going}
use Rattle.updates.proofs.renewal.update_each.Given as goal

abbrev pub invariant-loop : goal.invariant-loop
invariant-loop l = Going l.rule l.values l.rate l.most l.initial.reals l.initial.counts l.axes (update_all_at l.rule l.values l.rate l.most l.axes l.initial.r l.initial.c (memory l.initial.reals l.initial.counts)) l.reals l.counts l.found.eight l.found.nine l.r l.c l.counter
    × (length l.importances ≡ length l.initial.importances) × (length l.counters ≡ length l.initial.counters)
