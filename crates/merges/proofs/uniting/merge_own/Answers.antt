-- What is left to merge on the memory now is all of it on the memory after the grid's own accumulator.
use mathlib.Core.Path.{sym, ◌∙◌}
use native.Mathlib.Omega.{arith}
use lib.ListN.{length}
use Rattle.lent.specs.Memory.{memory}
use Rattle.lent.proofs.Unites.{bins-next, bins-done, own-united}
use Rattle.merges.proofs.Places.{bin-there, bin-united}
use Rattle.merges.proofs.uniting.merge_own.Goals as goal

pub join_account-requires-in-loop-i : goal.join_account-requires-in-loop-i
join_account-requires-in-loop-i c = let mine = bin-there c.args.table.now (length c.loop-i.reals) (length c.loop-i.counts) _ _ _ c.bin_place-b.ensures c.loop-i-test.true (omega (arith, c.requires.0.room, c.loop-i.invariant.0, c.join_account.auto.reals)) (omega (arith, c.requires.0.places, c.loop-i.invariant.1, c.join_account.auto.counts)) in
    let theirs = bin-there _ _ _ _ _ _ c.bin_place-far.ensures (omega (arith, c.requires.2, c.loop-i-test.true)) c.requires.1.room c.requires.1.places in
    (mine.1, mine.2, theirs.1, theirs.2)

pub loop-i-preserved : goal.loop-i-preserved
loop-i-preserved c = (c.join_account-in-loop-i.auto.reals ∙ c.loop-i.invariant.0, c.join_account-in-loop-i.auto.counts ∙ c.loop-i.invariant.1, bins-next _ _ _ _ _ _ _ _ _ c.loop-i-test.true (bin-united _ _ _ _ _ _ _ c.bin_place-b.ensures c.bin_place-far.ensures (memory c.args.o.reals.now c.args.o.counts.now) (memory c.loop-i.reals c.loop-i.counts) (memory c.join_account-in-loop-i.new.reals c.join_account-in-loop-i.new.counts) c.join_account-in-loop-i.ensures) ∙ c.loop-i.invariant.2)

pub returns : goal.returns
returns c = own-united _ _ _ _ _ _ _ _ c.join_account.ensures (sym (bins-done _ _ _ _ _ _ _ _ c.loop-i-test.false) ∙ c.loop-i.invariant.2)
