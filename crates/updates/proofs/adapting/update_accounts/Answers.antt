-- `adapting::update_accounts` meets its contract: what was found so far with the update of the bins left is the update of all.
use mathlib.Core.Path.{◌≡◌, refl, sym, ◌∙◌}
use Prim.Native.Nat.{◌+◌, ◌-◌}
use native.Mathlib.Omega.{arith}
use Rattle.lent.specs.Memory.{memory}
use Rattle.lent.specs.Renewed.{finding}
use Rattle.lent.specs.Adapted.{followed}
use Rattle.updates.proofs.Own.{accounts-next, accounts-done}
use Rattle.updates.proofs.adapting.update_accounts.Goals as goal

pub update_account-requires : goal.update_account-requires
update_account-requires c = (omega (arith, c.requires, c.loop-i-test.true, c.loop-i.invariant.0), omega (arith, c.requires, c.loop-i-test.true, c.loop-i.invariant.1))

pub loop-i-preserved : goal.loop-i-preserved
loop-i-preserved c = (c.update_account.auto.reals ∙ c.loop-i.invariant.0, c.update_account.auto.counts ∙ c.loop-i.invariant.1, accounts-next (c.args.b.reals + 14 + c.args.b.bins) (c.args.b.counts + 7) c.args.b.bins c.loop-i.i c.loop-i.found c.update_account.result c.bitor_assign.new.self (memory c.loop-i.reals c.loop-i.counts) (memory c.update_account.new.reals c.update_account.new.counts) c.loop-i-test.true c.bitor_assign.ensures.after c.update_account.ensures ∙ c.loop-i.invariant.2)

pub returns : goal.returns
returns c = sym (accounts-done (c.args.b.reals + 14 + c.args.b.bins) (c.args.b.counts + 7) c.args.b.bins c.loop-i.i (finding c.loop-i.found.eight c.loop-i.found.nine (memory c.loop-i.reals c.loop-i.counts)) c.loop-i-test.false) ∙ c.loop-i.invariant.2

pub loop-i-init : goal.loop-i-init
unfolding followed
loop-i-init c = let e : c.args.b.bins - 0 ≡ c.args.b.bins = omega arith in (refl, refl, rw e)
