-- A refusal is an 8 and leaves memory; else what is stored is the update of the record that the definition reads.
use Rattle.lent.specs.Memory.{memory}
use Rattle.lent.proofs.Adapts.{account-stepped, account-refused}
use Rattle.updates.proofs.adapting.update_account.Goals as goal

pub returns-in-Ok : goal.returns-in-Ok
returns-in-Ok c = account-stepped c.args.r c.args.c (memory c.args.reals.now c.args.counts.now) c.update_iter.result c.load.result c.load.ensures c.update_iter.ensures _ _ c.in-Ok.is c.store.ensures

pub returns-in-Err : goal.returns-in-Err
returns-in-Err c = account-refused c.args.r c.args.c (memory c.args.reals.now c.args.counts.now) c.update_iter.result c.load.result c.load.ensures c.update_iter.ensures _ c.in-Err.is
