-- `adapting::adapt_bins` meets its contract: each return by the law of its case.
use Rattle.lent.specs.Memory.{memory}
use Rattle.updates.proofs.Own.{own-idle, own-adapted}
use Rattle.updates.proofs.adapting.adapt_bins.Goals as goal

pub returns-then-rate-are_idle : goal.returns-then-rate-are_idle
returns-then-rate-are_idle c = own-idle c.args.b (memory c.args.reals.now c.args.counts.now) c.args.rate c.are_idle.result c.are_idle.ensures c.if-rate-are_idle.true

pub returns : goal.returns
returns c = own-adapted c.args.b (memory c.args.reals.now c.args.counts.now) c.args.rate c.are_idle.result c.adapt_chances-chances.result c.update_account-own.result c.bitor.result (memory c.adapt_chances-chances.new.reals c.args.counts.now) (memory c.update_account-own.new.reals c.update_account-own.new.counts) c.are_idle.ensures c.if-rate-are_idle.false c.adapt_chances-chances.ensures c.update_account-own.ensures c.bitor.ensures
