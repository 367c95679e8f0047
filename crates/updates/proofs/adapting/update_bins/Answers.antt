-- `adapting::update_bins` meets its contract: what its run says is what the table says.
use Rattle.lent.specs.Memory.{memory}
use Rattle.updates.proofs.Own.{own-told, fits-still}
use Rattle.updates.proofs.adapting.update_bins.Goals as goal

pub adapt_bins-own-requires : goal.adapt_bins-own-requires
adapt_bins-own-requires c = fits-still c.bins_place-b.ensures c.update_accounts-accounts.auto.reals c.update_accounts-accounts.auto.counts c.requires.1

pub returns : goal.returns
returns c = own-told c.args.table.now c.args.w c.args.rate c.bins_place-b.result c.update_accounts-accounts.result c.adapt_bins-own.result c.bitor.result (memory c.args.reals.now c.args.counts.now) (memory c.update_accounts-accounts.new.reals c.update_accounts-accounts.new.counts) (memory c.adapt_bins-own.new.reals c.adapt_bins-own.new.counts) c.bins_place-b.ensures c.update_accounts-accounts.ensures c.adapt_bins-own.ensures c.bitor.ensures
