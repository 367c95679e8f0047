-- `accounts::load` meets its contract: the 14 reals and 7 counts from its places on are those of the record.
use mathlib.Core.Path.{ap₂, ◌∙◌}
use lib.Ieee.{of_bits}
use Rattle.lent.specs.Memory.{record_from}
use Rattle.lent.proofs.Runs.{record-from}
use Rattle.ground.proofs.accounts.load.Goals as goal

pub returns : goal.returns
unfolding record_from of_bits
returns c = ap₂ record_from c.from_on-x.ensures c.from_on-n.ensures ∙ record-from c.args.reals.now c.args.counts.now c.args.r c.args.c
