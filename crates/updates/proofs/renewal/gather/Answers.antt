-- `renewal::gather` meets its contract: a copy of the one column, and the other joined to it.
use mathlib.Core.Path.{ap₂, ◌∙◌}
use lib.ListN.{length}
use Rattle.lent.proofs.Lays.{lent-stretch}
use Rattle.updates.proofs.renewal.gather.Goals as goal

pub returns : goal.returns
returns g c h p = let n = length c.args.room.now in
    p _ _ _ _ c.join.ensures ∙ ap₂ h (c.copy_from_slice.ensures.after ∙ lent-stretch c.args.start n c.args.entries.now) (lent-stretch c.args.from n c.args.entries.now)
