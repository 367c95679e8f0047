-- The same judge, with the state as its own destination.
use mathlib.Core.Path.{◌∙◌}
use Rattle.judges.proofs.Itself.{fault-itself}
use Rattle.judges.proofs.state.fault.Goals as goal

pub returns : goal.returns
returns c = c.fault_to.ensures ∙ fault-itself c.args.table.now c.args.reals.now c.args.counts.now
