-- The part that is lent is the stretch.
use Rattle.lent.proofs.Judges.{part}
use Rattle.judges.proofs.judging.part.Goals as goal

pub returns : goal.returns
returns g c = part c.args.at c.args.n c.args.entries.now
