-- No place is left, or the part is copied as far as there is room.
use mathlib.Core.Path.{sym}
use Rattle.doubles.proofs.Runs.{sets-out}
use Rattle.ground.proofs.Runs.{sets-part}
use Rattle.ground.proofs.parts.set.Goals as goal

pub returns-then-entries-at : goal.returns-then-entries-at
returns-then-entries-at g c = sym (sets-out c.args.part.now c.args.entries.now c.args.at c.if-entries-at.true)

pub returns : goal.returns
returns g c = sets-part c.args.part.now c.args.entries.now c.copy_from_slice.new.self c.args.at c.min-n.result c.if-entries-at.false c.min-n.ensures c.copy_from_slice.ensures.after
