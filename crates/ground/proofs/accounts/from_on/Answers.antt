-- The entries from the place on are laid over as many of the value; past the last entry there is nothing to lay.
use mathlib.Core.Path.{ap, ◌∙◌}
use mathlib.Core.List.{List}
use lib.ListN.{replicate}
use lib.Seq.{sets}
use Rattle.lent.specs.Memory.{from_on}
use Rattle.lent.proofs.Runs.{from_out, rest-whole}
use Rattle.ground.proofs.accounts.from_on.Goals as goal

pub returns-then-at-entries : goal.returns-then-at-entries
unfolding from_on
returns-then-at-entries g c = c.set.ensures ∙ ap (λ (ys : List g.row.T.Denot). sets (replicate g.row.N c.args.missing) 0 ys) (rest-whole c.args.at c.args.entries.now)

pub returns-else-at-entries : goal.returns-else-at-entries
returns-else-at-entries g c = from_out g.row.N c.args.missing c.args.at c.args.entries.now c.if-at-entries.false
