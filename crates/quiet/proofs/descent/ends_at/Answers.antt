-- A path with levels left does not end here; at its end having no coordinates is all that the definition asks.
use Rattle.lent.proofs.Paths.{ends-over, ends-bare}
use Rattle.quiet.proofs.descent.ends_at.Goals as goal

pub returns-then-depth-p : goal.returns-then-depth-p
returns-then-depth-p c = ends-over c.args.p c.args.depth c.if-depth-p.true

pub returns : goal.returns
returns c = ends-bare c.args.p c.args.depth c.if-depth-p.false
