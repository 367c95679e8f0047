-- 04 is no plan; any other tag is left to the walk over the fields.
use Rattle.plan.proofs.Calls.{grid-none, grid-some}
use Rattle.plan.proofs.judge.Goals as goal

pub returns-then-byte_at-eq4 : goal.returns-then-byte_at-eq4
returns-then-byte_at-eq4 c = grid-none _ c.byte_at.ensures.0 c.if-byte_at-eq4.true

pub returns : goal.returns
returns c = grid-some _ c.byte_at.ensures.0 c.if-byte_at-eq4.false c.start.ensures c.measure.ensures
