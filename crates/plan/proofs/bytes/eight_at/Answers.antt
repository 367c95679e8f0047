-- Two fours side by side are a number of eight bytes.
use Rattle.plan.proofs.Numbers.{eight-bytes}
use Rattle.plan.proofs.bytes.eight_at.Goals as goal

pub returns : goal.returns
returns c = rw (c.four_at-low.ensures.0, c.four_at-high.ensures.0) (eight-bytes _ _)
