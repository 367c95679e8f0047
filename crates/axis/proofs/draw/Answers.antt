-- Edges that are not well formed are refused with 12; on the others `point_of` gives the definition's point.
use Rattle.doubles.proofs.Truth.{failed, passed}
use Rattle.axis.specs.Calls.{draw_of}
use Rattle.axis.proofs.draw.Goals as goal

pub returns-then-not-is_well_formed : goal.returns-then-not-is_well_formed
unfolding draw_of
returns-then-not-is_well_formed c = rw (failed c.is_well_formed.ensures c.if-not-is_well_formed.true)

pub returns : goal.returns
unfolding draw_of
returns c = rw (passed c.is_well_formed.ensures c.if-not-is_well_formed.false, c.point_of.ensures)
