-- The test is the definition's own, so each way is one of its cases.
use Rattle.doubles.proofs.Truth.{failed, passed}
use Rattle.lent.specs.Laid.{where_roomy, empty_of}
use Rattle.lent.proofs.Rooms.{roomy-had}
use Rattle.ground.proofs.laying.empty_axis.Goals as goal

pub returns-then-not-is_roomy : goal.returns-then-not-is_roomy
unfolding empty_of where_roomy
returns-then-not-is_roomy c = rw (failed c.is_roomy.ensures c.if-not-is_roomy.true)

pub empty_axis_there-requires : goal.empty_axis_there-requires
empty_axis_there-requires c = roomy-had _ _ _ _ c.args.reals.now c.args.counts.now (passed c.is_roomy.ensures c.if-not-is_roomy.false)

pub returns : goal.returns
unfolding empty_of where_roomy
returns c = rw (passed c.is_roomy.ensures c.if-not-is_roomy.false) c.empty_axis_there.ensures
