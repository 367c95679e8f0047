-- The test is the definition's own, so each way is one of its cases.
use Rattle.doubles.proofs.Truth.{failed, passed}
use Rattle.lent.specs.Laid.{where_roomy, waitless_of}
use Rattle.lent.proofs.Rooms.{roomy-had}
use Rattle.ground.proofs.laying.clear_waiting.Goals as goal

pub returns-then-not-is_roomy : goal.returns-then-not-is_roomy
unfolding waitless_of where_roomy
returns-then-not-is_roomy c = rw (failed c.is_roomy.ensures c.if-not-is_roomy.true)

pub clear_waiting_there-requires : goal.clear_waiting_there-requires
clear_waiting_there-requires c = roomy-had _ _ _ _ c.args.reals.now c.args.counts.now (passed c.is_roomy.ensures c.if-not-is_roomy.false)

pub returns : goal.returns
unfolding waitless_of where_roomy
returns c = rw (passed c.is_roomy.ensures c.if-not-is_roomy.false) c.clear_waiting_there.ensures
