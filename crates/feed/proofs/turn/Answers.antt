-- What is due decides, and no turn takes more bytes than there are.
use Rattle.std.proofs.Common.{ap, arith}
use Rattle.feed.specs.Said.{Said}
use Rattle.lent.specs.Memory.{memory}
use Rattle.feed.specs.Turns.{turn_end, turn_by}
use Rattle.feed.proofs.Rungs.{turn-due}
use Rattle.feed.proofs.Within.{turned-within}
use Rattle.feed.proofs.turn.Goals as goal

pub returns-in-Plan : goal.returns-in-Plan
unfolding turn_by
returns-in-Plan c = let e = turn-due _ _ _ _ _ _ _ _ _ c.in-Plan.is c.read_plan.ensures in
    record { counts_after = e; taken_in_bounds = turned-within _ _ _ _ _ _ _ _ (λ i. omega (arith, c.type_inv.bytes i)) e }

pub returns-in-Stream : goal.returns-in-Stream
unfolding turn_by
returns-in-Stream c = let e = turn-due _ _ _ _ _ _ _ _ _ c.in-Stream.is (ap (λ (o : Said). turn_end o c.args.table.now (memory c.args.reals.now c.args.counts.now)) c.read_stream.ensures) in
    record { counts_after = e; taken_in_bounds = turned-within _ _ _ _ _ _ _ _ (λ i. omega (arith, c.type_inv.bytes i)) e }

pub returns-in-Samples : goal.returns-in-Samples
unfolding turn_by
returns-in-Samples c = let e = turn-due _ _ _ _ _ _ _ _ _ c.in-Samples.is c.read_samples.ensures in
    record { counts_after = e; taken_in_bounds = turned-within _ _ _ _ _ _ _ _ (λ i. omega (arith, c.type_inv.bytes i)) e }

pub returns-in-Over : goal.returns-in-Over
unfolding turn_by
returns-in-Over c = let e = turn-due _ _ _ _ _ _ _ _ _ c.in-Over.is (ap (λ (o : Said). turn_end o c.args.table.now (memory c.args.reals.now c.args.counts.now)) c.waits.ensures) in
    record { counts_after = e; taken_in_bounds = turned-within _ _ _ _ _ _ _ _ (λ i. omega (arith, c.type_inv.bytes i)) e }
