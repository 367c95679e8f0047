-- The jumps left, made from the stream reached, stay the jumps that were asked for.
use Rattle.std.proofs.Common.{◌≡◌, ◌-◌, sym, ap, ◌∙◌, arith}
use Rattle.stream.specs.Jumps.{jumps_of}
use Rattle.stream.proofs.Walks.{jump-on}
use Rattle.stream.proofs.MonteCarloRng.jumps.Goals as goal

pub loop-preserved : goal.loop-preserved
loop-preserved c = ap (jumps_of _) c.jump-stream.ensures ∙ sym (jump-on _ _ _ c.loop-test.true) ∙ c.loop.invariant

pub returns : goal.returns
unfolding jumps_of
returns c = let e : c.args.count - c.loop.counter ≡ 0 = omega arith in rw e at c.loop.invariant
