-- `nearest` stops where the judge accepts, and each step on the way comes closer to the nearest. Assumes nothing.
use Rattle.careful.proofs.Judge.{near_of, near-root}
use Rattle.careful.proofs.digits.nearest.Goals as goal

pub loop-q-init : goal.loop-q-init
loop-q-init c = (c.requires.0, c.requires.1)

pub moved-q-requires : goal.moved-q-requires
moved-q-requires c = let i = c.loop-q.invariant in
    record { some = i.0; short = i.1; digits = c.requires.2; far = c.is_near.ensures.no c.loop-q-test.true }

pub loop-q-smaller : goal.loop-q-smaller
loop-q-smaller c = c.moved-q.ensures.nearer (near_of c.args.d) (near-root c.args.d c.requires.2).near

pub loop-q-preserved : goal.loop-q-preserved
loop-q-preserved c = (c.moved-q.ensures.some, c.moved-q.ensures.short)

pub returns : goal.returns
returns c = (c.is_near.ensures.yes c.loop-q-test.false, c.loop-q.invariant.1)
