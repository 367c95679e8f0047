-- `step`: the place behind the turn lies within the bytes, and where it goes on the turn took some.
use mathlib.Core.Path.{◌≡◌}
use native.Mathlib.Omega.{arith}
use lib.ListN.{length}
use Rattle.lent.specs.Memory.{memory}
use Rattle.feed.specs.Said.{said}
use Rattle.integrate.specs.Pouring.{place}
use Rattle.integrate.proofs.Turning.{stepped}
use Rattle.integrate.proofs.step.Goals as goal

pub returns : goal.returns
returns c = let e : length c.args.spare_reals.now ≡ 2816 = omega (arith, c.told-spare_reals) in
    let f : length c.args.spare_counts.now ≡ 1344 = omega (arith, c.told-spare_counts) in
    stepped c.args.bytes.now c.args.last 2816 1344
    (place c.args.run c.args.from c.args.table.now (memory c.args.reals.now c.args.counts.now)) (said c.turn-turned.result) c.turn-turned.new.table
    (memory c.turn-turned.new.reals c.turn-turned.new.counts) c.tell-written.result c.goes_on-goes.result (rw (e, f) at c.turn-turned.ensures.counts_after)
    c.turn-turned.ensures.taken_in_bounds c.requires c.goes_on-goes.ensures
