-- What the record gains is found before the axes are written; a well-formed grid and the sample's form give what the axes ask.
use native.Mathlib.Omega.{arith}
use Rattle.lent.specs.Memory.{memory}
use Rattle.lent.proofs.Accepts.{own-sound}
use Rattle.lent.proofs.Finds.{found-there, found-asked}
use Rattle.lent.proofs.Absorbs.{axes-absorbed}
use Rattle.lent.specs.Sampled.{entries}
use Rattle.samples.proofs.absorbing.absorb_axes.Goals as goal

pub gain_at-own-requires : goal.gain_at-own-requires
gain_at-own-requires c = let s = c.args.s.now in
    (omega (arith, c.requires.0), omega (arith, c.requires.0), own-sound c.args.table.now c.args.reals.now c.args.counts.now c.args.w s c.args.depth c.requires.2.takes.well)

pub train_axes-requires : goal.train_axes-requires
train_axes-requires c = let s = c.args.s.now in
    found-asked c.args.table.now c.args.reals.now c.args.counts.now c.args.w s c.args.depth c.args.number c.requires.0 c.requires.2.takes c.place_at-g.result c.place_at-g.ensures c.args.spots.now c.requires.2.found

pub put-requires : goal.put-requires
put-requires c = (omega (arith, c.requires.0, c.train_axes.auto.reals), omega (arith, c.requires.0, c.train_axes.auto.counts))

pub returns : goal.returns
returns c = let s = c.args.s.now in
    let g = c.place_at-g.result in
    let m = memory c.args.reals.now c.args.counts.now in
    axes-absorbed c.args.table.now s c.args.evaluation c.args.number c.args.w c.args.depth m
    (memory c.train_axes.new.reals c.train_axes.new.counts) (memory c.put.new.reals c.put.new.counts)
    g (entries 0 c.args.spots.now 0 g.axes) c.gain_at-own.result
    c.place_at-g.ensures (found-there c.args.table.now c.args.reals.now c.args.counts.now c.args.w s c.args.depth c.args.number c.requires.0 c.requires.2.takes g c.place_at-g.ensures c.args.spots.now c.requires.2.found) c.gain_at-own.ensures c.train_axes.ensures c.put.ensures
