-- `matching::bin_own_obstacle` meets its contract: what stands at the two bins' places is what the definitions read.
use mathlib.Core.Path.{◌∙◌}
use native.Mathlib.Omega.{arith}
use Rattle.merges.proofs.Places.{bin-there, bin-own, bins-told}
use Rattle.merges.proofs.matching.bin_own_obstacle.Goals as goal

pub account_fits-fits-requires : goal.account_fits-fits-requires
account_fits-fits-requires c = let mine = bin-there _ _ _ _ _ _ c.bin_place-b.ensures c.requires.0.bin c.requires.0.room c.requires.0.places in
    let theirs = bin-there _ _ _ _ _ _ c.bin_place-far.ensures c.requires.1.bin c.requires.1.room c.requires.1.places in
    (mine.1, mine.2, theirs.1, theirs.2, bin-own _ _ _ _ _ _ c.bin_place-b.ensures c.requires.2, bin-own _ _ _ _ _ _ c.bin_place-far.ensures c.requires.3)

pub offset_bounds-m-at : goal.offset_bounds-m-at
offset_bounds-m-at c = let mine = bin-there _ _ _ _ _ _ c.bin_place-b.ensures c.requires.0.bin c.requires.0.room c.requires.0.places in
    omega (arith, mine.0)

pub bounds-m-at : goal.bounds-m-at
bounds-m-at c = let mine = bin-there _ _ _ _ _ _ c.bin_place-b.ensures c.requires.0.bin c.requires.0.room c.requires.0.places in
    omega (arith, mine.0)

pub offset_bounds-o-from : goal.offset_bounds-o-from
offset_bounds-o-from c = let theirs = bin-there _ _ _ _ _ _ c.bin_place-far.ensures c.requires.1.bin c.requires.1.room c.requires.1.places in
    omega (arith, theirs.0)

pub bounds-o-from : goal.bounds-o-from
bounds-o-from c = let theirs = bin-there _ _ _ _ _ _ c.bin_place-far.ensures c.requires.1.bin c.requires.1.room c.requires.1.places in
    omega (arith, theirs.0)

pub returns : goal.returns
returns c = c.found_of.ensures ∙ bins-told _ _ _ _ _ _ _ c.bin_place-b.ensures c.bin_place-far.ensures c.args.m.reals.now c.args.m.counts.now c.args.o.reals.now c.args.o.counts.now c.account_fits-fits.result c.account_fits-fits.ensures
