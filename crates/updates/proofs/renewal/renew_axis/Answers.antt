-- `renewal::renew_axis` meets its contract: what is gathered is what the definition gathers, and the rest is `adapt`'s.
use native.Mathlib.Omega.{arith}
use mathlib.Core.List.{[]}
use Rattle.recut.specs.Gather.{gathered_of, joined_counts}
use Rattle.lent.specs.Layout.{axis_reals, axis_counts}
use Rattle.lent.specs.Memory.{memory}
use Rattle.lent.proofs.Renewals.{trained-room, updated-on}
use borrow.Author.Rules.{rules}
use Rattle.updates.proofs.renewal.renew_axis.Goals as goal

pub overflow_add-r-2 : goal.overflow_add-r-2
unfolding axis_reals axis_counts
overflow_add-r-2 c = let t = trained-room c.args.rule.averages c.args.most c.trained_from-trained.result c.trained_from-trained.ensures in
    omega (arith, t, c.requires)

pub gather-requires : goal.gather-requires
unfolding axis_reals axis_counts
gather-requires c = let t = trained-room c.args.rule.averages c.args.most c.trained_from-trained.result c.trained_from-trained.ensures in
    (omega (arith, c.requires), omega (arith, t, c.requires), search rules)

pub adapt-requires : goal.adapt-requires
adapt-requires c = let imp = c.gather.auto.room in
    let cnt = c.gather-2.auto.room in
    ((omega (arith, imp, c.requires), c.requires.0.1, c.requires.0.2, c.requires.0.3), omega (arith, imp, cnt, c.requires), c.requires.3)

pub returns : goal.returns
returns c = updated-on c.args.rule [] c.args.rate c.args.most c.args.r c.args.c (memory c.args.reals.now c.args.counts.now) c.trained_from-trained.result _ _ c.gather.new.room c.gather-2.new.room _ c.trained_from-trained.ensures c.requires.1 c.requires.2 (c.gather.ensures gathered_of (λ x y u z e. e)) (c.gather-2.ensures joined_counts (λ x y u z e. e)) c.adapt.ensures

pub gather-requires-2 : goal.gather-requires-2
unfolding axis_reals axis_counts
gather-requires-2 c = (omega (arith, c.requires), omega (arith, c.requires), search rules)
