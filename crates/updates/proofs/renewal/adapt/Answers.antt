-- `renewal::adapt` meets its contract: each return by the law of its case.
use native.Mathlib.Omega.{arith}
use mathlib.Core.List.{[]}
use mathlib.Core.Path.{◌∙◌}
use lib.ListN.{length, get_or}
use Prim.Native.Nat.{◌+◌}
use Rattle.lent.specs.Layout.{axis_reals, axis_counts}
use Rattle.lent.specs.Memory.{memory}
use Rattle.lent.proofs.Rooms.{empty-known}
use Rattle.lent.proofs.Renewals.{adapt-8, adapt-kept, adapt-reset, adapt-on}
use Rattle.updates.proofs.renewal.adapt.Goals as goal

pub returns-then-not-may_be_kept : goal.returns-then-not-may_be_kept
returns-then-not-may_be_kept c = adapt-8 c.args.rule [] c.args.rate c.args.most c.args.r c.args.c c.args.importances.now c.args.counters.now (memory c.args.reals.now c.args.counts.now) c.may_be_kept.result c.may_be_kept.ensures c.if-not-may_be_kept.true

pub returns-then-not-reaches : goal.returns-then-not-reaches
returns-then-not-reaches c = adapt-kept c.args.rule [] c.args.rate c.args.most c.args.r c.args.c c.args.importances.now c.args.counters.now (memory c.args.reals.now c.args.counts.now) c.may_be_kept.result c.may_be_kept.ensures c.if-not-may_be_kept.false c.reaches.result c.reaches.ensures (memory c.keep.new.reals c.keep.new.counts) c.if-not-reaches.true c.keep.ensures

pub returns-then-rate : goal.returns-then-rate
returns-then-rate c = adapt-reset c.args.rule [] c.args.rate c.args.most c.args.r c.args.c c.args.importances.now c.args.counters.now (memory c.args.reals.now c.args.counts.now) c.may_be_kept.result c.may_be_kept.ensures c.if-not-may_be_kept.false c.reaches.result c.reaches.ensures (memory c.empty_axis.new.reals c.empty_axis.new.counts) c.if-not-reaches.false c.if-rate.true (c.empty_axis.ensures ∙ empty-known c.args.most (length c.args.importances.now) c.args.r c.args.c (get_or c.args.counts.now (c.args.c + 1) 0) (memory c.args.reals.now c.args.counts.now) c.requires.0)

pub returns : goal.returns
returns c = adapt-on c.args.rule [] c.args.rate c.args.most c.args.r c.args.c c.args.importances.now c.args.counters.now (memory c.args.reals.now c.args.counts.now) c.may_be_kept.result c.may_be_kept.ensures c.if-not-may_be_kept.false c.reaches.result c.reaches.ensures _ c.if-not-reaches.false c.if-rate.false c.recut_axis.ensures

pub bounds-counts-c : goal.bounds-counts-c
unfolding axis_reals axis_counts
bounds-counts-c c = omega arith
