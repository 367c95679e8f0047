-- `renewal::recut_axis` meets its contract: the rule's bins are at most `most`, so their edges find room; each return by the law of its case.
use Prim.Native.Nat.{◌+◌}
use mathlib.Core.List.{[]}
use mathlib.Core.Path.{refl}
use native.Mathlib.Omega.{arith}
use Rattle.lent.specs.Layout.{axis_reals, axis_counts}
use Rattle.lent.specs.Memory.{memory}
use Rattle.lent.specs.Renewed.{bins_to}
use Rattle.model.specs.Update.{last_or}
use Rattle.lent.proofs.Lays.{front_length}
use Rattle.lent.proofs.Renewals.{recut-8, recut-on}
use Rattle.updates.proofs.renewal.recut_axis.Goals as goal

pub returns-then-recuts-ge9007199254740992 : goal.returns-then-recuts-ge9007199254740992
returns-then-recuts-ge9007199254740992 c = recut-8 c.args.rule [] c.args.rate c.args.most c.args.r c.args.c c.args.importances.now c.args.counters.now (memory c.args.reals.now c.args.counts.now) c.if-recuts-ge9007199254740992.true

pub recut_into-requires : goal.recut_into-requires
recut_into-requires c = ((c.requires.1, c.requires.0.1, c.requires.0.2, c.requires.0.3), c.requires.0.0, front_length (c.args.rule.bins + 1) _ (omega (arith, c.requires)))

pub returns : goal.returns
unfolding bins_to last_or
returns c = recut-on c.args.rule [] c.args.rate c.args.most c.args.r c.args.c c.args.importances.now c.args.counters.now (memory c.args.reals.now c.args.counts.now) c.args.rule.bins _ c.if-recuts-ge9007199254740992.false refl c.recut_into.ensures

pub bounds-counts-c : goal.bounds-counts-c
unfolding axis_reals axis_counts
bounds-counts-c c = omega arith
