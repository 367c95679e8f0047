-- `renewal::update_axis` meets its contract: the bins that follow stand in the rule in place of the list of values.
use native.Mathlib.Omega.{arith}
use mathlib.Core.Path.{◌∙◌}
use Prim.Native.Nat.{◌+◌}
use lib.ListN.{get_or}
use Rattle.lent.specs.Layout.{axis_reals, axis_counts}
use Rattle.lent.specs.Memory.{memory}
use Rattle.lent.proofs.Lays.{front_length}
use Rattle.lent.proofs.Renewals.{within}
use Rattle.updates.proofs.Next.{next-bins}
use Rattle.updates.proofs.renewal.update_axis.Goals as goal

pub renew_axis-requires : goal.renew_axis-requires
renew_axis-requires c = let n = get_or c.args.counts.now c.args.c 0 in
    let imp = front_length n c.args.importances.now (omega (arith, c.requires)) in
    let cnt = front_length n c.args.counters.now (omega (arith, c.requires)) in
    ((omega (arith, imp, c.requires), c.requires.0.1, c.requires.0.2, c.requires.0.3), imp, cnt, within c.args.most c.bins_after.result (get_or c.args.counts.now (c.args.c + 1) 0) c.args.rule c.args.values.now c.requires.1 c.bins_after.ensures)

pub returns : goal.returns
returns c = c.renew_axis.ensures ∙ next-bins c.args.rule c.args.values.now c.args.rate c.args.most c.args.r c.args.c (memory c.args.reals.now c.args.counts.now) c.bins_after.result c.bins_after.ensures

pub bounds-counts-c : goal.bounds-counts-c
unfolding axis_reals axis_counts
bounds-counts-c c = omega arith

pub bounds-counts-c-2 : goal.bounds-counts-c-2
unfolding axis_reals axis_counts
bounds-counts-c-2 c = omega arith
