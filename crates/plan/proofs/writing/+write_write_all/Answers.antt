-- The levels left fall; what stands in the table, with what is left to write, is the whole.
use mathlib.Core.Path.{sym, ap, ◌∙◌}
use native.Mathlib.Omega.{arith}
use Rattle.plan.specs.Judged.{judged}
use Rattle.plan.proofs.Here.{deep}
use Rattle.plan.proofs.Writes.{slot-in, writing-child, writing-next, writing-stop, writing-end, writable-found, wrote_nothing, axes-few, axes-room, wrote-axes, all-writable, wrote-bins}
use Rattle.plan.proofs.writing.+write_write_all.Goals as goal

pub write-put_values-requires : goal.write-put_values-requires
write-put_values-requires t c = let e = ap judged (sym c.unwrap-bin.ensures) ∙ c.field_at.ensures in
    (omega (arith, axes-room _ _ _ e c.in-Axes.is c.requires, c.put_axes.auto.table), omega (arith, axes-few _ _ _ e c.in-Axes.is, c.requires.inside.reach))

pub write-overflow_sub-level : goal.write-overflow_sub-level
write-overflow_sub-level t c = deep _ _ _ (ap judged (sym c.unwrap-bin.ensures) ∙ c.field_at.ensures) c.in-Bins.is

pub write-write_all-requires : goal.write-write_all-requires
write-write_all-requires t c = let e = ap judged (sym c.unwrap-bin.ensures) ∙ c.field_at.ensures in
    (omega (arith, deep _ _ _ e c.in-Bins.is, c.decreases), all-writable _ _ _ e c.in-Bins.is c.requires _ c.put_bins.auto.table)

pub write-unwrap-bin-requires : goal.write-unwrap-bin-requires
write-unwrap-bin-requires t c = writable-found _ _ _ _ c.requires c.field_at.ensures

pub write-returns-in-Nothing : goal.write-returns-in-Nothing
write-returns-in-Nothing t c = let w = wrote_nothing _ _ _ (ap judged (sym c.unwrap-bin.ensures) ∙ c.field_at.ensures) _ c.in-Nothing.is in (w.place, w.table)

pub write-returns-in-Axes : goal.write-returns-in-Axes
write-returns-in-Axes t c = let w = wrote-axes _ _ _ (ap judged (sym c.unwrap-bin.ensures) ∙ c.field_at.ensures) c.in-Axes.is _ _ _ c.put_axes.ensures c.put_values.ensures in (w.place, w.table)

pub write-returns-in-Bins : goal.write-returns-in-Bins
write-returns-in-Bins t c = let w = wrote-bins _ _ _ (ap judged (sym c.unwrap-bin.ensures) ∙ c.field_at.ensures) c.in-Bins.is c.requires _ _ _ _ c.put_bins.ensures c.write_all.ensures.0 c.write_all.ensures.1 in (w.place, w.table)

pub write_all-bounds-table-slot : goal.write_all-bounds-table-slot
write_all-bounds-table-slot t c = slot-in c.loop-i.invariant c.loop-i-test.true

pub write_all-write-here-requires : goal.write_all-write-here-requires
write_all-write-here-requires t c = (omega (arith, c.decreases), writing-child c.loop-i.invariant c.loop-i-test.true _)

pub write_all-loop-i-preserved : goal.write_all-loop-i-preserved
write_all-loop-i-preserved t c = writing-next c.loop-i.invariant c.loop-i-test.true _ c.link_at-link.ensures _ c.write-here.ensures.0 _ c.write-here.ensures.1

pub write_all-returns : goal.write_all-returns
write_all-returns t c = (writing-stop c.loop-i.invariant c.loop-i-test.false, writing-end c.loop-i.invariant c.loop-i-test.false)
