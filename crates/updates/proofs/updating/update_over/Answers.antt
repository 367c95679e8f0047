-- All is worked out on a copy of the same lengths, so that an 8 or a 9 leaves the state; else the copy is put back.
use mathlib.Core.Path.{ap₂, ◌∙◌}
use lib.ListN.{length}
use Rattle.lent.specs.Memory.{memory}
use Rattle.lent.proofs.Founds.{laid_kept}
use Rattle.lent.proofs.Spares.{over-eight, over-nine, over_done}
use Rattle.updates.proofs.updating.update_over.Goals as goal

pub update_grid-f-requires : goal.update_grid-f-requires
update_grid-f-requires c = laid_kept 4 c.args.table.now (length c.args.reals.now) (length c.args.counts.now) (length c.copy_from_slice.new.self) (length c.copy_from_slice-2.new.self) 0 (c.copy_from_slice.auto.self ∙ c.requires.0) (c.copy_from_slice-2.auto.self ∙ c.requires.1) c.requires.2

pub returns-then-f : goal.returns-then-f
returns-then-f c = over-eight c.args.table.now c.args.bins_rate c.args.axes_rate (memory c.args.reals.now c.args.counts.now) (memory c.copy_from_slice.new.self c.copy_from_slice-2.new.self) (memory c.update_grid-f.new.reals c.update_grid-f.new.counts) c.update_grid-f.result (ap₂ memory c.copy_from_slice.ensures.after c.copy_from_slice-2.ensures.after) c.update_grid-f.ensures c.if-f.true

pub returns-then-f-2 : goal.returns-then-f-2
returns-then-f-2 c = over-nine c.args.table.now c.args.bins_rate c.args.axes_rate (memory c.args.reals.now c.args.counts.now) (memory c.copy_from_slice.new.self c.copy_from_slice-2.new.self) (memory c.update_grid-f.new.reals c.update_grid-f.new.counts) c.update_grid-f.result (ap₂ memory c.copy_from_slice.ensures.after c.copy_from_slice-2.ensures.after) c.update_grid-f.ensures c.if-f.false c.if-f-2.true

pub returns : goal.returns
returns c = over_done c.args.table.now c.args.bins_rate c.args.axes_rate (memory c.args.reals.now c.args.counts.now) (memory c.copy_from_slice.new.self c.copy_from_slice-2.new.self) (memory c.update_grid-f.new.reals c.update_grid-f.new.counts) c.update_grid-f.result (ap₂ memory c.copy_from_slice.ensures.after c.copy_from_slice-2.ensures.after) c.update_grid-f.ensures (memory c.copy_from_slice-3.new.self c.copy_from_slice-4.new.self) c.if-f.false c.if-f-2.false (ap₂ memory c.copy_from_slice-3.ensures.after c.copy_from_slice-4.ensures.after)
