-- More bins held than either room has leaves memory, as in the definition; else reals and counts are merged each on its own.
use mathlib.Core.Path.{ap₂, ◌∙◌}
use native.Mathlib.Omega.{arith}
use Rattle.lent.specs.Layout.{axis_counts}
use Rattle.lent.specs.Memory.{memory}
use Rattle.lent.proofs.Unites.{axis-full, axis-over, axis-joins}
use Rattle.merges.proofs.merging.merge_axis.Goals as goal

pub bounds-counts-place : goal.bounds-counts-place
unfolding axis_counts
bounds-counts-place c = omega (arith, c.requires.2)

pub returns-then-g-held : goal.returns-then-g-held
returns-then-g-held c = axis-full _ _ _ _ _ _ c.if-g-held.true

pub returns-then-o-held : goal.returns-then-o-held
returns-then-o-held c = axis-over _ _ _ _ _ _ c.if-g-held.false c.if-o-held.true

pub returns : goal.returns
returns c = ap₂ memory c.merge_reals.ensures c.merge_counts.ensures ∙ axis-joins _ _ _ _ _ _ c.if-g-held.false c.if-o-held.false
