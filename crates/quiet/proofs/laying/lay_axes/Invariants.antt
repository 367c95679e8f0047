-- `laying::lay_axes` meets its contract: what is left to lay on the memory now is all of it on the memory at entry.
use Rattle.lent.specs.Layout.{axis_reals, axis_counts}
use mathlib.Core.Path.{◌≡◌}
use Prim.Native.Nat.{◌+◌, ◌-◌, ◌*◌, ◌≤◌}
use lib.ListN.{length, replicate}
use Rattle.lent.specs.Memory.{memory, over_axes}
use Rattle.lent.specs.Laid.{lay_at}
use Rattle.quiet.proofs.laying.lay_axes.Given as goal

abbrev pub invariant-loop-done : goal.invariant-loop-done
invariant-loop-done l = (l.done ≤ l.g.axes) × (l.r + (l.g.axes - l.done) * axis_reals l.g.most ≤ length l.initial.reals) × (l.c + (l.g.axes - l.done) * axis_counts l.g.most ≤ length l.initial.counts) × (length l.reals ≡ length l.initial.reals) × (length l.counts ≡ length l.initial.counts) × (over_axes (lay_at l.g.most) l.g.most (replicate (l.g.axes - l.done) l.n) l.r l.c (memory l.reals l.counts) ≡ over_axes (lay_at l.g.most) l.g.most (replicate l.g.axes l.n) l.initial.r l.initial.c (memory l.initial.reals l.initial.counts))
