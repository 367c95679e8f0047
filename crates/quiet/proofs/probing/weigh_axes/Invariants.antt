-- `probing::weigh_axes` meets its contract: the weight so far and what is left of the axes stay the probe of them all.
use Rattle.lent.specs.Drawn.{axes_at}
use Rattle.model.specs.Probe.{probe_all}
use mathlib.Core.Path.{◌≡◌}
use Prim.Native.Nat.{◌+◌}
use Rattle.doubles.specs.Numbers.{one64}
use Rattle.lent.specs.Drawn.{Stands}
use Rattle.lent.specs.Probed.{coordinates_of}
use Rattle.lent.proofs.Probes.{left_of}
use Rattle.quiet.proofs.probing.weigh_axes.Given as goal

abbrev pub invariant-loop-done : goal.invariant-loop-done
invariant-loop-done l = Stands l.reals l.counts l.left × (l.done + l.left.axes ≡ l.initial.left.axes) × (left_of l.reals l.counts l.p l.left l.done l.weight ≡ probe_all (axes_at l.reals l.counts l.initial.left) (coordinates_of l.p) one64)
