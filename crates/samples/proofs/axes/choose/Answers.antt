-- The model's three cases, each by the test that was passed.
use mathlib.Core.Path.{sym, ap}
use lib.Ieee.{Float, lt}
use Rattle.doubles.specs.Numbers.{one64}
use Rattle.stream.specs.declared.Next.{Next}
use Rattle.stream.specs.Calls.{unit_drawn_of}
use Rattle.model.specs.Draw.{unit_at, walked, placed_from}
use Rattle.samples.proofs.axes.choose.Goals as goal

pub returns-then-floor : goal.returns-then-floor
unfolding placed_from
returns-then-floor c axs = rw c.if-floor.true

pub returns-then-floor-2 : goal.returns-then-floor-2
unfolding placed_from
returns-then-floor-2 c axs = rw (c.if-floor.false, c.if-floor-2.true)

pub returns : goal.returns
unfolding placed_from unit_drawn_of unit_at
returns c axs = rw (c.if-floor.false, c.if-floor-2.false) (ap (λ (u : Next Float). walked (lt u.value c.args.floor) axs one64 u.stream) (sym c.unit-unit.ensures))
