-- `probing::probe_axes` meets its contract: as many coordinates as axes, then the product under the floor.
use mathlib.Core.Path.{ap, ◌∙◌}
use Rattle.doubles.specs.Paper.{Paper}
use lib.Ieee.{Float}
use Rattle.model.specs.Draw.{floored_of}
use Rattle.model.specs.Probe.{through}
use borrow.Author.Tests.{ne_eqb, eq-eqb}
use Rattle.lent.specs.Probed.{coordinates_of, probed_of}
use Rattle.lent.proofs.Probes.{coordinates-length}
use Rattle.lent.proofs.Reading.{length-axes}
use Rattle.quiet.proofs.probing.probe_axes.Goals as goal

pub returns-then-p-g : goal.returns-then-p-g
unfolding probed_of coordinates_of
returns-then-p-g c = rw (coordinates-length, length-axes, ne_eqb _ _ c.if-p-g.true)

pub returns : goal.returns
unfolding probed_of coordinates_of
returns c = rw (coordinates-length, length-axes, eq-eqb _ _ c.if-p-g.false) (c.under_floor.ensures ∙ ap (λ (a : Paper Float). through (floored_of c.args.g.floor) a) c.weigh_axes.ensures)
