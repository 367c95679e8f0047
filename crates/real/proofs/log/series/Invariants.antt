-- `log::series` after n turns has the definition's c after n steps. Assumes nothing.
use mathlib.Core.Path.{◌≡◌}
use Rattle.real.specs.Ln.{tail_of}
use Rattle.real.proofs.log.series.Given as goal

abbrev pub invariant-loop-n : goal.invariant-loop-n
invariant-loop-n l = l.c ≡ tail_of l.z l.n
