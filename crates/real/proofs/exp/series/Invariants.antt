-- `exp::series` after n turns is the definition's p after n steps. Assumes nothing.
use mathlib.Core.Path.{◌≡◌}
use Rattle.real.specs.Power.{exp_of}
use Rattle.real.proofs.exp.series.Given as goal

abbrev pub invariant-loop-n : goal.invariant-loop-n
invariant-loop-n l = l.p ≡ exp_of l.r l.n
