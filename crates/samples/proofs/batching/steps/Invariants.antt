-- What is left from here on, by the calls one by one, is the whole; the state stays clear, and the arrays keep their lengths. Assumes nothing.
use mathlib.Core.Path.{◌≡◌}
use lib.ListN.{length, drop}
use Rattle.lent.specs.Memory.{memory}
use Rattle.lent.specs.State.{state_fault}
use Rattle.lent.specs.Batched.{steps_of}
use Rattle.samples.proofs.batching.steps.Given as goal

abbrev pub invariant-loop-done : goal.invariant-loop-done
invariant-loop-done l = (length l.reals ≡ length l.initial.reals) × (length l.counts ≡ length l.initial.counts) × (state_fault l.table l.reals l.counts ≡ 0)
    × (steps_of l.table (drop l.done l.evaluations) (memory l.reals l.counts) l.stream l.number l.done ≡ steps_of l.table l.evaluations (memory l.initial.reals l.initial.counts) l.initial.stream l.initial.number 0)
