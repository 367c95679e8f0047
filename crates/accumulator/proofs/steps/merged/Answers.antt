-- Counts up to 2^53 add up within a word, and each extreme is picked by the definition's comparison.
use native.Mathlib.Omega.{arith}
use Rattle.accumulator.proofs.Counts.{within}
use Rattle.accumulator.specs.Record.{with_waiting, with_extremes}
use Rattle.accumulator.specs.Steps.{merged_of}
use Rattle.accumulator.proofs.steps.merged.Goals as goal

pub overflow_add-r : goal.overflow_add-r
overflow_add-r c = let v = within _ c.requires.0 in let w = within _ c.requires.1 in omega arith

pub overflow_add-r-2 : goal.overflow_add-r-2
overflow_add-r-2 c = let v = within _ c.requires.0 in let w = within _ c.requires.1 in omega arith

pub returns : goal.returns
unfolding merged_of with_extremes with_waiting
returns c = rw (c.either-4.ensures, c.either-3.ensures, c.either-2.ensures, c.either.ensures)
