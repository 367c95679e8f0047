-- A bin whose edges have x between them is the rule's on well-formed edges; else the search by halves finds it.
use mathlib.Core.Path.{◌∙◌}
use native.Mathlib.Omega.{arith}
use Rattle.axis.proofs.Bins.{formed}
use Rattle.axis.proofs.Searches.{search_is}
use Rattle.lent.proofs.Trains.{near-is}
use Rattle.samples.proofs.training.bin_near.Goals as goal

pub returns-then-edges-guess : goal.returns-then-edges-guess
returns-then-edges-guess c = near-is _ _ _ c.requires.0 c.if-guess-last.true c.if-edges-guess.true

pub returns : goal.returns
returns c = c.bin_of.ensures ∙ search_is _ _ c.requires.0 c.requires.1

pub overflow_sub-last : goal.overflow_sub-last
overflow_sub-last c = omega (arith, (formed _ c.requires.0).few)
