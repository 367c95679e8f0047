-- `ok`, and chances all of those left, stays the answer for the whole list.
use mathlib.Core.Path.{◌≡◌}
use mathlib.Core.Bool.{◌&&◌}
use lib.ListN.{drop}
use Rattle.recut.specs.Chances.{all_chances}
use Rattle.recut.proofs.chances.are_chances.Given as goal

abbrev pub invariant-loop-p : goal.invariant-loop-p
invariant-loop-p l = (l.ok && all_chances (drop l.p-index l.ps)) ≡ all_chances l.ps
