-- The highest of the list is at every turn the highest of those left, begun from `top`.
use mathlib.Core.Path.{sym, ap, ◌∙◌}
use Prim.Native.Nat.{◌+◌}
use lib.ListN.{drop}
use lib.Ieee.{Float}
use Rattle.recut.specs.Chances.{highest}
use Rattle.recut.proofs.Shares.{highest-next, highest-end}
use Rattle.recut.proofs.chances.highest_of.Goals as goal

pub loop-p-preserved : goal.loop-p-preserved
loop-p-preserved c = c.loop-p.invariant ∙ highest-next _ _ _ c.loop-p-test.true ∙ ap (λ (t : Float). highest t (drop (c.loop-p.p-index + 1) c.args.ps.now)) (sym c.higher_of-top.ensures)

pub returns : goal.returns
returns c = sym (c.loop-p.invariant ∙ highest-end _ _ _ c.loop-p-test.false)
