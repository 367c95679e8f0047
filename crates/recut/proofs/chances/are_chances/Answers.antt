-- `ok`, and chances all of those left, stays the answer for the whole list.
use mathlib.Core.Path.{sym, ap, ◌∙◌}
use mathlib.Core.Bool.{Bool, ◌&&◌}
use Prim.Native.Nat.{◌+◌}
use lib.ListN.{drop}
use Rattle.recut.specs.Chances.{all_chances}
use Rattle.recut.proofs.Shares.{chances-next, chances-end}
use Rattle.recut.proofs.chances.are_chances.Goals as goal

pub loop-p-preserved : goal.loop-p-preserved
loop-p-preserved c = ap (λ (t : Bool). (c.loop-p.ok && t) && all_chances (drop (c.loop-p.p-index + 1) c.args.ps.now)) c.is_chance-ok.ensures ∙ chances-next c.args.ps.now c.loop-p.p-index c.loop-p.ok c.loop-p-test.true ∙ c.loop-p.invariant

pub returns : goal.returns
returns c = sym (chances-end c.args.ps.now c.loop-p.p-index c.loop-p.ok c.loop-p-test.false) ∙ c.loop-p.invariant
