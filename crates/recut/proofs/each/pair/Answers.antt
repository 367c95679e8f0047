-- What is changed, and what the rest of both lists will give, stay the whole.
use native.Mathlib.Omega.{arith}
use mathlib.Core.Path.{sym, ap₂, ◌∙◌}
use Rattle.recut.proofs.Pairs.{pairs_next, pairs-end}
use Rattle.recut.proofs.each.pair.Goals as goal

pub loop-i-preserved : goal.loop-i-preserved
loop-i-preserved g c h p =
    pairs_next h c.index-xs-i.result c.index-ys-i.result _ _ _ _ (omega arith) (omega arith) (p _ _ _ c.f.ensures ∙ ap₂ h c.index-xs-i.is c.index-ys-i.is)
    ∙ c.loop-i.invariant h p

pub returns : goal.returns
returns g c h p = sym (pairs-end h _ _ _ (omega arith)) ∙ c.loop-i.invariant h p
