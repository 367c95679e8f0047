-- `adapting::lay_chances` meets its contract: raw probabilities, what is made of them, and where they are laid, by one law.
use mathlib.Core.Path.{◌∙◌}
use native.Mathlib.Omega.{arith}
use Rattle.lent.specs.Memory.{memory}
use Rattle.lent.proofs.Runs.{sets-put}
use Rattle.updates.proofs.Own.{chances-laid}
use Rattle.updates.proofs.adapting.lay_chances.Goals as goal

pub returns : goal.returns
returns c = chances-laid c.args.b (memory c.args.reals.now c.args.counts.now) c.find_raws.new.raws c.adapt-fit.new.ps c.set.new.entries c.adapt-fit.result c.find_raws.ensures c.adapt-fit.ensures (c.set.ensures ∙ sets-put _ _ _ (omega (arith, c.requires, c.find_raws.auto.raws, c.adapt-fit.auto.ps)))
