-- `ok`, and all finite from place x-index on, is the answer at every turn; past the end nothing is left.
use mathlib.Core.Path.{sym, ap, ◌∙◌}
use mathlib.Core.Bool.{Bool, ◌&&◌}
use Prim.Native.Nat.{◌+◌}
use lib.ListN.{drop}
use Rattle.doubles.specs.Total.{all_finite}
use Rattle.axis.proofs.Lists.{finite-on, finite-out}
use Rattle.axis.proofs.scans.are_finite.Goals as goal

pub loop-x-preserved : goal.loop-x-preserved
loop-x-preserved c = ap (λ (t : Bool). (c.loop-x.ok && t) && all_finite (drop (c.loop-x.x-index + 1) c.args.xs.now)) c.finite-ok.ensures ∙ finite-on c.args.xs.now c.loop-x.x-index c.loop-x.ok c.loop-x-test.true ∙ c.loop-x.invariant

pub returns : goal.returns
returns c = sym (finite-out c.args.xs.now c.loop-x.x-index c.loop-x.ok c.loop-x-test.false) ∙ c.loop-x.invariant
