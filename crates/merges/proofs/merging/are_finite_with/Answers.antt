-- `merging::are_finite_with` meets its contract: what was found and what is left of both stretches stay the answer for the whole.
use mathlib.Core.Path.{sym, ap, ◌∙◌}
use mathlib.Core.Bool.{Bool, ◌&&◌}
use Prim.Native.Nat.{◌+◌}
use lib.Ieee.{nan}
use Rattle.lent.proofs.Scans.{left_all, pair-next, pair-out, finite_with, all_finite_with, finite-none, finite-more}
use Rattle.merges.proofs.merging.are_finite_with.Goals as goal

pub loop-k-preserved : goal.loop-k-preserved
loop-k-preserved c = ap (λ (t : Bool). left_all nan finite_with all_finite_with finite-none finite-more c.args.reals.now c.args.start c.args.theirs.now c.args.from c.args.n (c.loop-k.k + 1) (c.loop-k.ok && t)) c.finite-ok.ensures ∙ pair-next nan finite_with all_finite_with finite-none finite-more c.args.reals.now c.args.theirs.now c.args.start c.args.from c.args.n c.loop-k.k c.loop-k.ok c.requires.0 c.requires.1 c.loop-k-test.true ∙ c.loop-k.invariant

pub returns : goal.returns
returns c = sym (pair-out nan finite_with all_finite_with finite-none finite-more c.args.reals.now c.args.theirs.now c.args.start c.args.from c.args.n c.loop-k.k c.loop-k.ok c.requires.0 c.requires.1 c.loop-k-test.false) ∙ c.loop-k.invariant
