-- What is joined, and what the rest of both parts will give, stay the whole; the part comes back joined.
use native.Mathlib.Omega.{arith}
use mathlib.Core.Path.{sym, ap, ◌∙◌}
use lib.ListN.{get_or}
use Rattle.recut.proofs.Pairs.{pairs_next, pairs-out}
use Rattle.lent.proofs.Joins.{joined}
use Rattle.lent.proofs.Lays.{lent_length}
use Rattle.merges.proofs.joining.join.Goals as goal

pub loop-i-preserved : goal.loop-i-preserved
loop-i-preserved g c h p =
    pairs_next h c.entry-item.result c.index-others-i.result _ _ _ _ (omega arith) (omega (arith, lent_length c.args.from c.args.n c.args.theirs.now c.requires.1))
    (p _ _ _ c.f.ensures ∙ ap (h (get_or c.loop-i.entry-items c.loop-i.i c.entry-item.result)) c.index-others-i.is)
    ∙ c.loop-i.invariant h p

pub returns : goal.returns
returns g c h p =
    joined h c.args.start c.args.from c.args.n c.loop-i.entry-items c.args.theirs.now c.args.entries.now
    (sym (pairs-out h c.loop-i.entry-items _ c.loop-i.i (omega arith)) ∙ c.loop-i.invariant h p)
