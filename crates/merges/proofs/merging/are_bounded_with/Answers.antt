-- `merging::are_bounded_with` meets its contract: what was found and what is left of both stretches stay the answer for the whole; no sum overflows.
use native.Mathlib.Omega.{arith}
use mathlib.Core.Path.{sym, ap, ◌∙◌}
use mathlib.Core.Bool.{◌&&◌}
use Prim.Native.Nat.{◌+◌}
use Prim.Native.Nat.{ℕ, ◌^◌, ◌≤◌}
use borrow.Author.Tests.{leb-true}
use lib.Dec.{leb}
use lib.ListN.{get_or}
use Rattle.lent.proofs.Scans.{left_all, pair-next, pair-out, bounded_with, all_bounded_with, bounded-none, bounded-more, joined-sum, bounded_at}
use Rattle.merges.proofs.merging.are_bounded_with.Goals as goal

pub loop-k-preserved : goal.loop-k-preserved
loop-k-preserved c = ap (λ (j : ℕ). left_all 0 bounded_with all_bounded_with bounded-none bounded-more c.args.counts.now c.args.start c.args.theirs.now c.args.from c.args.n (c.loop-k.k + 1) (c.loop-k.ok && leb j (2 ^ 53))) (sym (joined-sum (get_or c.args.counts.now (c.args.start + c.loop-k.k) 0) (get_or c.args.theirs.now (c.args.from + c.loop-k.k) 0) (bounded_at _ _ _ _ c.requires.0 c.loop-k-test.true c.requires.2) (bounded_at _ _ _ _ c.requires.1 c.loop-k-test.true c.requires.3))) ∙ pair-next 0 bounded_with all_bounded_with bounded-none bounded-more c.args.counts.now c.args.theirs.now c.args.start c.args.from c.args.n c.loop-k.k c.loop-k.ok c.requires.0 c.requires.1 c.loop-k-test.true ∙ c.loop-k.invariant

pub returns : goal.returns
returns c = sym (pair-out 0 bounded_with all_bounded_with bounded-none bounded-more c.args.counts.now c.args.theirs.now c.args.start c.args.from c.args.n c.loop-k.k c.loop-k.ok c.requires.0 c.requires.1 c.loop-k-test.false) ∙ c.loop-k.invariant

pub overflow_add-ok-in-loop-k-2 : goal.overflow_add-ok-in-loop-k-2
overflow_add-ok-in-loop-k-2 c = let a : get_or c.args.counts.now (c.args.start + c.loop-k.k) 0 ≤ 2 ^ 53 = leb-true _ _ (bounded_at _ _ _ _ c.requires.0 c.loop-k-test.true c.requires.2) in let b : get_or c.args.theirs.now (c.args.from + c.loop-k.k) 0 ≤ 2 ^ 53 = leb-true _ _ (bounded_at _ _ _ _ c.requires.1 c.loop-k-test.true c.requires.3) in omega arith
