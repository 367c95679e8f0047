-- The walk over the words left, from where it stands, stays the walk over the whole table.
use Rattle.std.proofs.Common.{ℕ, List, sym, ap, ◌∙◌, drop_of_length-le}
use Rattle.stream.specs.Jumps.{walk_words, jump_of}
use Rattle.stream.specs.declared.Walk.{Walk}
use Rattle.stream.proofs.Walks.{table_on}
use Rattle.stream.proofs.MonteCarloRng.jumped.Goals as goal

pub loop-word-preserved : goal.loop-word-preserved
loop-word-preserved c = ap (walk_words _) c.walk_word-walk.ensures ∙ sym (table_on _ _ _ c.loop-word-test.true) ∙ c.loop-word.invariant

pub returns : goal.returns
unfolding jump_of walk_words
returns c = ap (λ (w : Walk). w.sum) (sym (ap (λ (t : List ℕ). walk_words t c.loop-word.walk) (drop_of_length-le _ c.loop-word-test.false)) ∙ c.loop-word.invariant)
