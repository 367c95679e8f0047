-- `fill_bytes`: after k words, what is left to come from the stream reached is what was to come at first.
use Rattle.std.proofs.Common.{◌*◌, ◌<◌, length, sym, refl, ap, ◌∙◌, arith}
use Rattle.stream.specs.Calls.{words_for}
use Rattle.stream.proofs.Fills.{onward-starts, onward-done, begins, spent, fills-word}
use Rattle.stream.proofs.MonteCarloRng.fill_bytes.Goals as goal
use Rattle.stream.proofs.MonteCarloRng.fill_bytes.Goals.{In-loop-k}

within : (c : In-loop-k) → c.loop-k.k * 8 < length c.loop-k.dest
within c = begins _ _ _ c.loop-k.invariant.0 c.loop-k-test.true

pub loop-k-init : goal.loop-k-init
loop-k-init c = (c.words_for-words.ensures, refl)

pub overflow_mul-k : goal.overflow_mul-k
overflow_mul-k c = let w = within (goal.at.overflow_mul-k c).In-loop-k in omega arith

pub loop-k-preserved : goal.loop-k-preserved
loop-k-preserved c = (
  c.loop-k.invariant.0 ∙ ap words_for (sym c.put_word.auto.dest),
  fills-word _ _ _ _ _ c.next_u64-word.ensures c.put_word.ensures (within (goal.at.loop-k-preserved c).In-loop-k) ∙ c.loop-k.invariant.1,
)

pub returns : goal.returns
returns c = sym (onward-done _ _ _ (spent _ _ _ c.loop-k.invariant.0 c.loop-k-test.false)) ∙ c.loop-k.invariant.1 ∙ onward-starts _ _
