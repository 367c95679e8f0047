-- `fill_bytes`: after k words, what is left to come from the stream reached is what was to come at first.
use Rattle.std.proofs.Common.{◌≡◌, ◌*◌, length}
use Rattle.stream.specs.Calls.{words_for}
use Rattle.stream.proofs.Fills.{onward}
use Rattle.stream.proofs.MonteCarloRng.fill_bytes.Given as goal

abbrev pub invariant-loop-k : goal.invariant-loop-k
invariant-loop-k l = (l.words ≡ words_for (length l.dest)) × (onward l.dest (l.k * 8) l.stream ≡ onward l.initial.dest 0 l.initial.stream)
