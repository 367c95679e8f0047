-- The walk over the words left, from where it stands, stays the walk over the whole table.
use Rattle.std.proofs.Common.{◌≡◌, drop}
use Rattle.stream.specs.Jumps.{walk_words}
use Rattle.stream.proofs.MonteCarloRng.jumped.Given as goal

abbrev pub invariant-loop-word : goal.invariant-loop-word
invariant-loop-word l = walk_words (drop l.word-index l.table) l.walk ≡ walk_words l.table l.initial.walk
