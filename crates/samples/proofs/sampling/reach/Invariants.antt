-- The bins counted stay those below the draw; at an early end one was reached before, at the last there is no other left.
use Rattle.lent.proofs.Samples.{Counting}
use Rattle.samples.proofs.sampling.reach.Given as goal

abbrev pub invariant-loop-i : goal.invariant-loop-i
invariant-loop-i l = Counting l.r l.sum l.chances l.i l.bin
