-- The test of the bit is the definition's: set, the state joins the sum; either way the state goes one step on.
use Rattle.std.proofs.Common.{eq-eqb, ne_eqb}
use Rattle.stream.specs.Jumps.{walk_bit}
use Rattle.stream.specs.Calls.{drawn_of}
use Rattle.stream.proofs.walk_bit.Goals as goal

pub returns-then-word-bit-eq1 : goal.returns-then-word-bit-eq1
unfolding walk_bit drawn_of
returns-then-word-bit-eq1 c = rw (c.join.ensures, c.next_u64-next.ensures, eq-eqb _ _ c.if-word-bit-eq1.true)

pub returns : goal.returns
unfolding walk_bit drawn_of
returns c = rw (c.next_u64-next.ensures, ne_eqb _ _ c.if-word-bit-eq1.false)
