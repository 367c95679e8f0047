-- `lifted`: below 2 ^ 52 at least 12 zeros lead, and above 0 at most 63. Assumes nothing.
use Prim.Native.Nat.{◌≤◌}
use native.Mathlib.Omega.{arith}
use lib.Count.{count_leading_zeros}
use borrow.Author.Tests.{eq-eqb, ne_eqb}
use Rattle.doubles.specs.Split.{lifted_of}
use Rattle.doubles.proofs.Bits.{leading}
use Rattle.doubles.proofs.lifted.Goals as goal

zeros : (c : goal.Else-bits-eq0) → (12 ≤ count_leading_zeros 64 c.args.bits) × (count_leading_zeros 64 c.args.bits ≤ 63)
zeros c = leading c.args.bits (omega arith) c.requires

pub returns-then-bits-eq0 : goal.returns-then-bits-eq0
unfolding lifted_of
returns-then-bits-eq0 c = rw (eq-eqb _ _ c.if-bits-eq0.true)

pub overflow_sub-up : goal.overflow_sub-up
overflow_sub-up c = let z = zeros c in omega arith

pub overflow_cast-up : goal.overflow_cast-up
overflow_cast-up c = let z = zeros c in omega arith

pub overflow_shl-result : goal.overflow_shl-result
overflow_shl-result c = let z = zeros c in omega arith

pub overflow_sub-result : goal.overflow_sub-result
overflow_sub-result c = let z = zeros c in omega arith

pub returns : goal.returns
unfolding lifted_of
returns c = rw (ne_eqb _ _ c.if-bits-eq0.false)
