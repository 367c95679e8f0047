-- The walk over the bits from `bit` on, from where it stands, stays the walk over all 64.
use Rattle.stream.proofs.Walks.{walk-on}
use Rattle.std.proofs.Common.{◌≡◌, ◌+◌, ◌-◌, sym, ap, ◌∙◌, arith}
use Rattle.stream.specs.Jumps.{walk_bits}
use Rattle.stream.proofs.walk_word.Goals as goal

pub loop-bit-preserved : goal.loop-bit-preserved
loop-bit-preserved c = ap (walk_bits c.args.word (64 - (c.loop-bit.bit + 1)) (c.loop-bit.bit + 1)) c.walk_bit-at.ensures ∙ sym (walk-on _ _ _ c.loop-bit-test.true) ∙ c.loop-bit.invariant

pub returns : goal.returns
unfolding walk_bits
returns c = let e : 64 - c.loop-bit.bit ≡ 0 = omega arith in rw e at c.loop-bit.invariant
