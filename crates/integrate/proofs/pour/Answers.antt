-- `pour`: each turn that goes on takes a byte at least, so that the bytes left fall.
use native.Mathlib.Omega.{arith}
use borrow.Author.Tests.{not-true, not-false}
use Rattle.integrate.proofs.Full.{turns-short}
use Rattle.integrate.proofs.Turning.{ends, onward}
use Rattle.integrate.proofs.pour.Goals as goal

pub returns-then-not-poured : goal.returns-then-not-poured
returns-then-not-poured c = let i = c.loop-spare_reals.invariant in
    let s = c.step-poured.ensures in record {
      taken_in_bounds = s.within;
      turns = λ w. i.1 _ (ends s (not-true _ c.if-not-poured.true) w);
      bytes_len_bound = λ w d. turns-short (λ n. (c.type_inv.bytes n).fits) (i.1 _ (ends s (not-true _ c.if-not-poured.true) w)) d;
    }

pub loop-spare_reals-smaller : goal.loop-spare_reals-smaller
loop-spare_reals-smaller c = let s = c.step-poured.ensures in
    omega (arith, s.risen (not-false _ c.if-not-poured.false), s.within)

pub loop-spare_reals-preserved : goal.loop-spare_reals-preserved
loop-spare_reals-preserved c = let i = c.loop-spare_reals.invariant in
    let s = c.step-poured.ensures in
    (s.within, λ q t. i.1 q (onward s (not-false _ c.if-not-poured.false) t))
