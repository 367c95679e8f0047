-- `two_to`: an exponent's field with no further digit is a power of two. Assumes nothing.
use mathlib.Core.Path.{◌≡◌, ap, ◌∙◌}
use Prim.Native.Nat.{ℕ, zero, suc, ◌+◌, ◌*◌, ◌/◌, ◌%◌, ◌^◌, ◌≤◌, ◌<◌}
use native.Mathlib.Nat.{mod-eq_of_lt, mul-mod_left, mul-div_cancel, lt_of_lt_of_le}
use native.Mathlib.Omega.{arith}
use mathlib.Core.Bool.{Bool, false, cond}
use lib.IntN.{ℤ}
use lib.Dec.{lit≤}
use lib.Pow.{pow_pos}
use lib.Count.{count_trailing_zeros}
use lib.Ieee.{inf, fin, binary64, minus, odd, of_fields, of_bits, top, hid}
use borrow.Author.Tests.{lt-leb, ne_eqb}
use Rattle.doubles.proofs.Signs.{minus-shift}
use Rattle.doubles.proofs.Bits.{no-nan-bits}
use Rattle.real.proofs.exp.two_to.Goals as goal

field : (f : ℕ) → f < 2046 → of_fields binary64 false (suc f) 0 ≡ fin false 1 (minus (suc f) 1023)
unfolding of_fields odd count_trailing_zeros
field f h =
    let i : f + 52 ≡ suc f + 51 = omega arith in
    ap (λ (b : Bool). cond b (inf false) (odd 53 false (2 ^ 52) f 1074)) (ne_eqb (suc f) 2047 (λ e. omega arith))
    ∙ ap (λ (z : ℤ). fin false 1 z) (ap (λ (z : ℕ). minus z 1074) i ∙ minus-shift (suc f) 1023 51)

power-bits : (e : ℕ) → 1 ≤ e → e < 2047 → of_bits binary64 (e * 2 ^ 52) ≡ fin false 1 (minus e 1023)
unfolding of_bits
power-bits zero a h = absurd (omega arith)
power-bits (suc f) a h =
    let b = suc f * 2 ^ 52 in
    let l : b < 2047 * 2 ^ 52 = omega arith in
    let t : b < top binary64 = lt_of_lt_of_le l (lit≤ tt) in
    ap (λ (c : Bool). of_fields binary64 c (b % top binary64 / hid binary64) (b % hid binary64)) (lt-leb (top binary64) b t)
    ∙ ap (λ (c : ℕ). of_fields binary64 false (c / hid binary64) (b % hid binary64)) (mod-eq_of_lt t)
    ∙ ap (λ (c : ℕ). of_fields binary64 false c (b % hid binary64)) (mul-div_cancel (suc f) (pow_pos 52))
    ∙ ap (λ (c : ℕ). of_fields binary64 false (suc f) c) (mul-mod_left (suc f) (2 ^ 52))
    ∙ field f (omega arith)

room : (e : ℕ) → e < 2047 → e * 2 ^ 52 ≤ 2047 * 2 ^ 52
room e h = omega arith

pub float_from_bits-result : goal.float_from_bits-result
float_from_bits-result c = no-nan-bits _ (room c.args.e c.requires.1)

pub returns : goal.returns
returns c = power-bits c.args.e c.requires.0 c.requires.1
