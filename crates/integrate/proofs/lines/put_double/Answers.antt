-- `put_double`: a blank, then the digits that `io` makes, all 16.
use Prim.Native.Nat.{ℕ}
use mathlib.Core.Path.{ap, ◌∙◌}
use native.Mathlib.Omega.{arith}
use lib.ListN.{take}
use Rattle.integrate.specs.Lines.{double_of}
use Rattle.integrate.proofs.Decimal.{hex-many}
use Rattle.integrate.proofs.Placing.{blank-behind}
use Rattle.io.specs.Digits.{last_digits}
use Rattle.integrate.proofs.lines.put_double.Goals as goal

pub put_bytes-requires : goal.put_bytes-requires
put_bytes-requires c = let all = hex-many _ _ c.bits.type_inv c.hex-many.ensures.len in
    let many = c.hex-many.ensures.in_bounds.1 in
    omega (arith, c.put_bytes-blank.ensures.0)

pub returns : goal.returns
unfolding double_of
returns c = let all = hex-many _ _ c.bits.type_inv c.hex-many.ensures.len in
    let many = c.hex-many.ensures.in_bounds.1 in
    let e = c.hex-many.ensures.digits ∙ ap (λ (k : ℕ). last_digits 16 k c.bits.result) all ∙ ap (λ (n : ℕ). last_digits 16 16 n) c.bits.ensures in
    (omega (arith, c.put_bytes.ensures.0, c.put_bytes-blank.ensures.0), blank-behind (take c.args.from c.args.out.now) _ c.put_bytes.ensures.1 c.put_bytes-blank.ensures.1 e)
