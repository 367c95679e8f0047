-- `is_root`: what is left of e above the power of two are the root's digits behind the first. Assumes nothing.
use Rattle.std.proofs.Common.{◌≡◌, ℕ, ◌+◌, ◌-◌, ◌*◌, ◌/◌, ◌%◌, ◌^◌, ◌<◌, ◌≤◌, true, ◌&&◌, ltb, subst, mul-le-mul, arith, ltb-true}
use mathlib.Core.Bool.{false≢true}
use Rattle.careful.specs.Digits.{NearRoot}
use Rattle.root.specs.Digits.{Right}
use Rattle.doubles.proofs.Truth.{both}
use Rattle.root.proofs.positive.is_root.Goals as goal
use Rattle.root.proofs.positive.is_root.Goals.{Then-top-rest}

-- the number's digits, twice where its exponent is even
digits : (b : ℕ) → (b % 2 ^ 52 + 2 ^ 52) * (2 - b / 2 ^ 52 % 2) ≤ 2 ^ 53 * 2
digits b =
    let m : b % 2 ^ 52 + 2 ^ 52 ≤ 2 ^ 53 = omega arith in
    let k : 2 - b / 2 ^ 52 % 2 ≤ 2 = omega arith in
    mul-le-mul m k

-- the tests
record Tested (b r : ℕ) : Type 0 where
  normal : 0 < b / 2 ^ 52
  finite : b / 2 ^ 52 < 2047
  short : r < 2 ^ 52

tested : (b r : ℕ) → (ltb 0 (b / 2 ^ 52) && ltb (b / 2 ^ 52) 2047 && ltb r (2 ^ 52)) ≡ true → Tested b r
tested b r h =
    let f = both _ _ h in
    let g = both _ _ f.0 in
    record { normal = ltb-true 0 (b / 2 ^ 52) g.0; finite = ltb-true (b / 2 ^ 52) 2047 g.1; short = ltb-true r (2 ^ 52) f.1 }

right : (b e p r : ℕ) → b < 2 ^ 64 → e < 2 ^ 64 → p ≡ (b / 2 + 0x1ff8_0000_0000_0000) / 2 ^ 52 * 2 ^ 52 → (r + p) % 2 ^ 64 ≡ e → Tested b r
    → NearRoot ((b % 2 ^ 52 + 2 ^ 52) * (2 - b / 2 ^ 52 % 2) * 2 ^ 52) (r + 2 ^ 52) → Right b e
right b e p r lb le is-p is-r t n =
    let h = t.normal in
    let l = t.finite in
    let s = t.short in
    let i : e ≡ p + r = omega arith in
    let j : r ≡ e % 2 ^ 52 = omega arith in
    record {
      normal = omega arith;
      finite = omega arith;
      exponent = omega arith;
      near = subst (λ (z : ℕ). NearRoot ((b % 2 ^ 52 + 2 ^ 52) * (2 - b / 2 ^ 52 % 2) * 2 ^ 52) (z + 2 ^ 52)) j n;
    }

-- what is left of e above the power of two, wrapped
abbrev left : ℕ → ℕ → ℕ
left e p = (e + (2 ^ 64 - p)) % 2 ^ 64

at-if : (c : Then-top-rest) → Tested c.args.bits (left c.args.e c.power.result)
at-if c = tested c.args.bits (left c.args.e c.power.result) c.if-top-rest.true

pub overflow_add-rest : goal.overflow_add-rest
overflow_add-rest c = let h = (at-if (goal.at.overflow_add-rest c).Then-top-rest).short in omega arith

pub overflow_mul-m : goal.overflow_mul-m
overflow_mul-m c = let h = digits c.args.bits in omega arith

pub is_sure-requires : goal.is_sure-requires
is_sure-requires c = let h = (at-if (goal.at.is_sure-requires c).Then-top-rest).short in (omega arith, digits c.args.bits)

pub returns-then-top-rest : goal.returns-then-top-rest
returns-then-top-rest c h = right c.args.bits c.args.e c.power.result (left c.args.e c.power.result) (omega arith) (omega arith) c.power.ensures (omega (arith, c.power.ensures)) (at-if (goal.at.returns-then-top-rest c).Then-top-rest) (c.is_sure.ensures h)

pub returns : goal.returns
returns c h = absurd (false≢true h)
