-- `whole` answers from 2 ^ 64 on and up to 0 by comparing, and between by the cast that cuts the fraction off. Assumes nothing.
use Rattle.std.proofs.Common.{◌≡◌, ℕ, ◌+◌, ◌-◌, ◌*◌, ◌/◌, ◌^◌, ◌<◌, ◌≤◌, min, Bool, true, false, not, T, pos, sym, refl, ap, ◌∙◌, true≢false, le-div_iff_mul-le, arith, lt→ltb, ltb-false}
use native.Mathlib.Nat.{min-eq_right, zero-div}
use mathlib.Core.Bool.{false≢true}
use lib.Ieee.{Float, nan, inf, fin, binary64, up, down, of_bits, lt, le, is_nan, to_unsigned}
use lib.Ieee.Fits.{down_pos}
use Rattle.doubles.specs.Numbers.{zero64}
use Rattle.doubles.specs.Whole.{whole_of}
use Rattle.doubles.proofs.Order.{le-under, le_not_lt}
use Rattle.plain.proofs.whole.Goals as goal

-- 2 ^ 64
abbrev limit : Float
limit = of_bits binary64 0x43f0_0000_0000_0000

above : (x : Float) → le limit x ≡ true → 2 ^ 64 - 1 ≡ whole_of x
unfolding le of_bits whole_of to_unsigned
above nan h = absurd (false≢true h)
above (inf true) h = absurd (false≢true h)
above (inf false) h = refl
above (fin true m e) h = absurd (none (m * up e) (down e) (down_pos e) (le-under false 1 (pos 64) true m e h))
  where
    none : (a d : ℕ) → 0 < d → 1 * 2 ^ 64 * d + a * 1 ≤ 0 → ⊥
    none a d D h = omega arith
above (fin false m e) h =
    let i : 1 * 2 ^ 64 * down e ≤ m * up e * 1 = le-under false 1 (pos 64) false m e h in
    sym (min-eq_right ((le-div_iff_mul-le (down_pos e)).1 (omega arith)))

inside : (x : Float) → le limit x ≡ false → lt zero64 x ≡ true → T (lt (fin true 1 (pos 0)) x) × T (lt x (fin false 1 (pos 64)))
unfolding lt le of_bits is_nan
inside nan g h = absurd (false≢true h)
inside (inf true) g h = absurd (false≢true h)
inside (inf false) g h = absurd (true≢false g)
inside (fin true m e) g h = absurd (false≢true h)
inside (fin false m e) g h =
    let D = down_pos e in
    (lt→ltb 0 (1 * down e + m * up e * 1) (omega arith), go (lt (fin false m e) (fin false 1 (pos 64))) (le_not_lt (fin false m e) (fin false 1 (pos 64)) refl refl))
  where
    go : (b : Bool) → le (fin false 1 (pos 64)) (fin false m e) ≡ not b → T b
    go true k = tt
    go false k = absurd (true≢false (sym k ∙ g))

below : (x : Float) → lt zero64 x ≡ false → 0 ≡ whole_of x
unfolding lt of_bits whole_of to_unsigned
below nan h = refl
below (inf true) h = refl
below (inf false) h = absurd (true≢false h)
below (fin true m e) h = refl
below (fin false m e) h =
    let i : m * up e * 1 ≤ 0 * down e = ltb-false (0 * down e) (m * up e * 1) h in
    let z : m * up e ≡ 0 = omega arith in
    sym (ap (λ (a : ℕ). min (a / down e) (2 ^ 64 - 1)) z ∙ ap (λ (a : ℕ). min a (2 ^ 64 - 1)) (zero-div (down e)))

pub returns-then-x : goal.returns-then-x
returns-then-x c = above c.args.x c.if-x.true

pub truncating_f64_to_u64-requires : goal.truncating_f64_to_u64-requires
truncating_f64_to_u64-requires c = let i = inside c.args.x c.if-x.false c.if-x-2.true in record { lower_bound = i.0; upper_bound = i.1 }

pub returns-then-x-2 : goal.returns-then-x-2
unfolding whole_of
returns-then-x-2 c = c.truncating_f64_to_u64.ensures

pub returns : goal.returns
returns c = below c.args.x c.if-x-2.false
