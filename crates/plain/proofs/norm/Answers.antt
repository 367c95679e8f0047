-- `norm` takes what is not above 0 from 0: the true difference is a double, so nothing is rounded, and a zero comes out without its sign.
-- Assumes nothing.
use Rattle.std.proofs.Common.{◌≡◌, ℕ, ◌+◌, ◌-◌, ◌*◌, ◌≤◌, true, false, T, ℤ, pos, sym, refl, ◌∙◌, subst, true≢false, zero-mul, arith, lit<}
use mathlib.Core.Bool.{false≢true}
use lib.Ieee.{Float, nan, inf, fin, binary64, up, down, fits, of_bits, neg, add, sub, le}
use lib.Ieee.Fits.{down_pos, neg-fits}
use Rattle.doubles.specs.Numbers.{zero64}
use Rattle.plain.specs.Norm.{norm_of}
use Rattle.doubles.proofs.Order.{le-under, under-le}
use Rattle.doubles.proofs.Exact.{round-self}
use Rattle.doubles.proofs.Rounding.{add_at, sub_at}
use Rattle.plain.proofs.norm.Goals as goal

-- 0 + m
sum : (m : ℕ) (e : ℤ) → T (fits binary64 (fin false m e)) → add binary64 zero64 (fin false m e) ≡ fin false m e
unfolding of_bits
sum m e t =
    add_at binary64 (fin false 0 (pos 0)) (fin false m e) 0 1 (m * up e) (down e) (lit< tt) (down_pos e) (refl, refl) (refl, refl)
    ∙ round-self binary64 false (fin false m e) (0 * down e + m * up e * 1) (1 * down e) (omega (arith, down_pos e)) t (refl, same (m * up e) (down e))
  where
    same : (a d : ℕ) → a * (1 * d) ≡ (0 * d + a * 1) * d
    same a d = omega arith

-- 0 - 0
none : (m : ℕ) (e : ℤ) → T (fits binary64 (fin false m e)) → m * up e * 1 ≤ 0 * down e → sub binary64 zero64 (fin false m e) ≡ fin false m e
unfolding of_bits
none m e t h =
    sub_at binary64 (fin false 0 (pos 0)) (fin false m e) 0 1 (m * up e) (down e) (lit< tt) (down_pos e) (refl, refl) (refl, refl) h
    ∙ round-self binary64 false (fin false m e) (0 * down e - m * up e * 1) (1 * down e) (omega (arith, down_pos e)) t (refl, same (m * up e) (down e) (omega arith))
  where
    same : (a d : ℕ) → a ≡ 0 → a * (1 * d) ≡ (0 * d - a * 1) * d
    same a d z = rw z (simp zero-mul)

below : (x : Float) → T (fits binary64 x) → le x zero64 ≡ true → sub binary64 zero64 x ≡ norm_of x
unfolding le sub neg add of_bits norm_of
below nan t h = absurd (false≢true h)
below (inf true) t h = refl
below (inf false) t h = absurd (false≢true h)
below (fin true m e) t h = sum m e (neg-fits binary64 (fin true m e) t)
below (fin false m e) t h = none m e t (le-under false m e false 0 (pos 0) h)

above : (x : Float) → le x zero64 ≡ false → x ≡ norm_of x
unfolding le of_bits norm_of
above nan h = refl
above (inf true) h = absurd (true≢false h)
above (inf false) h = refl
above (fin true m e) h = absurd (true≢false (sym (under-le true m e false 0 (pos 0) tt) ∙ h))
above (fin false m e) h = refl

pub returns-then-x : goal.returns-then-x
returns-then-x c = below c.args.x (subst T (sym c.well_formed.0.1) tt) c.if-x.true

pub returns-else-x : goal.returns-else-x
returns-else-x c = above c.args.x c.if-x.false
