-- The sign goes through `round`; differences of whole numbers, and the exponents that the code counts. Assumes nothing.
use mathlib.Core.Path.{◌≡◌, refl, sym, ap, ◌∙◌}
use Prim.Native.Nat.{ℕ, zero, suc, ◌+◌, ◌-◌, ◌*◌, ◌/◌, ◌^◌, ◌≤◌, ◌<◌}
use native.Mathlib.Omega.{arith}
use mathlib.Core.Bool.{Bool, true, false, not, cond}
use lib.IntN.{pos, negsuc, suc_ℤ}
use lib.Dec.{T, leb, ltb, leb→le, nleb→lt}
use lib.Ieee.{inf, Format, prec, low, emax, size, minus, odd, units, round, neg, of_int}
use lib.Ieee.Fits.{round_is}
use lib.Ieee.Nearest.{closest}
use borrow.Author.Tests.{le-leb, lt-leb}

-- ---- the sign
neg-odd : (d q k l : ℕ) → neg (odd d false q k l) ≡ odd d true q k l
unfolding neg odd
neg-odd d zero k l = refl
neg-odd d (suc q) k l = refl

neg-units : (f : Format) (q k : ℕ) → neg (units f false q k) ≡ units f true q k
unfolding neg units
neg-units f q k = go (ltb (q * 2 ^ k) (2 ^ (low f + suc (emax f))))
  where
    go : (b : Bool) → neg (cond b (odd (suc (prec f)) false q k (low f)) (inf false)) ≡ cond b (odd (suc (prec f)) true q k (low f)) (inf true)
    go true = neg-odd (suc (prec f)) q k (low f)
    go false = refl

pub neg-round : (f : Format) (a b : ℕ) → neg (round f false a b) ≡ round f true a b
neg-round f a b = ap neg (round_is f false a b) ∙ neg-units f (closest (a * 2 ^ low f) (b * 2 ^ (size (a * 2 ^ low f / b) - prec f))) (size (a * 2 ^ low f / b) - prec f) ∙ sym (round_is f true a b)

pub neg-of_int : (f : Format) (n : ℕ) → neg (of_int f (pos (suc n))) ≡ of_int f (negsuc n)
unfolding of_int
neg-of_int f n = neg-round f (suc n) 1

-- ---- a - b
pub minus_pos : (a b : ℕ) → b ≤ a → minus a b ≡ pos (a - b)
minus_pos a b h = ap (λ (t : Bool). cond t (pos (a - b)) (negsuc (b - suc a))) (le-leb b a h)

pub minus-neg : (a b : ℕ) → a < b → minus a b ≡ negsuc (b - suc a)
minus-neg a b h = ap (λ (t : Bool). cond t (pos (a - b)) (negsuc (b - suc a))) (lt-leb b a h)

pub suc-minus : (a b : ℕ) → suc_ℤ (minus a b) ≡ minus (suc a) b
suc-minus a b = go (leb b a) (leb→le b a) (nleb→lt b a)
  where
    down : (k : ℕ) → b - suc a ≡ k → a < b → suc_ℤ (negsuc k) ≡ minus (suc a) b
    down zero e h =
        let i : suc a - b ≡ 0 = omega arith in
        let l : b ≤ suc a = omega arith in
        sym (minus_pos (suc a) b l ∙ ap pos i)
    down (suc k) e h =
        let i : b - suc (suc a) ≡ k = omega arith in
        let l : suc a < b = omega arith in
        sym (minus-neg (suc a) b l ∙ ap negsuc i)

    go : (t : Bool) → (T t → b ≤ a) → (T (not t) → a < b) → suc_ℤ (minus a b) ≡ minus (suc a) b
    go true h k =
        let l : b ≤ suc a = let g = h tt in omega arith in
        let i : suc (a - b) ≡ suc a - b = let g = h tt in omega arith in
        ap suc_ℤ (minus_pos a b (h tt)) ∙ ap pos i ∙ sym (minus_pos (suc a) b l)
    go false h k = ap suc_ℤ (minus-neg a b (k tt)) ∙ down (b - suc a) refl (k tt)

pub minus-shift : (a b c : ℕ) → minus (a + c) (b + c) ≡ minus a b
minus-shift a b c = go (leb b a) (leb→le b a) (nleb→lt b a)
  where
    go : (t : Bool) → (T t → b ≤ a) → (T (not t) → a < b) → minus (a + c) (b + c) ≡ minus a b
    go true h k =
        let l = h tt in
        let i : a + c - (b + c) ≡ a - b = omega arith in
        minus_pos (a + c) (b + c) (omega arith) ∙ ap pos i ∙ sym (minus_pos a b l)
    go false h k =
        let l = k tt in
        let i : b + c - suc (a + c) ≡ b - suc a = omega arith in
        minus-neg (a + c) (b + c) (omega arith) ∙ ap negsuc i ∙ sym (minus-neg a b l)
