-- Sums, differences, products and quotients of finite values without a sign keep the order, and results keep to bounds that are doubles.
-- Assumes nothing.
use mathlib.Core.Path.{◌≡◌, refl, sym, ap, ◌∙◌, subst}
use mathlib.Core.Logic.{inl, inr}
use Prim.Native.Nat.{ℕ, ◌+◌, ◌-◌, ◌*◌, ◌^◌, ◌≤◌, ◌<◌}
use native.Mathlib.Nat.{le_trans, le_of_eq, mul-one, one-mul, mul_comm, mul_assoc, mul-le-mul, mul-le-mul_right, mul-le-mul_left, mul-pos, mul-mul-mul_comm, add-le-add, add-mul}
use native.Mathlib.Omega.{arith}
use mathlib.Core.Bool.{Bool, true, false, not, false≢true}
use lib.Dec.{T, lit<}
use lib.Ieee.{Float, nan, inf, fin, Format, binary64, low, fits, round, add, sub, mul, div, le, of_bits}
use lib.Ieee.Exact.{HasValue}
use lib.Ieee.Bits.{of_bits-fits}
use lib.Ieee.Order.{round_mono}
use lib.Ieee.Positive.{num, den, den_pos}
use Rattle.doubles.specs.Numbers.{one64}
use Rattle.doubles.proofs.Truth.{is}
use Rattle.doubles.proofs.Fractions.{le-values}
use Rattle.doubles.proofs.Rounding.{less-mul, add_at, sub_at, mul_at, div-at, round-kind, round-below, round-above}

-- finite, with no sign: its value is num / den
abbrev pub unsigned : Float → Bool
unsigned nan = false
unsigned (inf s) = false
unsigned (fin s m e) = not s

pub own : (x : Float) → T (unsigned x) → HasValue x false (num x) (den x)
own nan u = absurd u
own (inf s) u = absurd u
own (fin true m e) u = absurd u
own (fin false m e) u = (refl, refl)

pub value-unsigned : (x : Float) (a c : ℕ) → HasValue x false a c → T (unsigned x)
value-unsigned nan a c v = absurd v
value-unsigned (inf s) a c v = absurd v
value-unsigned (fin s m e) a c v = subst (λ (b : Bool). T (not b)) (sym v.0) tt

pub le-cross : (x y : Float) → T (unsigned x) → T (unsigned y) → le x y ≡ true → num x * den y ≤ num y * den x
le-cross x y u w h = le-values x y (num x) (den x) (num y) (den y) (own x u) (own y w) h

-- ---- the order
-- x / p ≤ x' / p', over a common denominator with q and q'
widen : (x p x' p' q q' : ℕ) → x * p' ≤ x' * p → x * q * (p' * q') ≤ x' * q' * (p * q)
widen x p x' p' q q' h =
    le_trans (le_of_eq (mul-mul-mul_comm x q p' q'))
    (le_trans (mul-le-mul_right (q * q') h) (le_of_eq (ap (λ (z : ℕ). x' * p * z) (mul_comm q q') ∙ mul-mul-mul_comm x' p q' q)))

widen-other : (y q y' q' p p' : ℕ) → y * q' ≤ y' * q → y * p * (p' * q') ≤ y' * p' * (p * q)
widen-other y q y' q' p p' k =
    le_trans (le_of_eq (ap (λ (z : ℕ). y * p * z) (mul_comm p' q'))) (le_trans (widen y q y' q' p p' k) (le_of_eq (ap (λ (z : ℕ). y' * p' * z) (mul_comm q p))))

module _ (f : Format) (x x' y y' : Float) (ux : T (unsigned x)) (ux' : T (unsigned x')) (uy : T (unsigned y)) (uy' : T (unsigned y')) where
  pub add-mono : le x x' ≡ true → le y y' ≡ true → le (add f x y) (add f x' y') ≡ true
  add-mono h k =
      rw (add_at f x y (num x) (den x) (num y) (den y) (den_pos x) (den_pos y) (own x ux) (own y uy), add_at f x' y' (num x') (den x') (num y') (den y') (den_pos x') (den_pos y') (own x' ux') (own y' uy'))
      (is (round_mono f (num x * den y + num y * den x) (den x * den y) (num x' * den y' + num y' * den x') (den x' * den y') (mul-pos (den_pos x) (den_pos y)) (mul-pos (den_pos x') (den_pos y'))
      (le_trans (le_of_eq (add-mul (num x * den y) (num y * den x) (den x' * den y')))
      (le_trans (add-le-add (widen (num x) (den x) (num x') (den x') (den y) (den y') (le-cross x x' ux ux' h)) (widen-other (num y) (den y) (num y') (den y') (den x) (den x') (le-cross y y' uy uy' k)))
      (le_of_eq (sym (add-mul (num x' * den y') (num y' * den x') (den x * den y))))))))

  pub mul_mono : le x x' ≡ true → le y y' ≡ true → le (mul f x y) (mul f x' y') ≡ true
  mul_mono h k =
      rw (mul_at f x y (num x) (den x) (num y) (den y) (den_pos x) (den_pos y) (own x ux) (own y uy), mul_at f x' y' (num x') (den x') (num y') (den y') (den_pos x') (den_pos y') (own x' ux') (own y' uy'))
      (is (round_mono f (num x * num y) (den x * den y) (num x' * num y') (den x' * den y') (mul-pos (den_pos x) (den_pos y)) (mul-pos (den_pos x') (den_pos y'))
      (le_trans (le_of_eq (mul-mul-mul_comm (num x) (num y) (den x') (den y'))) (le_trans (mul-le-mul (le-cross x x' ux ux' h) (le-cross y y' uy uy' k)) (le_of_eq (mul-mul-mul_comm (num x') (den x) (num y') (den y)))))))

  -- x - y ≤ x' - y' for x ≤ x' and y' ≤ y, both differences from 0 up
  pub sub-mono : le x x' ≡ true → le y' y ≡ true → le y x ≡ true → le y' x' ≡ true → le (sub f x y) (sub f x' y') ≡ true
  sub-mono h k a b =
      rw (sub_at f x y (num x) (den x) (num y) (den y) (den_pos x) (den_pos y) (own x ux) (own y uy) (le-cross y x uy ux a), sub_at f x' y' (num x') (den x') (num y') (den y') (den_pos x') (den_pos y') (own x' ux') (own y' uy') (le-cross y' x' uy' ux' b))
      (is (round_mono f (num x * den y - num y * den x) (den x * den y) (num x' * den y' - num y' * den x') (den x' * den y') (mul-pos (den_pos x) (den_pos y)) (mul-pos (den_pos x') (den_pos y'))
      (le_trans (le_of_eq (less-mul (num x * den y) (num y * den x) (den x' * den y')))
      (le_trans (apart (widen (num x) (den x) (num x') (den x') (den y) (den y') (le-cross x x' ux ux' h)) (widen-other (num y') (den y') (num y) (den y) (den x') (den x) (le-cross y' y uy' uy k)))
      (le_of_eq (sym (less-mul (num x' * den y') (num y' * den x') (den x * den y))))))))
    where
      apart : {i j k l : ℕ} → i ≤ k → l ≤ j → i - j ≤ k - l
      apart p q = omega arith

  -- x / y ≤ x' / y' for x ≤ x' and y' ≤ y, both divisors above 0
  pub div_mono : le x x' ≡ true → le y' y ≡ true → 0 < num y → 0 < num y' → le (div f x y) (div f x' y') ≡ true
  div_mono h k Y Y' =
      rw (div-at f x y (num x) (den x) (num y) (den y) (den_pos x) (den_pos y) Y (own x ux) (own y uy), div-at f x' y' (num x') (den x') (num y') (den y') (den_pos x') (den_pos y') Y' (own x' ux') (own y' uy'))
      (is (round_mono f (num x * den y) (num y * den x) (num x' * den y') (num y' * den x') (mul-pos Y (den_pos x)) (mul-pos Y' (den_pos x')) cross))
    where
      cross : num x * den y * (num y' * den x') ≤ num x' * den y' * (num y * den x)
      cross =
          le_trans (le_of_eq (ap (λ (z : ℕ). num x * den y * z) (mul_comm (num y') (den x')) ∙ mul-mul-mul_comm (num x) (den y) (den x') (num y') ∙ ap (λ (z : ℕ). num x * den x' * z) (mul_comm (den y) (num y'))))
          (le_trans (mul-le-mul (le-cross x x' ux ux' h) (le-cross y' y uy' uy k))
          (le_of_eq (ap (λ (z : ℕ). num x' * den x * z) (mul_comm (num y) (den y')) ∙ mul-mul-mul_comm (num x') (den x) (den y') (num y) ∙ ap (λ (z : ℕ). num x' * den y' * z) (mul_comm (den x) (num y)))))

-- ---- bounds that are an operand
module _ (f : Format) (x y : Float) (ux : T (unsigned x)) (uy : T (unsigned y)) (fx : T (fits f x)) where
  pub add-at-least : le x (add f x y) ≡ true
  add-at-least =
      rw (add_at f x y (num x) (den x) (num y) (den y) (den_pos x) (den_pos y) (own x ux) (own y uy))
      (round-above f (num x * den y + num y * den x) (den x * den y) x (num x) (den x) (mul-pos (den_pos x) (den_pos y)) (den_pos x) fx (own x ux) (more (num x) (den x) (num y) (den y)))
    where
      more : (a c b d : ℕ) → a * (c * d) ≤ (a * d + b * c) * c
      more a c b d = omega arith

  pub sub-at-most : le y x ≡ true → le (sub f x y) x ≡ true
  sub-at-most h =
      rw (sub_at f x y (num x) (den x) (num y) (den y) (den_pos x) (den_pos y) (own x ux) (own y uy) (le-cross y x uy ux h))
      (round-below f (num x * den y - num y * den x) (den x * den y) x (num x) (den x) (mul-pos (den_pos x) (den_pos y)) (den_pos x) fx (own x ux) (less (num x) (den x) (num y) (den y)))
    where
      less : (a c b d : ℕ) → (a * d - b * c) * c ≤ a * (c * d)
      less a c b d = le_trans (mul-le-mul_right c (fewer (a * d) (b * c))) (le_of_eq (mul_assoc a d c ∙ ap (λ (z : ℕ). a * z) (mul_comm d c)))
        where
          fewer : (i j : ℕ) → i - j ≤ i
          fewer i j = omega arith

  -- a factor that is 1 at most, one that is 1 at least, and a divisor that is 1 at least
  pub mul-at-most : num y ≤ den y → le (mul f x y) x ≡ true
  mul-at-most h =
      rw (mul_at f x y (num x) (den x) (num y) (den y) (den_pos x) (den_pos y) (own x ux) (own y uy))
      (round-below f (num x * num y) (den x * den y) x (num x) (den x) (mul-pos (den_pos x) (den_pos y)) (den_pos x) fx (own x ux)
      (le_trans (mul-le-mul_right (den x) (mul-le-mul_left (num x) h)) (le_of_eq (mul_assoc (num x) (den y) (den x) ∙ ap (λ (z : ℕ). num x * z) (mul_comm (den y) (den x))))))

  pub mul-at-least : den y ≤ num y → le x (mul f x y) ≡ true
  mul-at-least h =
      rw (mul_at f x y (num x) (den x) (num y) (den y) (den_pos x) (den_pos y) (own x ux) (own y uy))
      (round-above f (num x * num y) (den x * den y) x (num x) (den x) (mul-pos (den_pos x) (den_pos y)) (den_pos x) fx (own x ux)
      (le_trans (le_of_eq (ap (λ (z : ℕ). num x * z) (mul_comm (den x) (den y)) ∙ sym (mul_assoc (num x) (den y) (den x)))) (mul-le-mul_right (den x) (mul-le-mul_left (num x) h))))

  pub div-at-most : 0 < num y → den y ≤ num y → le (div f x y) x ≡ true
  div-at-most Y h =
      rw (div-at f x y (num x) (den x) (num y) (den y) (den_pos x) (den_pos y) Y (own x ux) (own y uy))
      (round-below f (num x * den y) (num y * den x) x (num x) (den x) (mul-pos Y (den_pos x)) (den_pos x) fx (own x ux)
      (le_trans (mul-le-mul_right (den x) (mul-le-mul_left (num x) h)) (le_of_eq (mul_assoc (num x) (num y) (den x)))))

pub one_value : HasValue one64 false 1 1
unfolding of_bits
one_value = (refl, refl)

unbounded : (y : Float) → T (unsigned y) → le (inf false) y ≡ true → ⊥
unfolding le
unbounded nan u h = u
unbounded (inf s) u h = u
unbounded (fin s m e) u h = false≢true h

-- ---- a quotient of two that stand in order is at most 1
pub div-at-most-one : (x y : Float) → T (unsigned x) → T (unsigned y) → 0 < num y → le x y ≡ true → le (div binary64 x y) one64 ≡ true
div-at-most-one x y ux uy Y h =
    rw (div-at binary64 x y (num x) (den x) (num y) (den y) (den_pos x) (den_pos y) Y (own x ux) (own y uy))
    (round-below binary64 (num x * den y) (num y * den x) one64 1 1 (mul-pos Y (den_pos x)) (lit< tt) (of_bits-fits binary64 0x3ff0_0000_0000_0000) one_value (le_trans (le_of_eq (mul-one (num x * den y))) (le_trans (le-cross x y ux uy h) (le_of_eq (sym (one-mul (num y * den x)))))))

-- ---- what is rounded and at most a finite value is finite and has no sign
pub round-unsigned : (f : Format) (a b : ℕ) (y : Float) → T (unsigned y) → le (round f false a b) y ≡ true → T (unsigned (round f false a b))
round-unsigned f a b y u h = elim (round-kind f a b) [
  | inl e ↦ absurd (unbounded y u (subst (λ (z : Float). le z y ≡ true) e h))
  | inr g ↦ value-unsigned (round f false a b) g.0 (2 ^ low f) g.1
]

-- ---- a running sum of values without a sign falls nowhere, also where it passes the largest double
abbrev pub upward : Float → Bool
upward nan = false
upward (inf s) = not s
upward (fin s m e) = not s

rounded-upward : (f : Format) (a b : ℕ) → T (upward (round f false a b))
rounded-upward f a b = elim (round-kind f a b) [
  | inl e ↦ subst (λ (z : Float). T (upward z)) (sym e) tt
  | inr g ↦ finite-upward (round f false a b) (value-unsigned (round f false a b) g.0 (2 ^ low f) g.1)
]
  where
    finite-upward : (x : Float) → T (unsigned x) → T (upward x)
    finite-upward nan u = absurd u
    finite-upward (inf s) u = absurd u
    finite-upward (fin s m e) u = u

finite-sum : (f : Format) (x y : Float) → T (fits f x) → T (unsigned x) → T (unsigned y) → (le x (add f x y) ≡ true) × T (upward (add f x y))
finite-sum f x y t u w =
    rw (add_at f x y (num x) (den x) (num y) (den y) (den_pos x) (den_pos y) (own x u) (own y w)) (
      round-above f (num x * den y + num y * den x) (den x * den y) x (num x) (den x) (mul-pos (den_pos x) (den_pos y)) (den_pos x) t (own x u) (more (num x) (den x) (num y) (den y)),
      rounded-upward f (num x * den y + num y * den x) (den x * den y),
    )
  where
    more : (a c b d : ℕ) → a * (c * d) ≤ (a * d + b * c) * c
    more a c b d = omega arith

pub add-upward : (f : Format) (x y : Float) → T (fits f x) → T (upward x) → T (unsigned y) → (le x (add f x y) ≡ true) × T (upward (add f x y))
unfolding le add
add-upward f nan y t u w = absurd u
add-upward f (inf true) y t u w = absurd u
add-upward f (inf false) nan t u w = absurd w
add-upward f (inf false) (inf s) t u w = absurd w
add-upward f (inf false) (fin s m e) t u w = (refl, tt)
add-upward f (fin true m e) y t u w = absurd u
add-upward f (fin false m e) y t u w = finite-sum f (fin false m e) y t u w
