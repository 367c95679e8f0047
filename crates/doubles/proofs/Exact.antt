-- Where nothing is rounded away: a value that the format holds is known by its sign and its size, and rounds to itself; so do fractions by
-- powers of two, and products with powers of two. Assumes nothing.
use mathlib.Core.Path.{◌≡◌, sym, ap, ap₂, ◌∙◌, subst}
use Prim.Native.Nat.{ℕ, zero, suc, ◌+◌, ◌-◌, ◌*◌, ◌/◌, ◌%◌, ◌^◌, ◌≤◌, ◌<◌}
use native.Mathlib.Nat.{one-mul, le_of_eq, le_of_lt, lt_of_lt_of_le, lt_of_le_of_lt, mul-le-mul, lt_of_mul-lt-mul_right, mul-one, mul_comm, mul_assoc, mul_right_comm, mul-lt-mul_of_pos_right, eq_of_mul-eq-mul_right, not-le_of_lt, lt_of_not-le, zero-mul}
use native.Mathlib.Omega.{arith}
use mathlib.Core.Bool.{Bool, false, ◌&&◌, cond}
use lib.IntN.{ℤ, pos, negsuc}
use lib.Dec.{T, eqb, leb, ltb, leb→le, ltb→lt, lit<}
use lib.Pow.{pow-add, pow_pos, pow-lt, pow_mono}
use lib.Ieee.{Float, nan, inf, fin, Format, binary64, mul, prec, emax, low, hid, top, up, down, size, fits, round, to_bits, of_bits}
use lib.Ieee.Fits.{and_l, and_r, down_pos, round-fits}
use lib.Ieee.Exact.{HasValue, round_exact}
use lib.Ieee.Nearest.{div_same}
use lib.Ieee.Bits.{of_bits-to_bits}

-- ---- from one fraction to another of the same size
pub rescale : (x : Float) (s : Bool) (a c b d : ℕ) → 0 < c → b * c ≡ a * d → HasValue x s a c → HasValue x s b d
rescale nan s a c b d C h v = v
rescale (inf t) s a c b d C h v = v
rescale (fin t m e) s a c b d C h v = (
  v.0,
  eq_of_mul-eq-mul_right c C (m * up e * d) (b * down e)
      (mul_right_comm (m * up e) d c
      ∙ ap (λ (z : ℕ). z * d) v.1
      ∙ mul_right_comm a (down e) d
      ∙ ap (λ (z : ℕ). z * down e) (sym h)
      ∙ mul_right_comm b c (down e)),
)

-- ---- a value that the format holds is known by its sign and its size
same_bits : (f : Format) (x y : Float) (s : Bool) (a c : ℕ) → 0 < c → HasValue x s a c → HasValue y s a c → to_bits f x ≡ to_bits f y
unfolding to_bits
same_bits f nan y s a c C v w = absurd v
same_bits f (inf t) y s a c C v w = absurd v
same_bits f (fin t m e) nan s a c C v w = absurd w
same_bits f (fin t m e) (inf u) s a c C v w = absurd w
same_bits f (fin t m e) (fin u n d) s a c C v w =
    ap₂ (λ (z : Bool) (k : ℕ). cond z (top f) 0 + (size k - prec f) * hid f + k / 2 ^ (size k - prec f)) (v.0 ∙ sym w.0)
    (div_same (m * up e * 2 ^ low f) (down e) (n * up d * 2 ^ low f) (down d) (down_pos e) (down_pos d)
    (mul_right_comm (m * up e) (2 ^ low f) (down d) ∙ ap (λ (z : ℕ). z * 2 ^ low f) cross ∙ mul_right_comm (n * up d) (down e) (2 ^ low f)))
  where
    cross : m * up e * down d ≡ n * up d * down e
    cross =
        eq_of_mul-eq-mul_right c C (m * up e * down d) (n * up d * down e)
        (mul_right_comm (m * up e) (down d) c ∙ ap (λ (z : ℕ). z * down d) v.1 ∙ mul_right_comm a (down e) (down d) ∙ ap (λ (z : ℕ). z * down e) (sym w.1) ∙ mul_right_comm (n * up d) c (down e))

pub value-unique : (f : Format) (x y : Float) (s : Bool) (a c : ℕ) → 0 < c → T (fits f x) → T (fits f y) → HasValue x s a c → HasValue y s a c → x ≡ y
value-unique f x y s a c C p q v w = sym (of_bits-to_bits f x p) ∙ ap (λ (b : ℕ). of_bits f b) (same_bits f x y s a c C v w) ∙ of_bits-to_bits f y q

-- ---- what the format holds: q * 2 ^ j of its smallest values, where q has no more digits than it keeps
pub record Held (f : Format) (m : ℕ) (e : ℤ) : Type 0 where
  pub q : ℕ
  pub j : ℕ
  pub short : q < 2 ^ prec f
  pub below : q * 2 ^ j < 2 ^ (low f + suc (emax f))
  pub units : m * up e * 2 ^ low f ≡ q * 2 ^ j * down e

parts : (a b c d : Bool) → T (a && b && c && d) → T b × T c × T d
parts a b c d t = (and_r a b (and_l (a && b) c (and_l (a && b && c) d t)), and_r (a && b) c (and_l (a && b && c) d t), and_r (a && b && c) d t)

pub held : (f : Format) (s : Bool) (m : ℕ) (e : ℤ) → T (fits f (fin s m e)) → Held f m e
unfolding fits
held f s zero e t = record { q = 0; j = 0; short = pow_pos (prec f); below = subst (λ (z : ℕ). z < 2 ^ (low f + suc (emax f))) (sym (zero-mul (2 ^ 0))) (pow_pos (low f + suc (emax f))); units = none (up e) (2 ^ low f) (down e) }
  where
    none : (a l b : ℕ) → 0 * a * l ≡ 0 * 1 * b
    none a l b = omega arith
held f s (suc m) (pos a) t =
    let p = parts (eqb (suc m % 2) 1) (ltb (suc m) (2 ^ prec f)) (leb 1 (2 ^ low f)) (ltb (suc m * 2 ^ a) (2 ^ suc (emax f) * 1)) t in
    let e : suc m * 2 ^ (a + low f) ≡ suc m * 2 ^ a * 2 ^ low f = ap (λ (z : ℕ). suc m * z) (pow-add 2 a (low f)) ∙ sym (mul_assoc (suc m) (2 ^ a) (2 ^ low f)) in
    let o : 2 ^ (low f + suc (emax f)) ≡ 2 ^ suc (emax f) * 2 ^ low f = pow-add 2 (low f) (suc (emax f)) ∙ mul_comm (2 ^ low f) (2 ^ suc (emax f)) in
    let l : suc m * 2 ^ a < 2 ^ suc (emax f) = subst (λ (z : ℕ). suc m * 2 ^ a < z) (mul-one (2 ^ suc (emax f))) (ltb→lt (suc m * 2 ^ a) (2 ^ suc (emax f) * 1) p.2) in
    record {
      q = suc m;
      j = a + low f;
      short = ltb→lt (suc m) (2 ^ prec f) p.0;
      below = subst (λ (z : ℕ). z < 2 ^ (low f + suc (emax f))) (sym e) (subst (λ (z : ℕ). suc m * 2 ^ a * 2 ^ low f < z) (sym o) (mul-lt-mul_of_pos_right l (pow_pos (low f))));
      units = sym e ∙ sym (mul-one (suc m * 2 ^ (a + low f)));
    }
held f s (suc m) (negsuc a) t =
    let p = parts (eqb (suc m % 2) 1) (ltb (suc m) (2 ^ prec f)) (leb (2 ^ suc a) (2 ^ low f)) (ltb (suc m * 1) (2 ^ suc (emax f) * 2 ^ suc a)) t in
    let l : suc a ≤ low f = within a (low f) (λ (g : low f < suc a). not-le_of_lt (pow-lt g) (leb→le (2 ^ suc a) (2 ^ low f) p.1)) in
    let i : 2 ^ (low f - suc a) * 2 ^ suc a ≡ 2 ^ low f = sym (pow-add 2 (low f - suc a) (suc a)) ∙ ap (λ (z : ℕ). 2 ^ z) (back (low f) (suc a) l) in
    let o : 2 ^ suc (emax f) * 2 ^ suc a * 2 ^ (low f - suc a) ≡ 2 ^ (low f + suc (emax f)) =
    mul_assoc (2 ^ suc (emax f)) (2 ^ suc a) (2 ^ (low f - suc a)) ∙ ap (λ (z : ℕ). 2 ^ suc (emax f) * z) (mul_comm (2 ^ suc a) (2 ^ (low f - suc a)) ∙ i) ∙ mul_comm (2 ^ suc (emax f)) (2 ^ low f) ∙ sym (pow-add 2 (low f) (suc (emax f))) in
    let h : suc m < 2 ^ suc (emax f) * 2 ^ suc a = subst (λ (z : ℕ). z < 2 ^ suc (emax f) * 2 ^ suc a) (mul-one (suc m)) (ltb→lt (suc m * 1) (2 ^ suc (emax f) * 2 ^ suc a) p.2) in
    record {
      q = suc m;
      j = low f - suc a;
      short = ltb→lt (suc m) (2 ^ prec f) p.0;
      below = subst (λ (z : ℕ). suc m * 2 ^ (low f - suc a) < z) o (mul-lt-mul_of_pos_right h (pow_pos (low f - suc a)));
      units = ap (λ (z : ℕ). z * 2 ^ low f) (mul-one (suc m)) ∙ ap (λ (z : ℕ). suc m * z) (sym i) ∙ sym (mul_assoc (suc m) (2 ^ (low f - suc a)) (2 ^ suc a));
    }
  where
    within : (a l : ℕ) → (l < suc a → ⊥) → suc a ≤ l
    within a l n = let h : suc a < suc l = lt_of_not-le n in omega arith

    back : (l a : ℕ) → a ≤ l → l - a + a ≡ l
    back l a h = omega arith

-- ---- so its own fraction rounds to it
own-exact : (f : Format) (s : Bool) (x : Float) (a c : ℕ) → 0 < c → T (fits f x) → HasValue x s a c → HasValue (round f s a c) s a c
own-exact f s nan a c C t v = absurd v
own-exact f s (inf u) a c C t v = absurd v
own-exact f s (fin u m e) a c C t v =
    let h = held f u m e t in
    round_exact f s a c h.q h.j C h.short h.below
    (eq_of_mul-eq-mul_right (down e) (down_pos e) (a * 2 ^ low f) (h.q * 2 ^ h.j * c)
    (mul_right_comm a (2 ^ low f) (down e) ∙ ap (λ (z : ℕ). z * 2 ^ low f) (sym v.1) ∙ mul_right_comm (m * up e) c (2 ^ low f) ∙ ap (λ (z : ℕ). z * c) h.units ∙ mul_right_comm (h.q * 2 ^ h.j) (down e) c))

pub round-self : (f : Format) (s : Bool) (x : Float) (a c : ℕ) → 0 < c → T (fits f x) → HasValue x s a c → round f s a c ≡ x
round-self f s x a c C t v = value-unique f (round f s a c) x s a c C (round-fits f s a c) t (own-exact f s x a c C t v) v

-- ---- fractions by powers of two, and products with them
pub dyadic : (q s : ℕ) → q < 2 ^ 53 → s ≤ 1074 → HasValue (round binary64 false q (2 ^ s)) false q (2 ^ s)
dyadic q s h l =
    let i : 1074 - s + s ≡ 1074 = omega arith in
    let e : q * 2 ^ 1074 ≡ q * 2 ^ (1074 - s) * 2 ^ s = ap (λ (z : ℕ). q * 2 ^ z) (sym i) ∙ ap (λ (z : ℕ). q * z) (pow-add 2 (1074 - s) s) ∙ sym (mul_assoc q (2 ^ (1074 - s)) (2 ^ s)) in
    round_exact binary64 false q (2 ^ s) q (1074 - s) (pow_pos s) h (lt_of_le_of_lt (mul-le-mul (le_of_lt h) (pow_mono (less s))) (lit< tt)) e
  where
    less : (s : ℕ) → 1074 - s ≤ 1074
    less s = omega arith

-- x * 2 ^ k, where it does not overflow
pub power-exact : (f : Format) (m : ℕ) (e : ℤ) (k : ℕ) → T (fits f (fin false m e)) → m * up e * 2 ^ k < 2 ^ suc (emax f) * down e
    → HasValue (mul f (fin false m e) (fin false 1 (pos k))) false (m * up e * 2 ^ k) (down e)
unfolding mul
power-exact f m e k t h =
    let d = held f false m e t in
    let i : m * up e * (1 * 2 ^ k) ≡ m * up e * 2 ^ k = ap (λ (z : ℕ). m * up e * z) (one-mul (2 ^ k)) in
    let u : m * up e * 2 ^ k * 2 ^ low f ≡ d.q * 2 ^ (d.j + k) * down e = mul_right_comm (m * up e) (2 ^ k) (2 ^ low f) ∙ ap (λ (z : ℕ). z * 2 ^ k) d.units ∙ mul_right_comm (d.q * 2 ^ d.j) (down e) (2 ^ k) ∙ ap (λ (z : ℕ). z * down e) (mul_assoc d.q (2 ^ d.j) (2 ^ k) ∙ ap (λ (z : ℕ). d.q * z) (sym (pow-add 2 d.j k))) in
    let b : d.q * 2 ^ (d.j + k) < 2 ^ (low f + suc (emax f)) = lt_of_mul-lt-mul_right (down e) (lt_of_le_of_lt (le_of_eq (sym u)) (lt_of_lt_of_le (mul-lt-mul_of_pos_right h (pow_pos (low f))) (le_of_eq (mul_right_comm (2 ^ suc (emax f)) (down e) (2 ^ low f) ∙ ap (λ (z : ℕ). z * down e) (mul_comm (2 ^ suc (emax f)) (2 ^ low f) ∙ sym (pow-add 2 (low f) (suc (emax f)))))))) in
    subst (λ (x : Float). HasValue x false (m * up e * 2 ^ k) (down e)) (sym (ap₂ (λ (a c : ℕ). round f false a c) i (mul-one (down e))))
    (round_exact f false (m * up e * 2 ^ k) (down e) d.q (d.j + k) (down_pos e) d.short b u)
