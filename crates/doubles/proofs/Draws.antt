-- Unit draws: K * 2 ^ -53 for a K below 2 ^ 53 is exact; n times it has a whole part below n, and what is left over it is exact and at most
-- 1 - 2 ^ -53. Assumes nothing.
use mathlib.Core.Path.{◌≡◌, refl, sym, ap, ◌∙◌, subst}
use Prim.Native.Nat.{ℕ, zero, suc, ◌+◌, ◌-◌, ◌*◌, ◌/◌, ◌%◌, ◌^◌, ◌≤◌, ◌<◌}
use native.Mathlib.Nat.{le_trans, le_of_eq, le_of_lt, lt_of_lt_of_le, lt_of_le_of_lt, mul-one, mul_comm, mul_assoc, mul_right_comm, mul-le-mul, mul-le-mul_right, mul-le-mul_left, mul-lt-mul_of_pos_right, le_of_mul-le-mul_right, lt_of_mul-lt-mul_right, div-lt_iff_lt-mul, mod-lt, mod-le, div-add-mod', add-mul, mul-mod_left, div-mul-le_self, mul-div_cancel, add-sub_cancel_left}
use native.Mathlib.Omega.{arith}
use mathlib.Core.Bool.{Bool, true, false, not}
use lib.IntN.{pos, negsuc}
use lib.Arith.{digits_mod}
use lib.Dec.{T, leb, leb→le, nleb→lt, lit<, lit≤}
use lib.Pow.{pow-add, pow_pos, pow_mono, shr_mono}
use lib.Ieee.{Float, nan, inf, fin, binary64, down, fits, round, mul, sub, le, of_bits}
use lib.Ieee.Fits.{down_pos, mul-fits}
use lib.Ieee.Exact.{HasValue, round_exact}
use lib.Ieee.Order.{drop}
use lib.Ieee.Scale.{grid, round_val}
use lib.Ieee.Positive.{num, den, value→cross}
use Rattle.doubles.specs.Numbers.{zero64}
use Rattle.doubles.specs.Count.{count_of}
use Rattle.doubles.specs.Whole.{whole_of}
use Rattle.doubles.proofs.Exact.{held, dyadic}
use Rattle.doubles.proofs.Fractions.{values-le}
use Rattle.doubles.proofs.Rounding.{mul_at, sub_at}
use Rattle.doubles.proofs.Monotone.{unsigned, value-unsigned}
use Rattle.doubles.proofs.Wholes.{count-value, whole_is}
use Rattle.doubles.proofs.Error.{round-error, dropped-below}

-- ---- the draw
-- 1 - 2 ^ -53, the greatest
abbrev pub last64 : Float
last64 = of_bits binary64 0x3fef_ffff_ffff_ffff

last-value : HasValue last64 false (2 ^ 53 - 1) (2 ^ 53)
unfolding of_bits
last-value = (refl, refl)

pub draw-exact : (K : ℕ) → K < 2 ^ 53 → HasValue (mul binary64 (count_of K) (of_bits binary64 0x3ca0_0000_0000_0000)) false K (2 ^ 53)
unfolding of_bits
draw-exact K h =
    subst (λ (x : Float). HasValue x false K (2 ^ 53)) (sym (mul_at binary64 (count_of K) (fin false 1 (negsuc 52)) K 1 1 (2 ^ 53) (lit< tt) (lit< tt) (count-value K (le_of_lt h)) (refl, refl) ∙ ap (λ (z : ℕ). round binary64 false z (2 ^ 53)) (mul-one K)))
    (dyadic K 53 h (lit≤ tt))

pub draw-at-most : (K : ℕ) (r : Float) → K < 2 ^ 53 → HasValue r false K (2 ^ 53) → le r last64 ≡ true
draw-at-most K r h v = values-le r last64 K (2 ^ 53) (2 ^ 53 - 1) (2 ^ 53) (lit< tt) (lit< tt) v last-value (omega arith)

-- ---- n times a draw is below n: the product falls short of n by n * 2 ^ -53, more than half a unit of its last digit
-- U is 2 ^ 1021, G the rounded product in units of 2 ^ -1074, D a unit of its last digit
short : (n K G D U : ℕ) → K < 2 ^ 53 → D < 2 * (n * U) → 2 * (G * 2 ^ 53) ≤ 2 * (n * K * (2 ^ 53 * U)) + 2 ^ 53 * D → G < n * (2 ^ 53 * U)
short n K G D U h d e =
    let a : n * K + n ≤ n * 2 ^ 53 = le_trans (le_of_eq (one n K)) (mul-le-mul_left n h) in
    let b : (n * K + n) * U ≤ n * 2 ^ 53 * U = mul-le-mul_right U a in
    omega arith
  where
    one : (n K : ℕ) → n * K + n ≡ n * suc K
    one n K = omega arith

module _ (n K : ℕ) (N : 1 ≤ n) (k : K < 2 ^ 53) where
  below : n * K < n * 2 ^ 53
  below = let p : 0 < n = N in lt_of_lt_of_le (short-by n K p) (mul-le-mul_left n k)
    where
      short-by : (n K : ℕ) → 0 < n → n * K < n * suc K
      short-by n K p = omega arith

  last-digit : 2 ^ drop 53 (n * K * 2 ^ 1074) (2 ^ 53) < 2 * (n * 2 ^ 1021)
  last-digit = go (drop 53 (n * K * 2 ^ 1074) (2 ^ 53)) refl
    where
      small : (n U : ℕ) → 1 ≤ n → 0 < U → 1 < 2 * (n * U)
      small n U a b = let c : 1 * U ≤ n * U = mul-le-mul_right U a in omega arith

      go : (d : ℕ) → drop 53 (n * K * 2 ^ 1074) (2 ^ 53) ≡ d → 2 ^ d < 2 * (n * 2 ^ 1021)
      go zero e = small n (2 ^ 1021) N (pow_pos 1021)
      go (suc d) e =
          let b : 2 ^ (52 + suc d) * 2 ^ 53 ≤ n * K * 2 ^ 1074 = subst (λ (z : ℕ). 2 ^ (52 + z) * 2 ^ 53 ≤ n * K * 2 ^ 1074) e (dropped-below binary64 (n * K) (2 ^ 53) (pow_pos 53) (subst (λ (z : ℕ). 0 < z) (sym e) (some d))) in
          let c : 2 ^ (52 + suc d) * 2 ^ 53 < n * 2 ^ 53 * 2 ^ 1074 = lt_of_le_of_lt b (mul-lt-mul_of_pos_right below (pow_pos 1074)) in
          lt_of_mul-lt-mul_right (2 ^ 105) (lt_of_le_of_lt (le_of_eq (sym (mul_assoc (2 ^ suc d) (2 ^ 52) (2 ^ 53)) ∙ ap (λ (z : ℕ). z * 2 ^ 53) (mul_comm (2 ^ suc d) (2 ^ 52) ∙ sym (pow-add 2 52 (suc d))))) (lt_of_lt_of_le c (le_of_eq (ends n))))
        where
          some : (d : ℕ) → 0 < suc d
          some d = omega arith

          ends : (n : ℕ) → n * 2 ^ 53 * 2 ^ 1074 ≡ 2 * (n * 2 ^ 1021) * 2 ^ 105
          ends n = mul_assoc n (2 ^ 53) (2 ^ 1074) ∙ sym (mul_assoc 2 (n * 2 ^ 1021) (2 ^ 105) ∙ ap (λ (z : ℕ). 2 * z) (mul_assoc n (2 ^ 1021) (2 ^ 105)) ∙ mul_comm 2 (n * 2 ^ 1126) ∙ mul_assoc n (2 ^ 1126) 2)

  product-below : grid binary64 (n * K) (2 ^ 53) < n * 2 ^ 1074
  product-below = short n K (grid binary64 (n * K) (2 ^ 53)) (2 ^ drop 53 (n * K * 2 ^ 1074) (2 ^ 53)) (2 ^ 1021) k last-digit (round-error binary64 (n * K) (2 ^ 53) (pow_pos 53)).high

-- the product as a number of units of 2 ^ -1074
pub draw-product : (n K : ℕ) (r : Float) → 1 ≤ n → n ≤ 2 ^ 53 → K < 2 ^ 53 → HasValue r false K (2 ^ 53)
    → (g : ℕ) × HasValue (mul binary64 (count_of n) r) false g (2 ^ 1074) × (g < n * 2 ^ 1074)
draw-product n K r N M k v =
    let b = product-below n K N k in (
      grid binary64 (n * K) (2 ^ 53),
      subst (λ (x : Float). HasValue x false (grid binary64 (n * K) (2 ^ 53)) (2 ^ 1074)) (sym (mul_at binary64 (count_of n) r n 1 K (2 ^ 53) (lit< tt) (lit< tt) (count-value n M) v))
          (round_val binary64 (n * K) (2 ^ 53) (lt_of_lt_of_le b (le_trans (mul-le-mul_right (2 ^ 1074) M) (lit≤ tt)))),
      b,
    )

pub draw-index : (n K : ℕ) (r : Float) → 1 ≤ n → n ≤ 2 ^ 53 → K < 2 ^ 53 → HasValue r false K (2 ^ 53) → whole_of (mul binary64 (count_of n) r) < n
draw-index n K r N M k v =
    let p = draw-product n K r N M k v in
    let l : p.0 / 2 ^ 1074 < n = (div-lt_iff_lt-mul (pow_pos 1074)).1 p.2 in
    lt_of_le_of_lt (le_of_eq (whole_is (mul binary64 (count_of n) r) p.0 (2 ^ 1074) (pow_pos 1074) p.1 (lt_of_lt_of_le l (le_trans M (lit≤ tt))))) l

-- ---- what a double has over its whole part
record Fraction (X : ℕ) : Type 0 where
  r : ℕ
  s : ℕ
  few : r < 2 ^ 53
  left : r * 2 ^ s ≡ X % 2 ^ 1074

fraction : (q j : ℕ) → q < 2 ^ 53 → Fraction (q * 2 ^ j)
fraction q j h = go (leb 1074 j) (leb→le 1074 j) (nleb→lt 1074 j)
  where
    go : (b : Bool) → (T b → 1074 ≤ j) → (T (not b) → j < 1074) → Fraction (q * 2 ^ j)
    go true y n =
        let l = y tt in
        let i : j - 1074 + 1074 ≡ j = omega arith in
        record { r = 0; s = 0; few = pow_pos 53; left = sym (ap (λ (z : ℕ). q * 2 ^ z % 2 ^ 1074) (sym i) ∙ ap (λ (z : ℕ). q * z % 2 ^ 1074) (pow-add 2 (j - 1074) 1074) ∙ ap (λ (z : ℕ). z % 2 ^ 1074) (sym (mul_assoc q (2 ^ (j - 1074)) (2 ^ 1074))) ∙ mul-mod_left (q * 2 ^ (j - 1074)) (2 ^ 1074)) }
    go false y n =
        let l = n tt in
        let i : 1074 - j + j ≡ 1074 = omega arith in
        let w = 2 ^ (1074 - j) in
        let e : w * 2 ^ j ≡ 2 ^ 1074 = sym (pow-add 2 (1074 - j) j) ∙ ap (λ (z : ℕ). 2 ^ z) i in
        let m : q * 2 ^ j ≡ q / w * (w * 2 ^ j) + q % w * 2 ^ j = ap (λ (z : ℕ). z * 2 ^ j) (sym (div-add-mod' q w)) ∙ add-mul (q / w * w) (q % w) (2 ^ j) ∙ ap (λ (z : ℕ). z + q % w * 2 ^ j) (mul_assoc (q / w) w (2 ^ j)) in
        record {
          r = q % w;
          s = j;
          few = lt_of_le_of_lt (mod-le q w) h;
          left = sym (ap (λ (z : ℕ). q * 2 ^ j % z) (sym e) ∙ ap (λ (z : ℕ). z % (w * 2 ^ j)) m ∙ digits_mod (q / w) (mul-lt-mul_of_pos_right (mod-lt q (pow_pos (1074 - j))) (pow_pos j)));
        }

-- a double below 1 is at most 1 - 2 ^ -53
gap : (r s : ℕ) → r < 2 ^ 53 → r * 2 ^ s < 2 ^ 1074 → r * 2 ^ s ≤ (2 ^ 53 - 1) * 2 ^ 1021
gap r s h l = go (leb s 1021) (leb→le s 1021) (nleb→lt s 1021)
  where
    most : (r : ℕ) → r < 2 ^ 53 → r ≤ 2 ^ 53 - 1
    most r h = omega arith

    go : (b : Bool) → (T b → s ≤ 1021) → (T (not b) → 1021 < s) → r * 2 ^ s ≤ (2 ^ 53 - 1) * 2 ^ 1021
    go true y n = mul-le-mul (most r h) (pow_mono (y tt))
    go false y n =
        let g = n tt in
        let i : s - 1021 + 1021 ≡ s = omega arith in
        let e : r * 2 ^ s ≡ r * 2 ^ (s - 1021) * 2 ^ 1021 = ap (λ (z : ℕ). r * 2 ^ z) (sym i) ∙ ap (λ (z : ℕ). r * z) (pow-add 2 (s - 1021) 1021) ∙ sym (mul_assoc r (2 ^ (s - 1021)) (2 ^ 1021)) in
        le_trans (le_of_eq e) (mul-le-mul_right (2 ^ 1021) (most (r * 2 ^ (s - 1021)) (lt_of_mul-lt-mul_right (2 ^ 1021) (lt_of_le_of_lt (le_of_eq (sym e)) l))))

-- x = i + t / 2 ^ 1074 for the whole part i, and x - i is exactly what is left
pub record Offset (x : Float) (i : ℕ) : Type 0 where
  pub t : ℕ
  pub whole : HasValue x false (i * 2 ^ 1074 + t) (2 ^ 1074)
  pub exact : HasValue (sub binary64 x (count_of i)) false t (2 ^ 1074)
  pub small : t ≤ (2 ^ 53 - 1) * 2 ^ 1021

offset_at : (x : Float) (q j : ℕ) → q < 2 ^ 53 → q * 2 ^ j / 2 ^ 1074 ≤ 2 ^ 53 → HasValue x false (q * 2 ^ j) (2 ^ 1074) → Offset x (q * 2 ^ j / 2 ^ 1074)
offset_at x q j h l v =
    let X = q * 2 ^ j in
    let i = X / 2 ^ 1074 in
    let t = X % 2 ^ 1074 in
    let k = fraction q j h in
    let e : i * 2 ^ 1074 + t ≡ X = div-add-mod' X (2 ^ 1074) in
    let d : X * 1 - i * 2 ^ 1074 ≡ t = ap (λ (z : ℕ). z - i * 2 ^ 1074) (mul-one X ∙ sym e) ∙ add-sub_cancel_left (i * 2 ^ 1074) t in
    let g : t ≤ (2 ^ 53 - 1) * 2 ^ 1021 = subst (λ (z : ℕ). z ≤ (2 ^ 53 - 1) * 2 ^ 1021) k.left (gap k.r k.s k.few (lt_of_le_of_lt (le_of_eq k.left) (mod-lt X (pow_pos 1074)))) in
    record {
      t = t;
      whole = subst (λ (z : ℕ). HasValue x false z (2 ^ 1074)) (sym e) v;
      exact = subst (λ (y : Float). HasValue y false t (2 ^ 1074))
          (sym (sub_at binary64 x (count_of i) X (2 ^ 1074) i 1 (pow_pos 1074) (lit< tt) v (count-value i l) (le_trans (div-mul-le_self X (2 ^ 1074)) (le_of_eq (sym (mul-one X)))) ∙ ap (λ (z : ℕ). round binary64 false z (2 ^ 1074)) d))
          (round_exact binary64 false t (2 ^ 1074) k.r k.s (pow_pos 1074) k.few (lt_of_le_of_lt (le_trans (le_of_eq k.left) g) (lit< tt)) (ap (λ (z : ℕ). z * 2 ^ 1074) (sym k.left)));
      small = g;
    }

pub offset-exact : (x : Float) → T (fits binary64 x) → T (unsigned x) → num x ≤ 2 ^ 53 * den x → Offset x (whole_of x)
offset-exact nan f u w = absurd u
offset-exact (inf s) f u w = absurd u
offset-exact (fin true m e) f u w = absurd u
offset-exact (fin false m e) f u w =
    let h = held binary64 false m e f in
    let X = h.q * 2 ^ h.j in
    let b : X ≤ 2 ^ 53 * 2 ^ 1074 = le_of_mul-le-mul_right (le_trans (le_of_eq (sym h.units)) (le_trans (mul-le-mul_right (2 ^ 1074) w) (le_of_eq (mul_right_comm (2 ^ 53) (down e) (2 ^ 1074))))) (down_pos e) in
    let l : X / 2 ^ 1074 ≤ 2 ^ 53 = le_trans (shr_mono 1074 b) (le_of_eq (mul-div_cancel (2 ^ 53) (pow_pos 1074))) in
    let i : whole_of (fin false m e) ≡ X / 2 ^ 1074 = whole_is (fin false m e) X (2 ^ 1074) (pow_pos 1074) (refl, h.units) (lt_of_le_of_lt l (lit< tt)) in
    subst (λ (z : ℕ). Offset (fin false m e) z) (sym i) (offset_at (fin false m e) h.q h.j h.short l (refl, h.units))

pub offset-at-most : (x : Float) (i : ℕ) → Offset x i → le (sub binary64 x (count_of i)) last64 ≡ true
offset-at-most x i o =
    values-le (sub binary64 x (count_of i)) last64 o.t (2 ^ 1074) (2 ^ 53 - 1) (2 ^ 53) (pow_pos 1074) (lit< tt) o.exact last-value
    (le_trans (mul-le-mul_right (2 ^ 53) o.small) (lit≤ tt))

pub offset-from-zero : (x : Float) (i : ℕ) → Offset x i → le zero64 (sub binary64 x (count_of i)) ≡ true
unfolding of_bits
offset-from-zero x i o = values-le (fin false 0 (pos 0)) (sub binary64 x (count_of i)) 0 1 o.t (2 ^ 1074) (lit< tt) (pow_pos 1074) (refl, refl) o.exact (none (2 ^ 1074) o.t)
  where
    none : (l t : ℕ) → 0 * l ≤ t * 1
    none l t = omega arith

-- of n times a draw
pub draw-offset : (n K : ℕ) (r : Float) → 1 ≤ n → n ≤ 2 ^ 53 → K < 2 ^ 53 → HasValue r false K (2 ^ 53) → Offset (mul binary64 (count_of n) r) (whole_of (mul binary64 (count_of n) r))
draw-offset n K r N M k v =
    let x = mul binary64 (count_of n) r in
    let p = draw-product n K r N M k v in
    let b : num x * 2 ^ 1074 ≤ 2 ^ 53 * den x * 2 ^ 1074 = le_trans (le_of_eq (value→cross x p.0 (2 ^ 1074) p.1)) (le_trans (mul-le-mul_right (den x) (le_trans (le_of_lt p.2) (mul-le-mul_right (2 ^ 1074) M))) (le_of_eq (mul_right_comm (2 ^ 53) (2 ^ 1074) (den x)))) in
    offset-exact x (mul-fits binary64 (count_of n) r) (value-unsigned x p.0 (2 ^ 1074) p.1) (le_of_mul-le-mul_right b (pow_pos 1074))
