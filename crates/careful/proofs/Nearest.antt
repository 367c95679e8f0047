-- `root_of` is the double nearest to the root: the middle between it and any other double lies strictly on the other's side of the root, so
-- that no tie can be. Assumes nothing.
use mathlib.Core.Path.{◌≡◌, refl, sym, ap, ap₂, ◌∙◌, subst}
use Prim.Native.Nat.{ℕ, zero, suc, ◌+◌, ◌-◌, ◌*◌, ◌/◌, ◌%◌, ◌^◌, ◌≤◌, ◌<◌}
use native.Mathlib.Nat.{le_trans, le_of_eq, le_of_lt, lt_of_lt_of_le, lt_of_le_of_lt, lt_of_not-le, not-le_of_lt, mul_assoc, mul_right_comm, mul-le-mul, mul-le-mul_right, mul-le-mul_left, mul-pos, lt_of_mul-lt-mul_right, mul-lt-mul_of_pos_right, pow-succ', add-mul}
use native.Mathlib.Omega.{arith}
use mathlib.Core.Bool.{Bool, true, false, not}
use lib.IntN.{ℤ}
use lib.Dec.{T, leb, leb→le, nleb→lt}
use lib.Pow.{pow-add, pow_pos, pow_mono}
use lib.Ieee.{Float, fin, binary64, up, down, fits, lt}
use lib.Ieee.Fits.{down_pos}
use lib.Ieee.Exact.{HasValue}
use lib.Ieee.Positive.{positive, num, den, den_pos, value→cross}
use Rattle.careful.specs.Root.{squares, root_of, MiddleBelow, MiddleAbove}
use Rattle.careful.specs.Digits.{NearRoot}
use Rattle.doubles.proofs.Exact.{held}
use Rattle.doubles.proofs.Fractions.{lt-values}
use Rattle.doubles.proofs.Bits.{split-of}
use Rattle.careful.proofs.Roots.{radicand, squares-is, squares-digits, long, root-value}
use Rattle.careful.proofs.Judge.{near_of, near-root}

-- ---- on whole numbers: U = q * P is the root that was chosen, Y another double, and P is the distance of doubles at U
square-mono : (a b : ℕ) → a ≤ b → a * a ≤ b * b
square-mono a b h = mul-le-mul h h

square-strict : (a b : ℕ) → a < b → a * a < b * b
square-strict a b h = let i = square-mono (a + 1) b (omega arith) in omega arith

module _ (P A q Y : ℕ) (d : 0 < P) (n : NearRoot A q) where
  room : 0 < P * P
  room = mul-pos d d

  -- where U is not above the root, anything below U will do
  below-low : q * q ≤ A → Y < q * P → (q * P + Y) * (q * P + Y) < 4 * (A * (P * P))
  below-low l v =
      let i = square-strict (q * P + Y) (2 * (q * P)) (omega arith) in
      let j : q * q * (P * P) ≤ A * (P * P) = mul-le-mul_right (P * P) l in
      omega arith

  above-next : (q + 1) * P ≤ Y → 4 * (A * (P * P)) < (q * P + Y) * (q * P + Y)
  above-next v =
      let i = square-mono ((2 * q + 1) * P) (q * P + Y) (omega arith) in
      let j : A * (P * P) ≤ (q * q + q) * (P * P) = mul-le-mul_right (P * P) n.high in
      let r = room in
      omega arith

below_last : (P A p Y : ℕ) → 0 < P → NearRoot A (suc p) → Y ≤ p * P → (suc p * P + Y) * (suc p * P + Y) < 4 * (A * (P * P))
below_last P A p Y d n v =
    let i = square-mono (suc p * P + Y) ((2 * p + 1) * P) (omega arith) in
    let l : p * p + p + 1 ≤ A = let k = n.low in omega arith in
    let j : (p * p + p + 1) * (P * P) ≤ A * (P * P) = mul-le-mul_right (P * P) l in
    let r : 0 < P * P = mul-pos d d in
    omega arith

-- ---- Y = c * 2 ^ j with c below 2 ^ 53: from 2 ^ 52 * 2 ^ g on it is a multiple of 2 ^ g
multiple : (c j g : ℕ) → c < 2 ^ 53 → 2 ^ 52 * 2 ^ g ≤ c * 2 ^ j → (r : ℕ) × (c * 2 ^ j ≡ r * 2 ^ g)
multiple c j g h l =
    let G : g ≤ j = within g j (λ (b : j < g). not-le_of_lt (lt_of_lt_of_le (mul-lt-mul_of_pos_right h (pow_pos j)) (le_trans (le_of_eq (mul_assoc (2 ^ 52) 2 (2 ^ j) ∙ ap (λ (z : ℕ). 2 ^ 52 * z) (sym (pow-succ' 2 j)))) (mul-le-mul_left (2 ^ 52) (pow_mono b)))) l) in
    let i : j - g + g ≡ j = omega arith in
    (c * 2 ^ (j - g), ap (λ (z : ℕ). c * 2 ^ z) (sym i) ∙ ap (λ (z : ℕ). c * z) (pow-add 2 (j - g) g) ∙ sym (mul_assoc c (2 ^ (j - g)) (2 ^ g)))
  where
    within : (a b : ℕ) → (b < a → ⊥) → a ≤ b
    within a b f = let m : a < suc b = lt_of_not-le f in omega arith

module _ (c j g ρ : ℕ) (h : c < 2 ^ 53) (l : 2 ^ 52 ≤ ρ) where
  gap-above : ρ * 2 ^ g < c * 2 ^ j → (ρ + 1) * 2 ^ g ≤ c * 2 ^ j
  gap-above v =
      let m = multiple c j g h (le_trans (mul-le-mul_right (2 ^ g) l) (le_of_lt v)) in
      let b : ρ < m.0 = lt_of_mul-lt-mul_right (2 ^ g) (lt_of_lt_of_le v (le_of_eq m.1)) in
      le_trans (mul-le-mul_right (2 ^ g) (next ρ m.0 b)) (le_of_eq (sym m.1))
    where
      next : (a b : ℕ) → a < b → a + 1 ≤ b
      next a b h = omega arith

  gap_below : c * 2 ^ j < (ρ + 1) * 2 ^ g → c * 2 ^ j ≤ ρ * 2 ^ g
  gap_below v = not-above (c * 2 ^ j) (ρ * 2 ^ g) (λ u. not-le_of_lt v (gap-above u))
    where
      not-above : (a b : ℕ) → (b < a → ⊥) → a ≤ b
      not-above a b n = let m : a < suc b = lt_of_not-le n in omega arith

module _ (c j g q A : ℕ) (h : c < 2 ^ 53) (l : 2 ^ 52 ≤ q) (t : 2 ^ 104 ≤ A) (n : NearRoot A q) where
  units-above : q * 2 ^ g < c * 2 ^ j → 4 * (A * (2 ^ g * 2 ^ g)) < (q * 2 ^ g + c * 2 ^ j) * (q * 2 ^ g + c * 2 ^ j)
  units-above v = above-next (2 ^ g) A q (c * 2 ^ j) (pow_pos g) n (gap-above c j g q h l v)

  units-below : c * 2 ^ j < q * 2 ^ g → (q * 2 ^ g + c * 2 ^ j) * (q * 2 ^ g + c * 2 ^ j) < 4 * (A * (2 ^ g * 2 ^ g))
  units-below v = go (leb (q * q) A) (leb→le (q * q) A) (nleb→lt (q * q) A)
    where
      -- above the root, q is no power of two, and the doubles below it are as far apart as those above
      last : (q : ℕ) → 2 ^ 52 ≤ q → NearRoot A q → A < q * q → c * 2 ^ j < q * 2 ^ g → (q * 2 ^ g + c * 2 ^ j) * (q * 2 ^ g + c * 2 ^ j) < 4 * (A * (2 ^ g * 2 ^ g))
      last zero l n u v = absurd (omega arith)
      last (suc p) l n u v =
          let k : 2 ^ 52 ≤ p = lt-le (λ (b : suc p ≤ 2 ^ 52). not-le_of_lt u (le_trans (square-mono (suc p) (2 ^ 52) b) t)) in
          let i : suc p ≡ p + 1 = omega arith in
          below_last (2 ^ g) A p (c * 2 ^ j) (pow_pos g) n (gap_below c j g p h k (subst (λ (z : ℕ). c * 2 ^ j < z * 2 ^ g) i v))
        where
          lt-le : (suc p ≤ 2 ^ 52 → ⊥) → 2 ^ 52 ≤ p
          lt-le f = let m : 2 ^ 52 < suc p = lt_of_not-le f in omega arith

      go : (b : Bool) → (T b → q * q ≤ A) → (T (not b) → A < q * q) → (q * 2 ^ g + c * 2 ^ j) * (q * 2 ^ g + c * 2 ^ j) < 4 * (A * (2 ^ g * 2 ^ g))
      go true y f = below-low (2 ^ g) A q (c * 2 ^ j) (pow_pos g) n (y tt) v
      go false y f = last q l n (f tt) v

-- ---- fractions: r = U / L and y = Y / L as fractions, and x = W / (L * L)
record Same (nr dr ny dy nx dx U Y W L : ℕ) : Type 0 where
  unit : 0 < L
  root : nr * L ≡ U * dr
  other : ny * L ≡ Y * dy
  square : nx * (L * L) ≡ W * dx
  dr-pos : 0 < dr
  dy-pos : 0 < dy
  dx-pos : 0 < dx

module _ (nr dr ny dy nx dx U Y W L : ℕ) (s : Same nr dr ny dy nx dx U Y W L) where
  twice : (nr * dy + ny * dr) * L ≡ (U + Y) * (dr * dy)
  twice =
      add-mul (nr * dy) (ny * dr) L
      ∙ ap₂ (λ (p q : ℕ). p + q) (mul_right_comm nr dy L ∙ ap (λ (z : ℕ). z * dy) s.root ∙ mul_assoc U dr dy) (mul_right_comm ny dr L ∙ ap (λ (z : ℕ). z * dr) s.other ∙ mul_right_comm Y dy dr ∙ mul_assoc Y dr dy)
      ∙ sym (add-mul U Y (dr * dy))

  left : (nr * dy + ny * dr) * (nr * dy + ny * dr) * dx * (L * L) ≡ (U + Y) * (U + Y) * (dx * (dr * dy * (dr * dy)))
  left = in-square (nr * dy + ny * dr) L dx ∙ ap (λ (z : ℕ). z * z * dx) twice ∙ out-square (U + Y) (dr * dy) dx
    where
      in-square : (a l d : ℕ) → a * a * d * (l * l) ≡ a * l * (a * l) * d
      in-square a l d = omega arith

      out-square : (s e d : ℕ) → s * e * (s * e) * d ≡ s * s * (d * (e * e))
      out-square s e d = omega arith

  right : 4 * nx * (dr * dy * (dr * dy)) * (L * L) ≡ 4 * W * (dx * (dr * dy * (dr * dy)))
  right = inside nx (dr * dy * (dr * dy)) (L * L) ∙ ap (λ (z : ℕ). 4 * z * (dr * dy * (dr * dy))) s.square ∙ outside W dx (dr * dy * (dr * dy))
    where
      inside : (n e l : ℕ) → 4 * n * e * l ≡ 4 * (n * l) * e
      inside n e l = omega arith

      outside : (w d e : ℕ) → 4 * (w * d) * e ≡ 4 * w * (d * e)
      outside w d e = omega arith

  common : 0 < dx * (dr * dy * (dr * dy))
  common = mul-pos s.dx-pos (mul-pos (mul-pos s.dr-pos s.dy-pos) (mul-pos s.dr-pos s.dy-pos))

  below : (U + Y) * (U + Y) < 4 * W → (nr * dy + ny * dr) * (nr * dy + ny * dr) * dx < 4 * nx * (dr * dy * (dr * dy))
  below h = lt_of_mul-lt-mul_right (L * L) (lt_of_le_of_lt (le_of_eq left) (lt_of_lt_of_le (mul-lt-mul_of_pos_right h common) (le_of_eq (sym right))))

  above : 4 * W < (U + Y) * (U + Y) → 4 * nx * (dr * dy * (dr * dy)) < (nr * dy + ny * dr) * (nr * dy + ny * dr) * dx
  above h = lt_of_mul-lt-mul_right (L * L) (lt_of_le_of_lt (le_of_eq right) (lt_of_lt_of_le (mul-lt-mul_of_pos_right h common) (le_of_eq (sym left))))

-- x in units of 2 ^ -2148
squares-cross : (x : Float) (a : ℕ) → HasValue x false a (2 ^ 1126) → num x * 2 ^ 2148 ≡ squares x * den x
squares-cross x a v =
    sym (mul_assoc (num x) (2 ^ 1126) (2 ^ 1022)) ∙ ap (λ (z : ℕ). z * 2 ^ 1022) (value→cross x a (2 ^ 1126) v) ∙ mul_right_comm a (den x) (2 ^ 1022) ∙ ap (λ (z : ℕ). z * den x) (sym (squares-is x a v))

-- ---- no double is closer: of a double y that is not negative, the middle between y and the answer lies beyond the root
pub record Closest (x y : Float) : Type 0 where
  pub from-below : lt y (root_of x) ≡ true → MiddleBelow (root_of x) y x
  pub from-above : lt (root_of x) y ≡ true → MiddleAbove (root_of x) y x

pub root-nearest : (x : Float) (n : ℕ) (e : ℤ) → T (fits binary64 x) → T (positive x) → T (fits binary64 (fin false n e)) → Closest x (fin false n e)
root-nearest x n e fx px fy =
    let sp = split-of x fx px in
    let m = sp.0 in
    let k = sp.1 in
    let g = k / 2 + 485 in
    let d = m * (1 + k % 2) in
    let r = radicand m (k % 2) sp.2.long sp.2.short (omega arith) in
    let q = near_of d in
    let nr = near-root d r in
    let h = held binary64 false n e fy in
    let v = root-value x m k q px sp.2 nr.near nr.short in
    let w : HasValue (fin false n e) false (h.q * 2 ^ h.j) (2 ^ 1074) = (refl, h.units) in
    let W : squares x ≡ d * 2 ^ 52 * (2 ^ g * 2 ^ g) = squares-digits x m k q px sp.2 nr.near nr.short in
    let t : 2 ^ 104 ≤ d * 2 ^ 52 = tall d r.long in
    let l = long x m k q px sp.2 nr.near nr.short in
    let s : Same (num (root_of x)) (den (root_of x)) (n * up e) (down e) (num x) (den x) (q * 2 ^ g) (h.q * 2 ^ h.j) (d * 2 ^ 52 * (2 ^ g * 2 ^ g)) (2 ^ 1074) = record {
      unit = pow_pos 1074;
      root = value→cross (root_of x) (q * 2 ^ g) (2 ^ 1074) v;
      other = h.units;
      square = squares-cross x (m * 2 ^ k) sp.2.value ∙ ap (λ (z : ℕ). z * den x) W;
      dr-pos = den_pos (root_of x);
      dy-pos = down_pos e;
      dx-pos = den_pos x;
    } in
    record {
      from-below = λ b. below (num (root_of x)) (den (root_of x)) (n * up e) (down e) (num x) (den x) (q * 2 ^ g) (h.q * 2 ^ h.j) (d * 2 ^ 52 * (2 ^ g * 2 ^ g)) (2 ^ 1074) s
          (units-below h.q h.j g q (d * 2 ^ 52) h.short l t nr.near (lt_of_mul-lt-mul_right (2 ^ 1074) (lt-values (fin false n e) (root_of x) (h.q * 2 ^ h.j) (2 ^ 1074) (q * 2 ^ g) (2 ^ 1074) (pow_pos 1074) (pow_pos 1074) w v b)));
      from-above = λ b. above (num (root_of x)) (den (root_of x)) (n * up e) (down e) (num x) (den x) (q * 2 ^ g) (h.q * 2 ^ h.j) (d * 2 ^ 52 * (2 ^ g * 2 ^ g)) (2 ^ 1074) s
          (units-above h.q h.j g q (d * 2 ^ 52) h.short l t nr.near (lt_of_mul-lt-mul_right (2 ^ 1074) (lt-values (root_of x) (fin false n e) (q * 2 ^ g) (2 ^ 1074) (h.q * 2 ^ h.j) (2 ^ 1074) (pow_pos 1074) (pow_pos 1074) v w b)));
    }
  where
    tall : (d : ℕ) → 2 ^ 52 ≤ d → 2 ^ 104 ≤ d * 2 ^ 52
    tall d h = omega arith
