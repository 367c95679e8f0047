-- Sterbenz: for y ≤ x ≤ 2 y the difference x - y is a value of the format, so nothing is rounded. Assumes nothing.
use mathlib.Core.Path.{◌≡◌, refl, sym, ap, ap₂, ◌∙◌, subst}
use Prim.Native.Nat.{ℕ, ◌+◌, ◌-◌, ◌*◌, ◌^◌, ◌≤◌, ◌<◌}
use native.Mathlib.Nat.{le_trans, le_of_eq, lt_of_le_of_lt, mul_comm, mul_assoc, mul_right_comm, mul-le-mul_right, le_of_mul-le-mul_right, mul-pos}
use native.Mathlib.Omega.{arith}
use mathlib.Core.Bool.{Bool, true, false, not}
use lib.IntN.{ℤ}
use lib.Dec.{T, leb, leb→le, nleb→lt}
use lib.Pow.{pow-add, pow_pos}
use lib.Ieee.{Float, nan, inf, fin, Format, prec, low, up, down, fits, round, sub, le}
use lib.Ieee.Fits.{down_pos}
use lib.Ieee.Exact.{HasValue, round_exact}
use lib.Ieee.Positive.{num, den}
use Rattle.doubles.proofs.Exact.{Held, held}
use Rattle.doubles.proofs.Rounding.{less-mul, sub_at}
use Rattle.doubles.proofs.Monotone.{unsigned, le-cross}

-- X - Y = r * 2 ^ j, where r has no more digits than the format keeps
record Rest (f : Format) (D : ℕ) : Type 0 where
  r : ℕ
  j : ℕ
  short : r < 2 ^ prec f
  is : r * 2 ^ j ≡ D

fewer : (i j : ℕ) → i - j ≤ i
fewer i j = omega arith

apart : (a j i : ℕ) → i ≤ j → a * 2 ^ j ≡ a * 2 ^ (j - i) * 2 ^ i
apart a j i h =
    let e : j - i + i ≡ j = omega arith in
    ap (λ (z : ℕ). a * 2 ^ z) (sym e) ∙ ap (λ (z : ℕ). a * z) (pow-add 2 (j - i) i) ∙ sym (mul_assoc a (2 ^ (j - i)) (2 ^ i))

rest : (f : Format) (p i q k : ℕ) → p < 2 ^ prec f → q < 2 ^ prec f → p * 2 ^ i ≤ 2 * (q * 2 ^ k) → Rest f (p * 2 ^ i - q * 2 ^ k)
rest f p i q k P Q h = go (leb i k) (leb→le i k) (nleb→lt i k)
  where
    go : (b : Bool) → (T b → i ≤ k) → (T (not b) → k < i) → Rest f (p * 2 ^ i - q * 2 ^ k)
    go true y n =
        record { r = p - q * 2 ^ (k - i); j = i; short = lt_of_le_of_lt (fewer p (q * 2 ^ (k - i))) P; is = less-mul p (q * 2 ^ (k - i)) (2 ^ i) ∙ ap (λ (z : ℕ). p * 2 ^ i - z) (sym (apart q k i (y tt))) }
    go false y n =
        let l : k ≤ i = below (n tt) in
        let e : (p * 2 ^ (i - k) - q) * 2 ^ k ≡ p * 2 ^ i - q * 2 ^ k = less-mul (p * 2 ^ (i - k)) q (2 ^ k) ∙ ap (λ (z : ℕ). z - q * 2 ^ k) (sym (apart p i k l)) in
        let s : p * 2 ^ (i - k) - q ≤ q = le_of_mul-le-mul_right (le_trans (le_of_eq e) (half (p * 2 ^ i) (q * 2 ^ k) h)) (pow_pos k) in
        record { r = p * 2 ^ (i - k) - q; j = k; short = lt_of_le_of_lt s Q; is = e }
      where
        below : k < i → k ≤ i
        below g = omega arith

        half : (X Y : ℕ) → X ≤ 2 * Y → X - Y ≤ Y
        half X Y h = omega arith

-- in units of the smallest value
module _ (f : Format) (m : ℕ) (e : ℤ) (n : ℕ) (d : ℤ) (h : Held f m e) (k : Held f n d) where
  units-less : (m * up e * down d - n * up d * down e) * 2 ^ low f ≡ (h.q * 2 ^ h.j - k.q * 2 ^ k.j) * (down e * down d)
  units-less =
      less-mul (m * up e * down d) (n * up d * down e) (2 ^ low f)
      ∙ ap₂ (λ (i j : ℕ). i - j)
      (mul_right_comm (m * up e) (down d) (2 ^ low f) ∙ ap (λ (z : ℕ). z * down d) h.units ∙ mul_assoc (h.q * 2 ^ h.j) (down e) (down d))
      (mul_right_comm (n * up d) (down e) (2 ^ low f) ∙ ap (λ (z : ℕ). z * down e) k.units ∙ mul_assoc (k.q * 2 ^ k.j) (down d) (down e) ∙ ap (λ (z : ℕ). k.q * 2 ^ k.j * z) (mul_comm (down d) (down e)))
      ∙ sym (less-mul (h.q * 2 ^ h.j) (k.q * 2 ^ k.j) (down e * down d))

  units-twice : m * up e * down d ≤ 2 * (n * up d * down e) → h.q * 2 ^ h.j ≤ 2 * (k.q * 2 ^ k.j)
  units-twice g =
      le_of_mul-le-mul_right
      (le_trans (le_of_eq (sym (mul_assoc (h.q * 2 ^ h.j) (down e) (down d)) ∙ ap (λ (z : ℕ). z * down d) (sym h.units) ∙ mul_right_comm (m * up e) (2 ^ low f) (down d)))
      (le_trans (mul-le-mul_right (2 ^ low f) g)
      (le_of_eq (mul_assoc 2 (n * up d * down e) (2 ^ low f) ∙ ap (λ (z : ℕ). 2 * z) (mul_right_comm (n * up d) (down e) (2 ^ low f) ∙ ap (λ (z : ℕ). z * down e) k.units ∙ mul_assoc (k.q * 2 ^ k.j) (down d) (down e) ∙ ap (λ (z : ℕ). k.q * 2 ^ k.j * z) (mul_comm (down d) (down e))) ∙ sym (mul_assoc 2 (k.q * 2 ^ k.j) (down e * down d))))))
      (mul-pos (down_pos e) (down_pos d))

exact : (f : Format) (m : ℕ) (e : ℤ) (n : ℕ) (d : ℤ) → T (fits f (fin false m e)) → T (fits f (fin false n d)) → m * up e * down d ≤ 2 * (n * up d * down e)
    → HasValue (round f false (m * up e * down d - n * up d * down e) (down e * down d)) false (m * up e * down d - n * up d * down e) (down e * down d)
exact f m e n d fx fy g =
    let h = held f false m e fx in
    let k = held f false n d fy in
    let r = rest f h.q h.j k.q k.j h.short k.short (units-twice f m e n d h k g) in
    round_exact f false (m * up e * down d - n * up d * down e) (down e * down d) r.r r.j (mul-pos (down_pos e) (down_pos d)) r.short
    (lt_of_le_of_lt (le_trans (le_of_eq r.is) (fewer (h.q * 2 ^ h.j) (k.q * 2 ^ k.j))) h.below)
    (units-less f m e n d h k ∙ ap (λ (z : ℕ). z * (down e * down d)) (sym r.is))

pub sterbenz : (f : Format) (x y : Float) → T (unsigned x) → T (unsigned y) → T (fits f x) → T (fits f y) → le y x ≡ true → num x * den y ≤ 2 * (num y * den x)
    → HasValue (sub f x y) false (num x * den y - num y * den x) (den x * den y)
sterbenz f nan y ux uy fx fy l g = absurd ux
sterbenz f (inf s) y ux uy fx fy l g = absurd ux
sterbenz f (fin true m e) y ux uy fx fy l g = absurd ux
sterbenz f (fin false m e) nan ux uy fx fy l g = absurd uy
sterbenz f (fin false m e) (inf t) ux uy fx fy l g = absurd uy
sterbenz f (fin false m e) (fin true n d) ux uy fx fy l g = absurd uy
sterbenz f (fin false m e) (fin false n d) ux uy fx fy l g =
    subst (λ (z : Float). HasValue z false (m * up e * down d - n * up d * down e) (down e * down d))
    (sym (sub_at f (fin false m e) (fin false n d) (m * up e) (down e) (n * up d) (down d) (down_pos e) (down_pos d) (refl, refl) (refl, refl) (le-cross (fin false n d) (fin false m e) tt tt l)))
    (exact f m e n d fx fy g)
