-- A rounded fraction against bounds that are values of the format, and the four operations on values that are not negative, each as one
-- rounding of the true result. The values may be given by any fractions. Assumes nothing.
use mathlib.Core.Path.{◌≡◌, refl, sym, ap, ap₂, ◌∙◌, subst}
use mathlib.Core.Logic.{◌⊎◌, inl, inr}
use Prim.Native.Nat.{ℕ, suc, ◌+◌, ◌-◌, ◌*◌, ◌/◌, ◌^◌, ◌≤◌, ◌<◌}
use native.Mathlib.Nat.{mul_comm, mul-mul-mul_comm, mul-pos, not-le_of_lt, add-mul, mul-sub}
use native.Mathlib.Omega.{arith}
use mathlib.Core.Bool.{Bool, true, false, cond, true≢false, false≢true}
use lib.IntN.{ℤ}
use lib.Dec.{T, ltb, eqb, ltb→lt}
use lib.Ieee.{Float, nan, inf, fin, Format, prec, emax, low, up, down, size, odd, units, fits, round, sum, add, sub, mul, div, le}
use lib.Ieee.Fits.{up_pos, down_pos, round_is}
use lib.Ieee.Exact.{HasValue, odd_sign}
use lib.Ieee.Nearest.{closest}
use lib.Ieee.Order.{transfer, round_mono}
use lib.Ieee.Positive.{first_pos}
use lib.Ieee.Scale.{round_same}
use borrow.Author.Tests.{ne_eqb}
use Rattle.doubles.proofs.Truth.{is}
use Rattle.doubles.proofs.Exact.{round-self}
use Rattle.doubles.proofs.Fractions.{le-values}

-- ---- a rounded fraction
-- it is infinity, or not negative and finite
pub round-kind : (f : Format) (a b : ℕ) → (round f false a b ≡ inf false) ⊎ ((g : ℕ) × HasValue (round f false a b) false g (2 ^ low f))
unfolding units
round-kind f a b =
    let k = size (a * 2 ^ low f / b) - prec f in
    let q = closest (a * 2 ^ low f) (b * 2 ^ k) in
    subst (λ (z : Float). (z ≡ inf false) ⊎ ((g : ℕ) × HasValue z false g (2 ^ low f))) (sym (round_is f false a b)) (go q k (ltb (q * 2 ^ k) (2 ^ (low f + suc (emax f)))))
  where
    go : (q k : ℕ) (t : Bool) → (cond t (odd (suc (prec f)) false q k (low f)) (inf false) ≡ inf false) ⊎ ((g : ℕ) × HasValue (cond t (odd (suc (prec f)) false q k (low f)) (inf false)) false g (2 ^ low f))
    go q k true = inr (q * 2 ^ k, odd_sign (suc (prec f)) false q k (low f))
    go q k false = inl refl

-- at most a value of the format that the fraction is at most, and at least one that it is at least
pub round-below : (f : Format) (a b : ℕ) (y : Float) (n d : ℕ) → 0 < b → 0 < d → T (fits f y) → HasValue y false n d → a * d ≤ n * b → le (round f false a b) y ≡ true
round-below f a b y n d B D t v h = subst (λ (z : Float). le (round f false a b) z ≡ true) (round-self f false y n d D t v) (is (round_mono f a b n d B D h))

pub round-above : (f : Format) (a b : ℕ) (y : Float) (n d : ℕ) → 0 < b → 0 < d → T (fits f y) → HasValue y false n d → n * b ≤ a * d → le y (round f false a b) ≡ true
round-above f a b y n d B D t v h = subst (λ (z : Float). le z (round f false a b) ≡ true) (round-self f false y n d D t v) (is (round_mono f n d a b D B h))

-- what is at most a finite value is no infinity
bounded : (y : Float) (s : Bool) (n d : ℕ) → HasValue y s n d → le (inf false) y ≡ true → ⊥
unfolding le
bounded nan s n d v h = absurd v
bounded (inf t) s n d v h = absurd v
bounded (fin t m e) s n d v h = false≢true h

pub round-finite : (f : Format) (a b : ℕ) (y : Float) (n d : ℕ) → 0 < b → 0 < d → T (fits f y) → HasValue y false n d → a * d ≤ n * b
    → (g : ℕ) × HasValue (round f false a b) false g (2 ^ low f) × (g * d ≤ n * 2 ^ low f)
round-finite f a b y n d B D t v h =
    let l = round-below f a b y n d B D t v h in
    elim (round-kind f a b) [
      | inl e ↦ absurd (bounded y false n d v (subst (λ (z : Float). le z y ≡ true) e l))
      | inr g ↦ (g.0, g.1, le-values (round f false a b) y g.0 (2 ^ low f) n d g.1 v l)
    ]

-- ---- the four operations
pub less-mul : (i j k : ℕ) → (i - j) * k ≡ i * k - j * k
less-mul i j k = mul_comm (i - j) k ∙ mul-sub k i j ∙ ap₂ (λ (u t : ℕ). u - t) (mul_comm k i) (mul_comm k j)

-- x / p = a / c and y / q = b / d
module _ (f : Format) (x p y q a c b d : ℕ) (P : 0 < p) (Q : 0 < q) (C : 0 < c) (D : 0 < d) (v : x * c ≡ a * p) (w : y * d ≡ b * q) where
  left : x * q * (c * d) ≡ a * d * (p * q)
  left = mul-mul-mul_comm x q c d ∙ ap (λ (z : ℕ). z * (q * d)) v ∙ mul-mul-mul_comm a p q d ∙ ap (λ (z : ℕ). a * q * z) (mul_comm p d) ∙ mul-mul-mul_comm a q d p ∙ ap (λ (z : ℕ). a * d * z) (mul_comm q p)

  right : y * p * (c * d) ≡ b * c * (p * q)
  right = ap (λ (z : ℕ). y * p * z) (mul_comm c d) ∙ mul-mul-mul_comm y p d c ∙ ap (λ (z : ℕ). z * (p * c)) w ∙ mul-mul-mul_comm b q p c ∙ ap (λ (z : ℕ). b * p * z) (mul_comm q c) ∙ mul-mul-mul_comm b p c q

  sum_same : round f false (x * q + y * p) (p * q) ≡ round f false (a * d + b * c) (c * d)
  sum_same = round_same f false (x * q + y * p) (p * q) (a * d + b * c) (c * d) (mul-pos P Q) (mul-pos C D) (add-mul (x * q) (y * p) (c * d) ∙ ap₂ (λ (i j : ℕ). i + j) left right ∙ sym (add-mul (a * d) (b * c) (p * q)))

  less-same : round f false (x * q - y * p) (p * q) ≡ round f false (a * d - b * c) (c * d)
  less-same = round_same f false (x * q - y * p) (p * q) (a * d - b * c) (c * d) (mul-pos P Q) (mul-pos C D) (less-mul (x * q) (y * p) (c * d) ∙ ap₂ (λ (i j : ℕ). i - j) left right ∙ sym (less-mul (a * d) (b * c) (p * q)))

  product-same : round f false (x * y) (p * q) ≡ round f false (a * b) (c * d)
  product-same = round_same f false (x * y) (p * q) (a * b) (c * d) (mul-pos P Q) (mul-pos C D) (mul-mul-mul_comm x y c d ∙ ap₂ (λ (i j : ℕ). i * j) v w ∙ mul-mul-mul_comm a p b q)

  quotient-same : 0 < y → 0 < b → round f false (x * q) (y * p) ≡ round f false (a * d) (b * c)
  quotient-same Y B = round_same f false (x * q) (y * p) (a * d) (b * c) (mul-pos Y P) (mul-pos B C) cross
    where
      cross : x * q * (b * c) ≡ a * d * (y * p)
      cross = ap (λ (z : ℕ). x * q * z) (mul_comm b c) ∙ mul-mul-mul_comm x q c b ∙ ap₂ (λ (i j : ℕ). i * j) v (mul_comm q b ∙ sym w) ∙ ap (λ (z : ℕ). a * p * z) (mul_comm y d) ∙ mul-mul-mul_comm a p d y ∙ ap (λ (z : ℕ). a * d * z) (mul_comm p y)

pub add_at : (f : Format) (x y : Float) (a c b d : ℕ) → 0 < c → 0 < d → HasValue x false a c → HasValue y false b d → add f x y ≡ round f false (a * d + b * c) (c * d)
unfolding add sum
add_at f nan y a c b d C D v w = absurd v
add_at f (inf s) y a c b d C D v w = absurd v
add_at f (fin true m e) y a c b d C D v w = absurd (true≢false v.0)
add_at f (fin false m e) nan a c b d C D v w = absurd w
add_at f (fin false m e) (inf t) a c b d C D v w = absurd w
add_at f (fin false m e) (fin true n g) a c b d C D v w = absurd (true≢false w.0)
add_at f (fin false m e) (fin false n g) a c b d C D v w = sum_same f (m * up e) (down e) (n * up g) (down g) a c b d (down_pos e) (down_pos g) C D v.1 w.1

-- the difference of two that stand in order
chosen : (f : Format) (a b c : ℕ) → b ≤ a → sum f false a true b c ≡ round f false (a - b) c
unfolding sum
chosen f a b c h = go (ltb a b) (ltb→lt a b)
  where
    go : (t : Bool) → (T t → a < b) → cond t (round f true (b - a) c) (round f false (a - b) c) ≡ round f false (a - b) c
    go true k = absurd (not-le_of_lt (k tt) h)
    go false k = refl

pub sub_at : (f : Format) (x y : Float) (a c b d : ℕ) → 0 < c → 0 < d → HasValue x false a c → HasValue y false b d → b * c ≤ a * d → sub f x y ≡ round f false (a * d - b * c) (c * d)
unfolding sub
sub_at f nan y a c b d C D v w h = absurd v
sub_at f (inf s) y a c b d C D v w h = absurd v
sub_at f (fin true m e) y a c b d C D v w h = absurd (true≢false v.0)
sub_at f (fin false m e) nan a c b d C D v w h = absurd w
sub_at f (fin false m e) (inf t) a c b d C D v w h = absurd w
sub_at f (fin false m e) (fin true n g) a c b d C D v w h = absurd (true≢false w.0)
sub_at f (fin false m e) (fin false n g) a c b d C D v w h =
    chosen f (m * up e * down g) (n * up g * down e) (down e * down g) (transfer (n * up g) (m * up e) (down g) (down e) b a d c D C w.1 v.1 h)
    ∙ less-same f (m * up e) (down e) (n * up g) (down g) a c b d (down_pos e) (down_pos g) C D v.1 w.1

pub mul_at : (f : Format) (x y : Float) (a c b d : ℕ) → 0 < c → 0 < d → HasValue x false a c → HasValue y false b d → mul f x y ≡ round f false (a * b) (c * d)
unfolding mul
mul_at f nan y a c b d C D v w = absurd v
mul_at f (inf s) y a c b d C D v w = absurd v
mul_at f (fin true m e) y a c b d C D v w = absurd (true≢false v.0)
mul_at f (fin false m e) nan a c b d C D v w = absurd w
mul_at f (fin false m e) (inf t) a c b d C D v w = absurd w
mul_at f (fin false m e) (fin true n g) a c b d C D v w = absurd (true≢false w.0)
mul_at f (fin false m e) (fin false n g) a c b d C D v w = product-same f (m * up e) (down e) (n * up g) (down g) a c b d (down_pos e) (down_pos g) C D v.1 w.1

-- what equals a fraction above 0 is above 0
top_pos : (n : ℕ) (g : ℤ) (b d : ℕ) → 0 < b → n * up g * d ≡ b * down g → 0 < n
top_pos n g b d B w = first_pos n (up g) (first_pos (n * up g) d (subst-pos w (mul-pos B (down_pos g))))
  where
    subst-pos : {i j : ℕ} → i ≡ j → 0 < j → 0 < i
    subst-pos e h = rw e h

pub div-at : (f : Format) (x y : Float) (a c b d : ℕ) → 0 < c → 0 < d → 0 < b → HasValue x false a c → HasValue y false b d → div f x y ≡ round f false (a * d) (b * c)
unfolding div
div-at f nan y a c b d C D B v w = absurd v
div-at f (inf s) y a c b d C D B v w = absurd v
div-at f (fin true m e) y a c b d C D B v w = absurd (true≢false v.0)
div-at f (fin false m e) nan a c b d C D B v w = absurd w
div-at f (fin false m e) (inf t) a c b d C D B v w = absurd w
div-at f (fin false m e) (fin true n g) a c b d C D B v w = absurd (true≢false w.0)
div-at f (fin false m e) (fin false n g) a c b d C D B v w =
    let N : 0 < n = top_pos n g b d B w.1 in
    let z : eqb n 0 ≡ false = ne_eqb n 0 (λ h. omega arith) in
    rw z (quotient-same f (m * up e) (down e) (n * up g) (down g) a c b d (down_pos e) (down_pos g) C D v.1 w.1 (mul-pos N (up_pos g)) B)
