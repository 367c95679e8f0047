-- The order of floats, for every value, NaN and infinities included, and whether or not it fits a format:
-- `le` is transitive, and off the NaNs `le y x` is `not (lt x y)`. The other laws follow from these two.
-- Assumes nothing.
use mathlib.Core.Path.{◌≡◌, refl, sym, ap, ◌∙◌, subst}
use mathlib.Core.Logic.{◌⊎◌, inl, inr}
use Prim.Native.Nat.{ℕ, ◌+◌, ◌*◌, ◌≤◌, ◌<◌}
use native.Mathlib.Nat.{le_of_eq, le_of_lt, eq-or-lt_of_le, not-le_of_lt, eq-zero-or-pos, zero-mul, mul-pos}
use native.Mathlib.Omega.{arith}
use mathlib.Core.Bool.{Bool, true, false, not, ◌&&◌, ◌||◌, true≢false, false≢true}
use lib.IntN.{ℤ}
use lib.Dec.{T, ltb, eqb}
use borrow.Author.Tests.{ltb-true, ltb-false, eqb-true, lt-ltb, eq-eqb}
use lib.Ieee.{Float, nan, inf, fin, up, down, below, level, lt, eq, le, is_nan}
use lib.Ieee.Fits.{down_pos}
use lib.Ieee.Positive.{through}
use Rattle.doubles.proofs.Truth.{is, was, either}

-- ---- ±a ≤ ±b, as a fact on numbers
abbrev pub Under : Bool → ℕ → Bool → ℕ → Type 0
Under false a false b = a ≤ b
Under false a true b = a + b ≤ 0
Under true a false b = Unit {0}
Under true a true b = b ≤ a

or_split : (a b : Bool) → T (a || b) → T a ⊎ T b
or_split true b t = inl tt
or_split false b t = inr t

and-true : (b : Bool) → T (b && true) → b ≡ true
and-true true t = refl
and-true false t = absurd t

and_both : (a b : Bool) → T (a && b) → (a ≡ true) × (b ≡ true)
and_both true true t = (refl, refl)
and_both true false t = absurd t
and_both false b t = absurd t

to-under : (s : Bool) (a : ℕ) (t : Bool) (b : ℕ) → T (below s a t b || level s a t b) → Under s a t b
to-under false a false b h = elim (or_split (ltb a b) (eqb a b && true) h) [
  | inl u ↦ le_of_lt (ltb-true a b (is u))
  | inr u ↦ le_of_eq (eqb-true a b (and-true (eqb a b) u))
]
to-under false a true b h =
    let p = and_both (eqb a b) (eqb a 0) h in
    let q : a ≡ b = eqb-true a b p.0 in
    let r : a ≡ 0 = eqb-true a 0 p.1 in
    omega arith
to-under true a false b h = tt
to-under true a true b h = elim (or_split (ltb b a) (eqb a b && true) h) [
  | inl u ↦ le_of_lt (ltb-true b a (is u))
  | inr u ↦ le_of_eq (sym (eqb-true a b (and-true (eqb a b) u)))
]

or_l : (a b : Bool) → a ≡ true → T (a || b)
or_l a b e = subst (λ (x : Bool). T (x || b)) (sym e) tt

or_r : (a b : Bool) → T b → T (a || b)
or_r true b t = tt
or_r false b t = t

of-under : (s : Bool) (a : ℕ) (t : Bool) (b : ℕ) → Under s a t b → T (below s a t b || level s a t b)
of-under false a false b h = elim (eq-or-lt_of_le h) [
  | inl e ↦ or_r (ltb a b) (eqb a b && true) (rw (eq-eqb a b e) tt)
  | inr l ↦ or_l (ltb a b) (eqb a b && true) (lt-ltb a b l)
]
of-under false a true b h =
    let p : a ≡ b = omega arith in
    let q : a ≡ 0 = omega arith in
    rw (eq-eqb a b p, eq-eqb a 0 q) tt
of-under true a false b h = elim (eq-zero-or-pos (a + b)) [
  | inl e ↦
      let p : a ≡ b = omega arith in
      let q : a ≡ 0 = omega arith in
      or_r (ltb 0 (a + b)) (eqb a b && (false || eqb a 0)) (rw (eq-eqb a b p, eq-eqb a 0 q) tt)
  | inr l ↦ or_l (ltb 0 (a + b)) (eqb a b && (false || eqb a 0)) (lt-ltb 0 (a + b) l)
]
of-under true a true b h = elim (eq-or-lt_of_le h) [
  | inl e ↦ or_r (ltb b a) (eqb a b && true) (rw (eq-eqb a b (sym e)) tt)
  | inr l ↦ or_l (ltb b a) (eqb a b && true) (lt-ltb b a l)
]

-- ---- the order of finite values is that of their fractions
pub le-under : (s : Bool) (m : ℕ) (e : ℤ) (t : Bool) (n : ℕ) (d : ℤ) → le (fin s m e) (fin t n d) ≡ true → Under s (m * up e * down d) t (n * up d * down e)
unfolding le
le-under s m e t n d h = to-under s (m * up e * down d) t (n * up d * down e) (was h)

pub under-le : (s : Bool) (m : ℕ) (e : ℤ) (t : Bool) (n : ℕ) (d : ℤ) → Under s (m * up e * down d) t (n * up d * down e) → le (fin s m e) (fin t n d) ≡ true
unfolding le
under-le s m e t n d h = is (of-under s (m * up e * down d) t (n * up d * down e) h)

-- ---- three signed fractions: ±x / p, ±y / q, ±z / r
-- x / q is 0, so x over anything is
gone : (x q r : ℕ) → 0 < q → x * q ≤ 0 → x * r ≡ 0
gone x q r Q h = elim (eq-zero-or-pos x) [ inl e ↦ ap (λ (k : ℕ). k * r) e ∙ zero-mul r | inr l ↦ absurd (not-le_of_lt (mul-pos l Q) h) ]

under-trans : (s t u : Bool) (x y z p q r : ℕ) → 0 < p → 0 < q → 0 < r
    → Under s (x * q) t (y * p) → Under t (y * r) u (z * q) → Under s (x * r) u (z * p)
under-trans false false false x y z p q r P Q R h k = through x y z p q r Q h k
under-trans false false true x y z p q r P Q R h k =
    let yp = gone y r p R (omega arith) in
    let xr = gone x q r Q (omega arith) in
    let zp = gone z q p Q (omega arith) in
    omega arith
under-trans false true false x y z p q r P Q R h k = let xr = gone x q r Q (omega arith) in omega arith
under-trans false true true x y z p q r P Q R h k =
    let yr = gone y p r P (omega arith) in
    let xr = gone x q r Q (omega arith) in
    let zp = gone z q p Q (omega arith) in
    omega arith
under-trans true false false x y z p q r P Q R h k = tt
under-trans true false true x y z p q r P Q R h k = let zp = gone z q p Q (omega arith) in omega arith
under-trans true true false x y z p q r P Q R h k = tt
under-trans true true true x y z p q r P Q R h k = through z y x r q p Q k h

-- ---- `le` is transitive
le-trans-T : (x y z : Float) → T (le x y) → T (le y z) → T (le x z)
unfolding le
le-trans-T nan y z h k = absurd h
le-trans-T (inf s) nan z h k = absurd h
le-trans-T (inf true) (inf t) nan h k = absurd k
le-trans-T (inf true) (inf t) (inf true) h k = tt
le-trans-T (inf true) (inf t) (inf false) h k = tt
le-trans-T (inf true) (inf t) (fin u l g) h k = tt
le-trans-T (inf false) (inf true) z h k = absurd h
le-trans-T (inf false) (inf false) z h k = k
le-trans-T (inf true) (fin t n d) nan h k = absurd k
le-trans-T (inf true) (fin t n d) (inf true) h k = tt
le-trans-T (inf true) (fin t n d) (inf false) h k = tt
le-trans-T (inf true) (fin t n d) (fin u l g) h k = tt
le-trans-T (inf false) (fin t n d) z h k = absurd h
le-trans-T (fin s m e) nan z h k = absurd h
le-trans-T (fin s m e) (inf true) z h k = absurd h
le-trans-T (fin s m e) (inf false) nan h k = absurd k
le-trans-T (fin s m e) (inf false) (inf true) h k = absurd k
le-trans-T (fin s m e) (inf false) (inf false) h k = tt
le-trans-T (fin s m e) (inf false) (fin u l g) h k = absurd k
le-trans-T (fin s m e) (fin t n d) nan h k = absurd k
le-trans-T (fin s m e) (fin t n d) (inf true) h k = absurd k
le-trans-T (fin s m e) (fin t n d) (inf false) h k = tt
le-trans-T (fin s m e) (fin t n d) (fin u l g) h k =
    of-under s (m * up e * down g) u (l * up g * down e)
    (under-trans s t u (m * up e) (n * up d) (l * up g) (down e) (down d) (down g) (down_pos e) (down_pos d) (down_pos g)
    (to-under s (m * up e * down d) t (n * up d * down e) h)
    (to-under t (n * up d * down g) u (l * up g * down d) k))

pub le-trans-float : (x y z : Float) → le x y ≡ true → le y z ≡ true → le x z ≡ true
le-trans-float x y z h k = is (le-trans-T x y z (was h) (was k))

-- ---- `le` is total off the NaNs, with `lt` its opposite
swap : (s : Bool) (a : ℕ) (t : Bool) (b : ℕ) → (below t b s a || level t b s a) ≡ not (below s a t b)
swap s a t b = go (either (below s a t b))
  where
    over : (s : Bool) (a : ℕ) (t : Bool) (b : ℕ) → below s a t b ≡ true → Under t b s a → ⊥
    over false a false b l u = not-le_of_lt (ltb-true a b l) u
    over false a true b l u = false≢true l
    over true a false b l u = not-le_of_lt (ltb-true 0 (a + b) l) (let w : b + a ≤ 0 = u in omega arith)
    over true a true b l u = not-le_of_lt (ltb-true b a l) u

    under : (s : Bool) (a : ℕ) (t : Bool) (b : ℕ) → below s a t b ≡ false → Under t b s a
    under false a false b l = ltb-false a b l
    under false a true b l = tt
    under true a false b l = let w : a + b ≤ 0 = ltb-false 0 (a + b) l in omega arith
    under true a true b l = ltb-false b a l

    stop : (b : Bool) → (T b → ⊥) → b ≡ false
    stop true f = absurd (f tt)
    stop false f = refl

    go : (below s a t b ≡ true) ⊎ (below s a t b ≡ false) → (below t b s a || level t b s a) ≡ not (below s a t b)
    go (inl e) = stop (below t b s a || level t b s a) (λ h. over s a t b e (to-under t b s a h)) ∙ ap not (sym e)
    go (inr e) = is (of-under t b s a (under s a t b e)) ∙ ap not (sym e)

pub le_not_lt : (x y : Float) → is_nan x ≡ false → is_nan y ≡ false → le y x ≡ not (lt x y)
unfolding le is_nan
le_not_lt nan y p q = absurd (true≢false p)
le_not_lt (inf s) nan p q = absurd (true≢false q)
le_not_lt (inf true) (inf true) p q = refl
le_not_lt (inf true) (inf false) p q = refl
le_not_lt (inf false) (inf true) p q = refl
le_not_lt (inf false) (inf false) p q = refl
le_not_lt (inf true) (fin t n d) p q = refl
le_not_lt (inf false) (fin t n d) p q = refl
le_not_lt (fin s m e) nan p q = absurd (true≢false q)
le_not_lt (fin s m e) (inf true) p q = refl
le_not_lt (fin s m e) (inf false) p q = refl
le_not_lt (fin s m e) (fin t n d) p q = swap s (m * up e * down d) t (n * up d * down e)

-- ---- what follows
pub lt-le : (x y : Float) → lt x y ≡ true → le x y ≡ true
unfolding le
lt-le x y h = rw h

pub eq-le : (x y : Float) → eq x y ≡ true → le x y ≡ true
unfolding le
eq-le x y h = is (or_r (lt x y) (eq x y) (was h))

back : (s : Bool) (a : ℕ) (t : Bool) (b : ℕ) → T (level s a t b) → Under t b s a
back false a false b h = le_of_eq (sym (eqb-true a b (and-true (eqb a b) h)))
back false a true b h = tt
back true a false b h = to-under false b true a (or_r false (level false b true a) (go (and_both (eqb a b) (eqb a 0) h)))
  where
    go : (eqb a b ≡ true) × (eqb a 0 ≡ true) → T (level false b true a)
    go p =
        let q : a ≡ b = eqb-true a b p.0 in
        let r : a ≡ 0 = eqb-true a 0 p.1 in
        let q' : b ≡ a = sym q in
        let r' : b ≡ 0 = omega arith in
        rw (eq-eqb b a q', eq-eqb b 0 r') tt
back true a true b h = le_of_eq (eqb-true a b (and-true (eqb a b) h))

eq-ge-T : (x y : Float) → T (eq x y) → T (le y x)
unfolding le
eq-ge-T nan y h = absurd h
eq-ge-T (inf s) nan h = absurd h
eq-ge-T (inf true) (inf true) h = tt
eq-ge-T (inf true) (inf false) h = absurd h
eq-ge-T (inf false) (inf true) h = absurd h
eq-ge-T (inf false) (inf false) h = tt
eq-ge-T (inf s) (fin t n d) h = absurd h
eq-ge-T (fin s m e) nan h = absurd h
eq-ge-T (fin s m e) (inf t) h = absurd h
eq-ge-T (fin s m e) (fin t n d) h =
    of-under t (n * up d * down e) s (m * up e * down d) (back s (m * up e * down d) t (n * up d * down e) h)

pub eq-ge : (x y : Float) → eq x y ≡ true → le y x ≡ true
eq-ge x y h = is (eq-ge-T x y (was h))

-- no NaN stands in a comparison that holds
pub le_left : (x y : Float) → le x y ≡ true → is_nan x ≡ false
unfolding le is_nan
le_left nan y h = absurd (false≢true h)
le_left (inf s) y h = refl
le_left (fin s m e) y h = refl

pub le_right : (x y : Float) → le x y ≡ true → is_nan y ≡ false
unfolding le is_nan
le_right nan nan h = absurd (false≢true h)
le_right (inf s) nan h = absurd (false≢true h)
le_right (fin s m e) nan h = absurd (false≢true h)
le_right x (inf t) h = refl
le_right x (fin t n d) h = refl

pub le_lt_trans : (x y z : Float) → le x y ≡ true → lt y z ≡ true → lt x z ≡ true
le_lt_trans x y z h k = elim (either (lt x z)) [
  | inl e ↦ e
  | inr e ↦
      let ny = le_right x y h in
      let nz = le_right y z (lt-le y z k) in
      let zx : le z x ≡ true = le_not_lt x z (le_left x y h) nz ∙ ap not e in
      absurd (false≢true (sym (le_not_lt y z ny nz ∙ ap not k) ∙ le-trans-float z x y zx h))
]

pub lt-le-trans : (x y z : Float) → lt x y ≡ true → le y z ≡ true → lt x z ≡ true
lt-le-trans x y z h k = elim (either (lt x z)) [
  | inl e ↦ e
  | inr e ↦
      let nx = le_left x y (lt-le x y h) in
      let zx : le z x ≡ true = le_not_lt x z nx (le_right y z k) ∙ ap not e in
      absurd (false≢true (sym (le_not_lt x y nx (le_left y z k) ∙ ap not h) ∙ le-trans-float y z x k zx))
]

pub lt-trans-float : (x y z : Float) → lt x y ≡ true → lt y z ≡ true → lt x z ≡ true
lt-trans-float x y z h k = le_lt_trans x y z (lt-le x y h) k

-- ---- equal as numbers: each at most the other
same : (s : Bool) (a : ℕ) (t : Bool) (b : ℕ) → Under s a t b → Under t b s a → level s a t b ≡ true
same false a false b h k =
    let p : a ≡ b = omega arith in
    rw (eq-eqb a b p)
same false a true b h k =
    let p : a ≡ b = omega arith in
    let q : a ≡ 0 = omega arith in
    rw (eq-eqb a b p, eq-eqb a 0 q)
same true a false b h k =
    let w : b + a ≤ 0 = k in
    let p : a ≡ b = omega arith in
    let q : a ≡ 0 = omega arith in
    rw (eq-eqb a b p, eq-eqb a 0 q)
same true a true b h k =
    let p : a ≡ b = omega arith in
    rw (eq-eqb a b p)

pub le_antisym : (x y : Float) → le x y ≡ true → le y x ≡ true → eq x y ≡ true
unfolding le eq
le_antisym nan y h k = absurd (false≢true h)
le_antisym (inf s) nan h k = absurd (false≢true h)
le_antisym (inf true) (inf true) h k = refl
le_antisym (inf true) (inf false) h k = absurd (false≢true k)
le_antisym (inf false) (inf true) h k = absurd (false≢true h)
le_antisym (inf false) (inf false) h k = refl
le_antisym (inf true) (fin t n d) h k = absurd (false≢true k)
le_antisym (inf false) (fin t n d) h k = absurd (false≢true h)
le_antisym (fin s m e) nan h k = absurd (false≢true h)
le_antisym (fin s m e) (inf true) h k = absurd (false≢true h)
le_antisym (fin s m e) (inf false) h k = absurd (false≢true k)
le_antisym (fin s m e) (fin t n d) h k =
    same s (m * up e * down d) t (n * up d * down e) (to-under s (m * up e * down d) t (n * up d * down e) (was h)) (to-under t (n * up d * down e) s (m * up e * down d) (was k))

-- ---- total off the NaNs
pub le_total : (x y : Float) → is_nan x ≡ false → is_nan y ≡ false → (le x y ≡ true) ⊎ (lt y x ≡ true)
le_total x y p q = elim (either (lt y x)) [ inl e ↦ inr e | inr e ↦ inl (le_not_lt y x q p ∙ ap not e) ]
