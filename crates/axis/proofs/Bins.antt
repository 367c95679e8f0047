-- The bin rule on well-formed edges: a bin exactly for the numbers in [0, 1], and one only.
use mathlib.Core.Path.{◌≡◌, refl, sym, ap, ◌∙◌, subst}
use mathlib.Core.Logic.{◌⊎◌, inl, inr, ◌↔◌}
use mathlib.Core.List.{List, [], ◌∷◌}
use mathlib.Core.Bool.{Bool, true, false, not, ◌&&◌, ◌||◌, false≢true}
use Prim.Native.Nat.{ℕ, zero, suc, ◌-◌, ◌≤◌, ◌<◌, zero-le, suc-le-suc}
use native.Mathlib.Nat.{le_of_suc-le-suc, not-suc-le-zero, eq-or-lt_of_le, le_of_lt, le_refl}
use native.Mathlib.Numerals.{sub-one}
use native.Mathlib.Omega.{arith}
use native.Mathlib.Decide.{dec_lt}
use lib.ListN.{length, get_or}
use lib.Dec.{leb, eqb}
use lib.Ieee.{Float, nan, lt, le, eq}
use borrow.Author.Tests.{leb-true, le-leb, eqb-true}
use Rattle.doubles.specs.Numbers.{zero64, one64}
use Rattle.doubles.proofs.Truth.{either, both}
use Rattle.doubles.proofs.Order.{le_not_lt, lt-le, eq-le, eq-ge, le_left, le_right, lt-trans-float, le-trans-float, le_lt_trans}
use Rattle.axis.specs.Edges.{rising, bins_of, well_formed, in_unit, InBin, first_upto, bin_of}

-- what well-formed edges have
pub record Formed (es : List Float) : Type 0 where
  pub few : 2 ≤ length es
  pub first : eq (get_or es 0 nan) zero64 ≡ true
  pub last : eq (get_or es (length es - 1) nan) one64 ≡ true
  pub up : rising es ≡ true

pub formed : (es : List Float) → well_formed es ≡ true → Formed es
unfolding well_formed bins_of
formed es e =
    let a = both (leb 2 (length es)) _ e in
    let b = both (eq (get_or es 0 nan) zero64) _ a.1 in
    let c = both (eq (get_or es (length es - 1) nan) one64) _ b.1 in
    record { few = leb-true 2 (length es) a.0; first = b.0; last = c.0; up = c.1 }

pub formed-of : (es : List Float) → 2 ≤ length es → eq (get_or es 0 nan) zero64 ≡ true → eq (get_or es (length es - 1) nan) one64 ≡ true → rising es ≡ true
    → well_formed es ≡ true
unfolding well_formed bins_of
formed-of es few first last up = rw (le-leb 2 (length es) few, first, last) up

-- rising edges rise between any two
pub rises : (es : List Float) → rising es ≡ true → (p q : ℕ) → p < q → q < length es → lt (get_or es p nan) (get_or es q nan) ≡ true
unfolding rising
rises [] e p q h l = absurd (not-suc-le-zero l)
rises (x ∷ []) e p zero h l = absurd (not-suc-le-zero h)
rises (x ∷ []) e p (suc q) h l = absurd (not-suc-le-zero (le_of_suc-le-suc l))
rises (x ∷ (y ∷ ys)) e p zero h l = absurd (not-suc-le-zero h)
rises (x ∷ (y ∷ ys)) e zero (suc zero) h l = (both (lt x y) (rising (y ∷ ys)) e).0
rises (x ∷ (y ∷ ys)) e zero (suc (suc q)) h l =
    lt-trans-float x y (get_or ys q nan) (both (lt x y) (rising (y ∷ ys)) e).0
    (rises (y ∷ ys) (both (lt x y) (rising (y ∷ ys)) e).1 zero (suc q) (suc-le-suc zero-le) (le_of_suc-le-suc l))
rises (x ∷ (y ∷ ys)) e (suc p) (suc q) h l =
    rises (y ∷ ys) (both (lt x y) (rising (y ∷ ys)) e).1 p q (le_of_suc-le-suc h) (le_of_suc-le-suc l)

pub rises-le : (es : List Float) → rising es ≡ true → (p q : ℕ) → p < q → q < length es → le (get_or es p nan) (get_or es q nan) ≡ true
rises-le es e p q h l = lt-le (get_or es p nan) (get_or es q nan) (rises es e p q h l)

either-of : (a b : Bool) → (a || b) ≡ true → (a ≡ true) ⊎ (b ≡ true)
either-of true b e = inl refl
either-of false b e = inr e

pub or_left : (a b : Bool) → a ≡ true → (a || b) ≡ true
or_left a b e = ap (λ (x : Bool). x || b) e

pub or_right : (a b : Bool) → b ≡ true → (a || b) ≡ true
or_right true b e = refl
or_right false b e = e

pub and : (a b : Bool) → a ≡ true → b ≡ true → (a && b) ≡ true
and a b p q = ap (λ (x : Bool). x && b) p ∙ q

-- ---- only numbers in [0, 1] have a bin
module _ (es : List Float) (x : Float) (f : Formed es) where
  pub edge-low : (i : ℕ) → i < length es → le zero64 (get_or es i nan) ≡ true
  edge-low zero h = eq-ge (get_or es 0 nan) zero64 f.first
  edge-low (suc i) h =
      le-trans-float zero64 (get_or es 0 nan) (get_or es (suc i) nan) (eq-ge (get_or es 0 nan) zero64 f.first)
      (rises-le es f.up 0 (suc i) (suc-le-suc zero-le) h)

  pub edge-high : (i : ℕ) → i < length es → le (get_or es i nan) one64 ≡ true
  edge-high i h = elim (eq-or-lt_of_le (le_pred h)) [
    | inl e ↦ subst (λ (n : ℕ). le (get_or es n nan) one64 ≡ true) (sym e) top
    | inr l ↦ le-trans-float (get_or es i nan) (get_or es (length es - 1) nan) one64 (rises-le es f.up i (length es - 1) l (let n = f.few in omega arith)) top
  ]
    where
      le_pred : i < length es → i ≤ length es - 1
      le_pred h = omega arith

      top : le (get_or es (length es - 1) nan) one64 ≡ true
      top = eq-le (get_or es (length es - 1) nan) one64 f.last

  only-unit : (i : ℕ) → InBin es x i → in_unit x ≡ true
  unfolding in_unit
  only-unit i b = and (le zero64 x) (le x one64) low (le-trans-float x (get_or es (suc i) nan) one64 b.upto (edge-high (suc i) b.there))
    where
      low : le zero64 x ≡ true
      low = elim (either-of (lt (get_or es i nan) x) (eqb i 0 && eq x zero64) b.above) [
        | inl l ↦ le-trans-float zero64 (get_or es i nan) x (edge-low i (le_of_lt b.there)) (lt-le (get_or es i nan) x l)
        | inr z ↦ eq-ge x zero64 (both (eqb i 0) (eq x zero64) z).1
      ]

  -- of two bins the one before would end below where the other begins
  clash : (i j : ℕ) → InBin es x i → InBin es x j → i < j → ⊥
  clash i j b c h = elim (either-of (lt (get_or es j nan) x) (eqb j 0 && eq x zero64) c.above) [
    | inl l ↦ false≢true (sym (le_not_lt (get_or es j nan) x (le_left (get_or es j nan) x (lt-le (get_or es j nan) x l)) (le_left x (get_or es (suc i) nan) b.upto) ∙ ap not l) ∙ under)
    | inr z ↦ let e : j ≡ 0 = eqb-true j 0 (both (eqb j 0) (eq x zero64) z).0 in omega arith
  ]
    where
      under : le x (get_or es j nan) ≡ true
      under = elim (eq-or-lt_of_le h) [
        | inl e ↦ subst (λ (n : ℕ). le x (get_or es n nan) ≡ true) e b.upto
        | inr l ↦ le-trans-float x (get_or es (suc i) nan) (get_or es j nan) b.upto (rises-le es f.up (suc i) j l (le_of_lt c.there))
      ]

  pub one-bin : (i j : ℕ) → InBin es x i → InBin es x j → i ≡ j
  one-bin i j b c = elim (dec_lt i j) [
    | yes l ↦ absurd (clash i j b c l)
    | no n ↦ elim (dec_lt j i) [ yes l ↦ absurd (clash j i c b l) | no m ↦ omega arith ]
  ]

-- ---- the scan from the left finds it
scan-upto : (bs : List Float) (x : Float) (j : ℕ) → j < length bs → le x (get_or bs j nan) ≡ true
    → (first_upto x bs ≤ j) × (le x (get_or bs (first_upto x bs) nan) ≡ true)
unfolding first_upto
scan-upto [] x j h e = absurd (not-suc-le-zero h)
scan-upto (b ∷ bs) x zero h e = rw e (zero-le, e)
scan-upto (b ∷ bs) x (suc j) h e = elim (either (le x b)) [
  | inl t ↦ rw t (zero-le, t)
  | inr f ↦ let r = scan-upto bs x j (le_of_suc-le-suc h) e in rw f (suc-le-suc r.0, r.1)
]

-- what it passed, it passed for being below
scan-passed : (bs : List Float) (x : Float) (j : ℕ) → first_upto x bs ≡ suc j → le x (get_or bs j nan) ≡ false
unfolding first_upto
scan-passed [] x j e = absurd (omega arith)
scan-passed (b ∷ bs) x zero e = elim (either (le x b)) [
  | inl t ↦ let z : 0 ≡ suc zero = rw t at e in absurd (omega arith)
  | inr f ↦ f
]
scan-passed (b ∷ bs) x (suc j) e = elim (either (le x b)) [
  | inl t ↦ let z : 0 ≡ suc (suc j) = rw t at e in absurd (omega arith)
  | inr f ↦ scan-passed bs x j (let z : suc (first_upto x bs) ≡ suc (suc j) = rw f at e in omega arith)
]

flip-not : (b c : Bool) → b ≡ not c → b ≡ false → c ≡ true
flip-not b true p e = refl
flip-not b false p e = absurd (false≢true (sym e ∙ p))

flip-true : (b c : Bool) → b ≡ not c → b ≡ true → c ≡ false
flip-true b true p e = absurd (false≢true (sym p ∙ e))
flip-true b false p e = refl

-- a number from 0 on is above 0, or 0
pub sign : (x : Float) → le zero64 x ≡ true → (lt zero64 x ≡ true) ⊎ (eq x zero64 ≡ true)
unfolding le
sign x h = elim (either-of (lt zero64 x) (eq zero64 x) h) [
  | inl l ↦ inl l
  | inr e ↦
      let nx = le_right zero64 x h in
      let n : lt x zero64 ≡ false = flip-true (le zero64 x) (lt x zero64) (le_not_lt x zero64 nx (le_left zero64 x h)) h in
      elim (either-of (lt x zero64) (eq x zero64) (eq-ge zero64 x e)) [
        | inl l ↦ absurd (false≢true (sym n ∙ l))
        | inr q ↦ inr q
      ]
]

-- zero stands in bin 0, whatever is above the first edge too
pub first_above : (e x : Float) → eq e zero64 ≡ true → le zero64 x ≡ true → (lt e x || eq x zero64) ≡ true
first_above e x f h = elim (sign x h) [
  | inl l ↦ or_left (lt e x) (eq x zero64) (le_lt_trans e zero64 x (eq-le e zero64 f) l)
  | inr z ↦ or_right (lt e x) (eq x zero64) z
]

pub not-upto : (e x : Float) → le zero64 e ≡ true → le zero64 x ≡ true → le x e ≡ false → lt e x ≡ true
not-upto e x p q h = flip-not (le x e) (lt e x) (le_not_lt e x (le_right zero64 e p) (le_right zero64 x q)) h

pub upto-not : (e x : Float) → le zero64 e ≡ true → le zero64 x ≡ true → lt e x ≡ false → le x e ≡ true
upto-not e x p q h = le_not_lt e x (le_right zero64 e p) (le_right zero64 x q) ∙ ap not h

pub found : (es : List Float) (x : Float) → Formed es → in_unit x ≡ true → InBin es x (bin_of es x)
unfolding bin_of in_unit
found [] x f u = absurd (not-suc-le-zero f.few)
found (e ∷ []) x f u = absurd (not-suc-le-zero (le_of_suc-le-suc f.few))
found (e ∷ (b ∷ bs)) x f u = record { there = let s = r.0 in omega arith; above = go (first_upto x (b ∷ bs)) refl r.0; upto = r.1 }
  where
    low : le zero64 x ≡ true
    low = (both (le zero64 x) (le x one64) u).0

    top : le x (get_or (b ∷ bs) (length bs) nan) ≡ true
    top =
        le-trans-float x one64 (get_or (b ∷ bs) (length bs) nan) (both (le zero64 x) (le x one64) u).1
        (eq-ge (get_or (b ∷ bs) (length bs) nan) one64 (rw sub-one at f.last))

    r : (first_upto x (b ∷ bs) ≤ length bs) × (le x (get_or (b ∷ bs) (first_upto x (b ∷ bs)) nan) ≡ true)
    r = scan-upto (b ∷ bs) x (length bs) (le_refl (suc (length bs))) top

    go : (n : ℕ) → first_upto x (b ∷ bs) ≡ n → n ≤ length bs → (lt (get_or (e ∷ (b ∷ bs)) n nan) x || (eqb n 0 && eq x zero64)) ≡ true
    go zero q h = first_above e x f.first low
    go (suc j) q h =
        or_left (lt (get_or (b ∷ bs) j nan) x) (eqb (suc j) 0 && eq x zero64)
        (not-upto (get_or (b ∷ bs) j nan) x (edge-low (e ∷ (b ∷ bs)) x f (suc j) (let h' = h in omega arith)) low (scan-passed (b ∷ bs) x j q))

-- the bin rule: x is in bin i exactly if x is a number in [0, 1] and i is `bin_of es x`
pub bin-rule : (es : List Float) (x : Float) (i : ℕ) → well_formed es ≡ true → InBin es x i ↔ ((in_unit x ≡ true) × (i ≡ bin_of es x))
bin-rule es x i w =
    let f = formed es w in (
      λ b. let u = only-unit es x f i b in (u, one-bin es x f i (bin_of es x) b (found es x f u)),
      λ h. subst (λ (n : ℕ). InBin es x n) (sym h.1) (found es x f h.0),
    )
