-- Scans of stretches one element on, and reading past a list's end.
use mathlib.Core.Path.{◌≡◌, refl, sym, ap, ◌∙◌}
use mathlib.Core.Bool.{Bool, true, false, cond, ◌&&◌}
use mathlib.Core.List.{List, [], ◌∷◌, ◌++◌, append_assoc}
use Prim.Native.Nat.{ℕ, suc, ◌+◌, ◌-◌, ◌^◌, ◌≤◌, ◌<◌}
use native.Mathlib.Numerals.{add-one}
use native.Mathlib.Omega.{arith}
use lib.Dec.{leb}
use lib.ListN.{length, take, drop, set, get_or, length-drop, drop_of_length-le}
use lib.Seq.{drop-cons, take-suc-set}
use lib.Ieee.{Float, nan, inf, fin, binary64, sub, add, neg, lt}
use Rattle.std.proofs.Math.Bool.{and_assoc, and-true}
use Rattle.doubles.specs.Finite.{finite_of}
use Rattle.doubles.specs.Total.{all_finite}
use Rattle.axis.specs.Edges.{rising}
use Rattle.axis.specs.Scans.{all_bounded}

-- what is left to scan, from k on, with what was found before
pub finite-on : (xs : List Float) (k : ℕ) (ok : Bool) → k < length xs
    → ((ok && finite_of (get_or xs k nan)) && all_finite (drop (k + 1) xs)) ≡ (ok && all_finite (drop k xs))
unfolding all_finite
finite-on xs k ok h = rw (and_assoc, add-one, drop-cons xs k nan)

pub finite-out : (xs : List Float) (k : ℕ) (ok : Bool) → length xs ≤ k → (ok && all_finite (drop k xs)) ≡ ok
unfolding all_finite
finite-out xs k ok h = ap (λ (l : List Float). ok && all_finite l) (drop_of_length-le xs h) ∙ and-true ok

pub bounded-on : (ns : List ℕ) (k : ℕ) (ok : Bool) → k < length ns
    → ((ok && leb (get_or ns k 0) (2 ^ 53)) && all_bounded (drop (k + 1) ns)) ≡ (ok && all_bounded (drop k ns))
unfolding all_bounded
bounded-on ns k ok h = rw (and_assoc, add-one, drop-cons ns k 0)

pub bounded-out : (ns : List ℕ) (k : ℕ) (ok : Bool) → length ns ≤ k → (ok && all_bounded (drop k ns)) ≡ ok
unfolding all_bounded
bounded-out ns k ok h = ap (λ (l : List ℕ). ok && all_bounded l) (drop_of_length-le ns h) ∙ and-true ok

-- rising from the edge before k on
rising-pair : (a b : Float) (es : List Float) → rising (a ∷ (b ∷ es)) ≡ (lt a b && rising (b ∷ es))
unfolding rising
rising-pair a b es = refl

pub rising-on : (es : List Float) (k : ℕ) (ok : Bool) → 1 ≤ k → k < length es
    → ((ok && lt (get_or es (k - 1) nan) (get_or es k nan)) && rising (drop (k + 1 - 1) es)) ≡ (ok && rising (drop (k - 1) es))
rising-on es k ok p h =
    let e : k + 1 - 1 ≡ k = omega arith in
    let f : k ≡ suc (k - 1) = omega arith in
    let g : k - 1 < length es = omega arith in
    let here : drop (k - 1) es ≡ get_or es (k - 1) nan ∷ drop k es = drop-cons es (k - 1) nan g ∙ ap (λ (j : ℕ). get_or es (k - 1) nan ∷ drop j es) (sym f) in
    let next : drop k es ≡ get_or es k nan ∷ drop (suc k) es = drop-cons es k nan h in
    and_assoc ok (lt (get_or es (k - 1) nan) (get_or es k nan)) (rising (drop (k + 1 - 1) es))
    ∙ ap (λ (l : List Float). ok && (lt (get_or es (k - 1) nan) (get_or es k nan) && rising l)) (ap (λ (j : ℕ). drop j es) e ∙ next)
    ∙ ap (λ (b : Bool). ok && b) (sym (rising-pair (get_or es (k - 1) nan) (get_or es k nan) (drop (suc k) es)))
    ∙ ap (λ (l : List Float). ok && rising l) (ap (λ (l : List Float). get_or es (k - 1) nan ∷ l) (sym next) ∙ sym here)

short-rises : (l : List Float) → length l ≤ 1 → rising l ≡ true
unfolding rising
short-rises [] h = refl
short-rises (a ∷ []) h = refl
short-rises (a ∷ (b ∷ l)) h = absurd (omega arith)

-- the last edge alone rises
pub rising-out : (es : List Float) (k : ℕ) (ok : Bool) → 1 ≤ k → length es ≤ k → (ok && rising (drop (k - 1) es)) ≡ ok
rising-out es k ok p h =
    ap (λ (b : Bool). ok && b) (short-rises (drop (k - 1) es) (omega (arith, length-drop (k - 1) es))) ∙ and-true ok

-- a difference with NaN is NaN
pub sub-nan : (x : Float) → sub binary64 x nan ≡ nan
unfolding sub add neg
sub-nan nan = refl
sub-nan (inf s) = refl
sub-nan (fin s m e) = refl

-- the half kept is at most the half
pub kept_small : (b : Bool) (h : ℕ) → cond b h 0 ≤ h
kept_small true h = omega arith
kept_small false h = omega arith

-- ---- a loop that writes a stretch from the front: W is what is to stand from i on, W' from i + 1 on
pub write-next : {A : Type 0} (d : A) (l : List A) (i : ℕ) (v : A) (W W' : List A) → i < length l → W ≡ v ∷ W'
    → take (i + 1) (set l i v) ++ W' ≡ take i l ++ W
write-next d l i v W W' h e =
    rw (add-one, take-suc-set l i v h, append_assoc) (ap (λ (x : List _). take i l ++ x) (sym e))
