-- The smoothing as the loop does it: the first bin, one bin more, the last.
use mathlib.Core.Path.{◌≡◌, refl, ap}
use mathlib.Core.List.{List, [], ◌∷◌, ◌++◌}
use Prim.Native.Nat.{ℕ, zero, suc, ◌+◌, ◌≤◌, ◌<◌}
use native.Mathlib.Nat.{le_of_suc-le-suc, not-suc-le-zero}
use native.Mathlib.Numerals.{add-one}
use native.Mathlib.Omega.{arith}
use lib.ListN.{length, get_or, take, drop, set}
use lib.Seq.{drop-cons}
use lib.Ieee.{Float, nan}
use Rattle.recut.specs.Weights.{first_of, inner_of, last_of, smoothed_from, smoothed}
use Rattle.recut.proofs.Writes.{rest-next}

pub smooth-short : (l : List Float) → length l < 2 → l ≡ smoothed l
unfolding smoothed
smooth-short [] h = refl
smooth-short (a ∷ []) h = refl
smooth-short (a ∷ (b ∷ l)) h = absurd (not-suc-le-zero (le_of_suc-le-suc (le_of_suc-le-suc h)))

pub smooth-start : (l : List Float) → 2 ≤ length l
    → take 1 (set l 0 (first_of (get_or l 0 nan) (get_or l 1 nan))) ++ smoothed_from (get_or l 0 nan) (get_or l 1 nan) (drop 1 (drop 1 (set l 0 (first_of (get_or l 0 nan) (get_or l 1 nan)))))
    ≡ smoothed l
unfolding smoothed
smooth-start [] h = absurd (not-suc-le-zero h)
smooth-start (a ∷ []) h = absurd (not-suc-le-zero (le_of_suc-le-suc h))
smooth-start (a ∷ (b ∷ l)) h = refl

pub smooth-next : (l : List Float) (i : ℕ) (p c : Float) → i + 1 < length l
    → take (i + 1) (set l i (inner_of p c (get_or l (i + 1) nan))) ++ smoothed_from c (get_or l (i + 1) nan) (drop 1 (drop (i + 1) (set l i (inner_of p c (get_or l (i + 1) nan)))))
    ≡ take i l ++ smoothed_from p c (drop 1 (drop i l))
unfolding smoothed_from
smooth-next l i p c h =
    let n = get_or l (i + 1) nan in
    let k : suc i < length l = omega arith in
    rest-next nan l i (inner_of p c n) (λ (t : List Float). smoothed_from p c (drop 1 t)) (λ (t : List Float). smoothed_from c n (drop 1 t)) (omega arith) (rw (add-one, drop-cons l (suc i) nan k))

pub smooth-end : (l : List Float) (k : ℕ) (p c : Float) → length l ≡ suc k → set l k (last_of p c) ≡ take k l ++ smoothed_from p c (drop 1 (drop k l))
unfolding smoothed_from
smooth-end [] k p c e = absurd (omega arith)
smooth-end (x ∷ []) zero p c e = refl
smooth-end (x ∷ (y ∷ l)) zero p c e = absurd (omega arith)
smooth-end (x ∷ l) (suc k) p c e = ap (λ (t : List Float). x ∷ t) (smooth-end l k p c (omega arith))
