-- A finite total says that every importance was finite, at its own stage and before the smoothing, so that two tests decide 8.
use mathlib.Core.Path.{◌≡◌, refl}
use mathlib.Core.Bool.{Bool, true, false, not, cond, false≢true}
use mathlib.Core.List.{List, [], ◌∷◌}
use Prim.Native.Nat.{ℕ}
use lib.Ieee.{Float, binary64, add, mul}
use Rattle.doubles.specs.Numbers.{zero64}
use Rattle.doubles.specs.Finite.{finite_of}
use Rattle.doubles.specs.Total.{total_of, all_finite}
use Rattle.doubles.specs.Paper.{Paper, refuses}
use Rattle.doubles.proofs.Truth.{both}
use Rattle.doubles.proofs.Finiteness.{add-finite, mul-finite, div-finite, total-finite}
use Rattle.recut.specs.Weights.{three64, four64, six64, eight64, first_of, inner_of, last_of, smoothed_from, smoothed, damped}
use Rattle.recut.specs.Cut.{cuts_of}
use Rattle.recut.specs.Renew.{finite_total, step_of, edges_of, from_damped, from_smoothed, from_divided}

first-finite : (a b : Float) → finite_of (first_of a b) ≡ true → finite_of a ≡ true
unfolding first_of
first-finite a b h = (mul-finite binary64 three64 a (add-finite binary64 (mul binary64 three64 a) b (div-finite binary64 _ four64 h)).0).1

from-finite : (ns : List Float) (p c : Float) → all_finite (smoothed_from p c ns) ≡ true → (finite_of c ≡ true) × (all_finite ns ≡ true)
unfolding smoothed_from all_finite inner_of last_of
from-finite [] p c h =
    let k = both (finite_of (last_of p c)) true h in
    ((mul-finite binary64 three64 c (add-finite binary64 p (mul binary64 three64 c) (div-finite binary64 _ four64 k.0)).1).1, refl)
from-finite (n ∷ ns) p c h =
    let k = both (finite_of (inner_of p c n)) (all_finite (smoothed_from c n ns)) h in
    let sum = add-finite binary64 (add binary64 p (mul binary64 c six64)) n (div-finite binary64 _ eight64 k.0) in
    ((mul-finite binary64 c six64 (add-finite binary64 p (mul binary64 c six64) sum.0).1).0, rw sum.1 (from-finite ns c n k.1).1)

smoothed-finite : (qs : List Float) → all_finite (smoothed qs) ≡ true → all_finite qs ≡ true
unfolding smoothed all_finite
smoothed-finite [] h = h
smoothed-finite (a ∷ []) h = h
smoothed-finite (a ∷ (b ∷ qs)) h =
    let k = both (finite_of (first_of a b)) (all_finite (smoothed_from a b qs)) h in
    let m = from-finite qs a b k.1 in
    rw (first-finite a b k.0, m.0) m.1

-- two rungs with one answer are one, where the second test implies the first
join : {A : Type 0} (a b : Bool) (p q : Paper A) → (b ≡ true → a ≡ true) → cond (not a) p (cond (not b) p q) ≡ cond (not b) p q
join true b p q h = refl
join false false p q h = refl
join false true p q h = absurd (false≢true (h refl))

pub damped-once : (es ds : List Float) (places : ℕ) → from_damped es ds places ≡ finite_total ds (edges_of (cuts_of es ds (step_of ds places) places))
unfolding from_damped
damped-once es ds places = join (all_finite ds) (finite_of (total_of zero64 ds)) _ _ (λ h. (total-finite ds zero64 h).1)

pub divided-once : (es qs : List Float) (rate : Float) (places : ℕ)
    → from_divided es qs rate places ≡ finite_total (smoothed qs) (from_damped es (damped (total_of zero64 (smoothed qs)) rate (smoothed qs)) places)
unfolding from_divided from_smoothed
divided-once es qs rate places =
    let ss = smoothed qs in
    let t = total_of zero64 ss in
    rw (join (all_finite ss) (finite_of t) (refuses 8) (from_damped es (damped t rate ss) places) (λ h. (total-finite ss zero64 h).1))
    (join (all_finite qs) (finite_of t) _ _ (λ h. smoothed-finite qs (total-finite ss zero64 h).1))
