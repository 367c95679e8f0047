-- Fresh edges i / n rise strictly from exactly 0 to exactly 1, for every number of bins from 1 to 1,024.
use mathlib.Core.Path.{◌≡◌, refl, sym, ap, ◌∙◌}
use mathlib.Core.Bool.{Bool, true, ◌&&◌}
use mathlib.Core.List.{◌∷◌}
use Prim.Native.Nat.{ℕ, zero, suc, ◌+◌, ◌-◌, ◌≤◌, ◌<◌}
use native.Mathlib.Nat.{add-zero}
use native.Mathlib.Numerals.{add-one}
use native.Mathlib.Omega.{arith}
use lib.ListN.{length, get_or}
use lib.Ieee.{nan, of_bits, lt, eq}
use Rattle.doubles.specs.Numbers.{zero64, one64}
use Rattle.doubles.proofs.Steps.{step, step-rises, step-first, step-last}
use Rattle.axis.specs.Edges.{rising, well_formed, even_from, even_edges}
use Rattle.axis.proofs.Bins.{formed-of}

pub length-even : (k i n : ℕ) → length (even_from k i n) ≡ k
unfolding even_from
length-even zero i n = refl
length-even (suc k) i n = ap suc (length-even k (i + 1) n)

-- the edge j places on
pub even-at : (k i n j : ℕ) → j < k → get_or (even_from k i n) j nan ≡ step (i + j) n
unfolding even_from
even-at zero i n j h = absurd (omega arith)
even-at (suc k) i n zero h = ap (λ (m : ℕ). step m n) (sym (add-zero i))
even-at (suc k) i n (suc j) h =
    let e : i + 1 + j ≡ i + suc j = omega arith in
    even-at k (i + 1) n j (omega arith) ∙ ap (λ (m : ℕ). step m n) e

-- the next edge to lay
pub even-next : (m i n : ℕ) → i < m → even_from (m - i) i n ≡ step i n ∷ even_from (m - (i + 1)) (i + 1) n
unfolding even_from
even-next m i n h = let e : m - i ≡ suc (m - (i + 1)) = omega arith in rw e

even-rises : (k i n : ℕ) → n ≤ 1024 → i + k ≤ n + 1 → rising (even_from k i n) ≡ true
unfolding rising even_from
even-rises zero i n N h = refl
even-rises (suc zero) i n N h = refl
even-rises (suc (suc k)) i n N h =
    let up : lt (step i n) (step (i + 1) n) ≡ true = rw add-one (step-rises i n N (omega arith)) in
    ap (λ (b : Bool). b && rising (even_from (suc k) (i + 1) n)) up ∙ even-rises (suc k) (i + 1) n N (omega arith)

zero_is : eq zero64 zero64 ≡ true
unfolding eq of_bits
zero_is = refl

one-is : eq one64 one64 ≡ true
unfolding eq of_bits
one-is = refl

pub fresh-formed : (n : ℕ) → 1 ≤ n → n ≤ 1024 → well_formed (even_edges n) ≡ true
unfolding even_edges
fresh-formed n N M =
    let l : length (even_from (n + 1) 0 n) ≡ n + 1 = length-even (n + 1) 0 n in
    let first : get_or (even_from (n + 1) 0 n) 0 nan ≡ zero64 = even-at (n + 1) 0 n 0 (omega arith) ∙ step-first n N M in
    let top : length (even_from (n + 1) 0 n) - 1 ≡ n = omega arith in
    let e : 0 + n ≡ n = omega arith in
    let last : get_or (even_from (n + 1) 0 n) n nan ≡ one64 = even-at (n + 1) 0 n n (omega arith) ∙ ap (λ (m : ℕ). step m n) e ∙ step-last n N M in
    formed-of (even_from (n + 1) 0 n) (omega arith) (rw first zero_is) (rw (top, last) one-is) (even-rises (n + 1) 0 n M (omega arith))
