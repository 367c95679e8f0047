-- Whether counters reach the least number of samples, as the loop finds it: what is left of the least, over what is left of the counters.
use mathlib.Core.Path.{◌≡◌, refl, sym, ◌∙◌}
use mathlib.Core.Logic.{inl, inr}
use mathlib.Core.Bool.{true}
use mathlib.Core.List.{List}
use Prim.Native.Nat.{ℕ, zero, suc, ◌+◌, ◌-◌, ◌≤◌, ◌<◌}
use native.Mathlib.Numerals.{add-one}
use native.Mathlib.Omega.{arith}
use borrow.Author.Tests.{leb-true, leb-false, le-leb, lt-leb, ne_eqb}
use lib.Dec.{leb, eqb}
use lib.ListN.{length, get_or, drop, drop_of_length-le}
use lib.Seq.{drop-cons}
use Rattle.doubles.proofs.Truth.{either}
use Rattle.recut.specs.Gather.{sum_of, reaches_of}

-- a count taken from both sides
taken : (n rest sum : ℕ) → n < rest → leb rest (n + sum) ≡ leb (rest - n) sum
taken n rest sum h = elim (either (leb (rest - n) sum)) [
  | inl e ↦ let k : rest - n ≤ sum = leb-true _ _ e in rw (e, le-leb rest (n + sum) (omega arith))
  | inr e ↦ let k : sum < rest - n = leb-false _ _ e in rw (e, lt-leb rest (n + sum) (omega arith))
]

pub reaches-next : (ns : List ℕ) (i rest : ℕ) → i < length ns → get_or ns i 0 < rest
    → reaches_of rest (drop i ns) ≡ reaches_of (rest - get_or ns i 0) (drop (i + 1) ns)
unfolding reaches_of sum_of
reaches-next ns i rest h k = rw (add-one, drop-cons ns i 0 h) (taken (get_or ns i 0) rest (sum_of (drop (suc i) ns)) k)

pub reaches-now : (ns : List ℕ) (i rest : ℕ) → i < length ns → rest ≤ get_or ns i 0 → reaches_of rest (drop i ns) ≡ true
unfolding reaches_of sum_of
reaches-now ns i rest h k = rw (drop-cons ns i 0 h) (le-leb rest (get_or ns i 0 + sum_of (drop (suc i) ns)) (omega arith))

pub reaches_end : (ns : List ℕ) (i rest : ℕ) → length ns ≤ i → reaches_of rest (drop i ns) ≡ eqb rest 0
unfolding reaches_of sum_of
reaches_end ns i rest h = rw (drop_of_length-le ns h) (none rest)
  where
    none : (n : ℕ) → leb n 0 ≡ eqb n 0
    none zero = refl
    none (suc n) = lt-leb (suc n) 0 (omega arith) ∙ sym (ne_eqb (suc n) 0 (λ e. omega arith))
