-- Scans of two stretches side by side: what was found before, and what is left of both, stay the answer for the whole.
use mathlib.Core.Path.{◌≡◌, refl, sym, ap, ◌∙◌}
use mathlib.Core.Bool.{Bool, true, ◌&&◌, and_assoc, and-true}
use mathlib.Core.List.{List, [], ◌∷◌}
use Prim.Native.Nat.{ℕ, zero, suc, ◌+◌, ◌^◌, ◌≤◌, ◌<◌}
use native.Mathlib.Numerals.{add-one}
use native.Mathlib.Omega.{arith}
use lib.Dec.{leb}
use lib.ListN.{length, drop, get_or, drop_of_length-le}
use lib.Seq.{drop-cons}
use lib.Ieee.{Float, binary64, add, eq}
use Rattle.doubles.specs.Finite.{finite_of}
use Rattle.doubles.specs.Total.{all_finite}
use Rattle.doubles.proofs.Truth.{both}
use Rattle.axis.specs.Scans.{all_bounded}
use Rattle.recut.specs.Pairs.{pairwise}
use Rattle.recut.specs.Gather.{gathered_of, joined_count, joined_counts}
use Rattle.model.specs.Merge.{equal_all}
use Rattle.lent.specs.Layout.{stretch}
use Rattle.lent.proofs.Same.{get_d-stretch}
use Rattle.lent.proofs.Changes.{stretch-length}

-- a test of all pairs, from one pair on
module _ {A : Type 0} (d : A) (t : A → A → Bool) (all : List A → List A → Bool)
    (none : all [] [] ≡ true) (more : (x y : A) (xs ys : List A) → all (x ∷ xs) (y ∷ ys) ≡ (t x y && all xs ys)) where
  abbrev pub left_all : List A → ℕ → List A → ℕ → ℕ → ℕ → Bool → Bool
  left_all xs at ys from n k ok = ok && all (drop k (stretch at n xs)) (drop k (stretch from n ys))

  pub pair-next : (xs ys : List A) (at from n k : ℕ) (ok : Bool) → at + n ≤ length xs → from + n ≤ length ys → k < n
      → left_all xs at ys from n (k + 1) (ok && t (get_or xs (at + k) d) (get_or ys (from + k) d)) ≡ left_all xs at ys from n k ok
  pair-next xs ys at from n k ok h i j =
      let left : drop k (stretch at n xs) ≡ get_or xs (at + k) d ∷ drop (suc k) (stretch at n xs) =
      drop-cons (stretch at n xs) k d (omega (arith, stretch-length at n xs h)) ∙ ap (λ (x : A). x ∷ drop (suc k) (stretch at n xs)) (get_d-stretch d at n k xs j) in
      let right : drop k (stretch from n ys) ≡ get_or ys (from + k) d ∷ drop (suc k) (stretch from n ys) =
      drop-cons (stretch from n ys) k d (omega (arith, stretch-length from n ys i)) ∙ ap (λ (y : A). y ∷ drop (suc k) (stretch from n ys)) (get_d-stretch d from n k ys j) in
      rw (left, right, more, add-one, and_assoc)

  pub pair-out : (xs ys : List A) (at from n k : ℕ) (ok : Bool) → at + n ≤ length xs → from + n ≤ length ys → n ≤ k → left_all xs at ys from n k ok ≡ ok
  pair-out xs ys at from n k ok h i j =
      let short : length (stretch at n xs) ≤ k = omega (arith, stretch-length at n xs h) in
      let short' : length (stretch from n ys) ≤ k = omega (arith, stretch-length from n ys i) in
      rw (drop_of_length-le (stretch at n xs) short, drop_of_length-le (stretch from n ys) short', none) (and-true ok)

-- ---- the three tests

pub equal-none : equal_all [] [] ≡ true
unfolding equal_all
equal-none = refl

pub equal-more : (x y : Float) (xs ys : List Float) → equal_all (x ∷ xs) (y ∷ ys) ≡ (eq x y && equal_all xs ys)
unfolding equal_all
equal-more x y xs ys = refl

abbrev pub finite_with : Float → Float → Bool
finite_with x y = finite_of (add binary64 x y)

abbrev pub all_finite_with : List Float → List Float → Bool
all_finite_with xs ys = all_finite (gathered_of xs ys)

pub finite-none : all_finite_with [] [] ≡ true
unfolding all_finite gathered_of pairwise
finite-none = refl

pub finite-more : (x y : Float) (xs ys : List Float) → all_finite_with (x ∷ xs) (y ∷ ys) ≡ (finite_with x y && all_finite_with xs ys)
unfolding all_finite gathered_of pairwise
finite-more x y xs ys = refl

abbrev pub bounded_with : ℕ → ℕ → Bool
bounded_with n m = leb (joined_count n m) (2 ^ 53)

abbrev pub all_bounded_with : List ℕ → List ℕ → Bool
all_bounded_with ns ms = all_bounded (joined_counts ns ms)

pub bounded-none : all_bounded_with [] [] ≡ true
unfolding all_bounded joined_counts pairwise
bounded-none = refl

pub bounded-more : (n m : ℕ) (ns ms : List ℕ) → all_bounded_with (n ∷ ns) (m ∷ ms) ≡ (bounded_with n m && all_bounded_with ns ms)
unfolding all_bounded joined_counts pairwise
bounded-more n m ns ms = refl

-- counts of at most 2^53 join by their sum
pub joined-sum : (n m : ℕ) → leb n (2 ^ 53) ≡ true → leb m (2 ^ 53) ≡ true → joined_count n m ≡ n + m
unfolding joined_count
joined-sum n m h k = rw (h, k)

pub bounded-entry : (ns : List ℕ) (k : ℕ) → k < length ns → all_bounded ns ≡ true → leb (get_or ns k 0) (2 ^ 53) ≡ true
unfolding all_bounded
bounded-entry [] k h e = absurd (omega arith)
bounded-entry (n ∷ ns) zero h e = (both (leb n (2 ^ 53)) (all_bounded ns) e).0
bounded-entry (n ∷ ns) (suc k) h e = bounded-entry ns k (omega arith) (both (leb n (2 ^ 53)) (all_bounded ns) e).1

pub bounded_at : (ns : List ℕ) (at n k : ℕ) → at + n ≤ length ns → k < n → all_bounded (stretch at n ns) ≡ true → leb (get_or ns (at + k) 0) (2 ^ 53) ≡ true
bounded_at ns at n k h j e =
    ap (λ (x : ℕ). leb x (2 ^ 53)) (sym (get_d-stretch 0 at n k ns j)) ∙ bounded-entry (stretch at n ns) k (omega (arith, stretch-length at n ns h)) e
