-- `pairwise` as a loop does it: one pair more, and either list ended.
use mathlib.Core.Path.{◌≡◌, refl, ap}
use mathlib.Core.List.{List, [], ◌∷◌, ◌++◌}
use Prim.Native.Nat.{ℕ, suc, min, ◌+◌, ◌≤◌, ◌<◌}
use native.Mathlib.Decide.{dec_lt}
use native.Mathlib.Omega.{arith}
use native.Mathlib.Numerals.{add-one}
use lib.ListN.{length, get_or, take, drop, set, drop_of_length-le}
use lib.Seq.{drop-cons}
use Rattle.recut.specs.Pairs.{pairwise}
use Rattle.recut.proofs.Writes.{rest-next, rest-done}

module _ {A B : Type 0} (f : A → B → A) where
  pub pairs_next : (a : A) (b : B) (xs : List A) (ys : List B) (i : ℕ) (v : A) → i < length xs → i < length ys → v ≡ f (get_or xs i a) (get_or ys i b)
      → take (i + 1) (set xs i v) ++ pairwise f (drop (i + 1) (set xs i v)) (drop (i + 1) ys) ≡ take i xs ++ pairwise f (drop i xs) (drop i ys)
  unfolding pairwise
  pairs_next a b xs ys i v h k e =
      rest-next a xs i v (λ (t : List A). pairwise f t (drop i ys)) (λ (t : List A). pairwise f t (drop (i + 1) ys)) h (rw (e, add-one, drop-cons ys i b k))

  alone : (xs : List A) → pairwise f xs [] ≡ xs
  unfolding pairwise
  alone [] = refl
  alone (x ∷ xs) = refl

  pub pairs-done : (xs : List A) (ys : List B) (i : ℕ) → length ys ≤ i → take i xs ++ pairwise f (drop i xs) (drop i ys) ≡ xs
  pairs-done xs ys i h = rest-done xs i (λ (t : List A). pairwise f t (drop i ys)) (rw (drop_of_length-le ys h) (alone (drop i xs)))

  pub pairs-out : (xs : List A) (ys : List B) (i : ℕ) → length xs ≤ i → take i xs ++ pairwise f (drop i xs) (drop i ys) ≡ xs
  unfolding pairwise
  pairs-out xs ys i h = rest-done xs i (λ (t : List A). pairwise f t (drop i ys)) (rw (drop_of_length-le xs h))

  pub pairs-end : (xs : List A) (ys : List B) (i : ℕ) → min (length xs) (length ys) ≤ i → take i xs ++ pairwise f (drop i xs) (drop i ys) ≡ xs
  pairs-end xs ys i h = elim (dec_lt (length xs) (length ys)) [
    | yes l ↦ pairs-out xs ys i (omega arith)
    | no n ↦ pairs-done xs ys i (omega arith)
  ]

  pub pairs-length : (xs : List A) (ys : List B) → length (pairwise f xs ys) ≡ length xs
  unfolding pairwise
  pairs-length [] ys = refl
  pairs-length (x ∷ xs) [] = refl
  pairs-length (x ∷ xs) (y ∷ ys) = ap suc (pairs-length xs ys)
