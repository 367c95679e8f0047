-- The re-cut as the loop does it: one edge more, the end, and the last edge set to 1.
use mathlib.Core.Path.{◌≡◌, refl, ap}
use mathlib.Core.List.{List, [], ◌∷◌, ◌++◌}
use Prim.Native.Nat.{ℕ, zero, suc, ◌+◌, ◌-◌, ◌≤◌, ◌<◌}
use native.Mathlib.Nat.{not-suc-le-zero}
use native.Mathlib.Numerals.{unary_clauses}
use lib.ListN.{length, take, drop, set, length-set, drop_of_length-le}
use lib.Ieee.{Float, nan, binary64, add}
use Rattle.doubles.specs.Numbers.{zero64, one64}
use Rattle.recut.specs.declared.cut.Spot.{Spot}
use Rattle.recut.specs.Cut.{spot, walk_to, edge_at, edges_from, cuts_of}
use Rattle.recut.proofs.Writes.{rest-next, rest-done}

module _ (es qs : List Float) (step : Float) where
  pub cut-next : (l : List Float) (i : ℕ) (t v : Float) (s s' : Spot) → i < length l
      → s' ≡ walk_to qs (add binary64 t step) s → v ≡ edge_at es qs (add binary64 t step) s'
      → take (i + 1) (set l i v) ++ edges_from es qs step (add binary64 t step) s' (length (drop (i + 1) (set l i v)))
      ≡ take i l ++ edges_from es qs step t s (length (drop i l))
  unfolding edges_from
  cut-next l i t v s s' h e d =
      rest-next nan l i v (λ (x : List Float). edges_from es qs step t s (length x)) (λ (x : List Float). edges_from es qs step (add binary64 t step) s' (length x)) h (rw (d, e))

  pub cut-end : (l : List Float) (i : ℕ) (t : Float) (s : Spot) → length l ≤ i → take i l ++ edges_from es qs step t s (length (drop i l)) ≡ l
  unfolding edges_from
  cut-end l i t s h = rest-done l i (λ (x : List Float). edges_from es qs step t s (length x)) (rw (drop_of_length-le l h))

  pub cut-whole : (room : List Float) → 0 < length room
      → set (take 1 (set room 0 zero64) ++ edges_from es qs step zero64 (spot zero64 0) (length (drop 1 (set room 0 zero64)))) (length room - 1) one64
      ≡ cuts_of es qs step (length room)
  unfolding cuts_of
  cut-whole [] h = absurd (not-suc-le-zero h)
  cut-whole (x ∷ xs) h = simp unary_clauses

  -- as many edges as there are places
  some : (n : ℕ) (t : Float) (s : Spot) → length (edges_from es qs step t s n) ≡ n
  unfolding edges_from
  some zero t s = refl
  some (suc n) t s = ap suc (some n (add binary64 t step) (walk_to qs (add binary64 t step) s))

  pub cut-length : (places : ℕ) → length (cuts_of es qs step places) ≡ places
  unfolding cuts_of
  cut-length zero = refl
  cut-length (suc n) = simp length-set (ap suc (some n zero64 (spot zero64 0)))
