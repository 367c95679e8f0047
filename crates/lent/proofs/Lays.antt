-- Laying axes down: parts of memory that are lent and come back, and what is then read.
use mathlib.Core.Path.{◌≡◌, ap, ap₂, ◌∙◌}
use mathlib.Core.List.{List, ◌++◌}
use Prim.Native.Nat.{ℕ, suc, ◌+◌, ◌-◌, ◌*◌, ◌≤◌, ◌<◌}
use native.Mathlib.Nat.{add-mul, one-mul}
use native.Mathlib.Omega.{arith}
use lib.ListN.{length, take, drop, replicate, length-drop}
use lib.Seq.{length-take-le}
use lib.Ieee.{Float}
use Rattle.axis.specs.Edges.{bins_of, even_from, even_edges}
use Rattle.lent.specs.Layout.{stretch, axis_reals, axis_counts}
use Rattle.lent.specs.Memory.{Memory, memory, put, over_axes}
use Rattle.lent.specs.Laid.{edged_at}

module _ {A : Type 0} where
  -- a part that is lent has as many entries as its ends are apart
  pub lent_length : (at n : ℕ) (xs : List A) → at + n ≤ length xs → length (take (at + n - at) (drop at xs)) ≡ n
  lent_length at n xs h =
      let e : at + n - at ≡ n = omega arith in
      rw e (length-take-le n (drop at xs) (omega (arith, length-drop at xs)))

  -- a part that comes back, where it began and as the logic has it
  pub lent_back : (at n : ℕ) (ys zs xs : List A) → ys ≡ zs → take at xs ++ (ys ++ drop (at + n - at) (drop at xs)) ≡ put at n zs xs
  unfolding put
  lent_back at n ys zs xs e = let f : at + n - at ≡ n = omega arith in rw (e, f)

pub laid-even : (r n : ℕ) (ys reals : List Float) (counts : List ℕ) → r + (n + 1) ≤ length reals
    → ys ≡ even_from (length (take (r + (n + 1) - r) (drop r reals))) 0 (bins_of (take (r + (n + 1) - r) (drop r reals)))
    → memory (take r reals ++ (ys ++ drop (r + (n + 1) - r) (drop r reals))) counts ≡ edged_at r (n + 1) (even_edges n) (memory reals counts)
unfolding edged_at even_edges bins_of
laid-even r n ys reals counts h e =
    let l = lent_length r (n + 1) reals h in
    let f : length (take (r + (n + 1) - r) (drop r reals)) - 1 ≡ n = omega arith in
    ap (λ (xs : List Float). memory xs counts) (lent_back r (n + 1) ys (even_edges n) reals (e ∙ ap₂ (λ (k j : ℕ). even_from k 0 j) l f))

-- room for the stretches that are left: for the next, and for those after it
pub room_next : (k d w r l : ℕ) → d < k → r + (k - d) * w ≤ l → (r + w ≤ l) × (r + w + (k - (d + 1)) * w ≤ l)
room_next k d w r l h s =
    let e : (k - d) * w ≡ (k - (d + 1)) * w + w = ap (λ (j : ℕ). j * w) (let f : k - d ≡ k - (d + 1) + 1 = omega arith in f) ∙ add-mul (k - (d + 1)) 1 w ∙ ap (λ (j : ℕ). (k - (d + 1)) * w + j) (one-mul w) in
    (omega arith, omega arith)

-- the same argument for every axis that is left
pub over-next : {X : Type 0} (f : ℕ → ℕ → X → Memory → Memory) (m k d r c : ℕ) (x : X) (s t : Memory) → d < k → t ≡ f r c x s
    → over_axes f m (replicate (k - (d + 1)) x) (r + (6 * m + 1)) (c + (3 * m + 2)) t ≡ over_axes f m (replicate (k - d) x) r c s
unfolding over_axes axis_reals axis_counts
over-next f m k d r c x s t h e = let g : k - d ≡ suc (k - (d + 1)) = omega arith in rw (e, g)

pub over_done : {X : Type 0} (f : ℕ → ℕ → X → Memory → Memory) (m k d r c : ℕ) (x : X) (s : Memory) → k ≤ d → over_axes f m (replicate (k - d) x) r c s ≡ s
unfolding over_axes
over_done f m k d r c x s h = let g : k - d ≡ 0 = omega arith in rw g

-- a part that comes back as a copy of another list
pub copied-back : {A : Type 0} (at : ℕ) (ys zs xs : List A) → ys ≡ zs → take at xs ++ (ys ++ drop (at + length zs - at) (drop at xs)) ≡ put at (length zs) zs xs
copied-back at ys zs xs e = lent_back at (length zs) ys zs xs e

-- a part as the stretch that it is
pub lent-stretch : {A : Type 0} (at n : ℕ) (xs : List A) → take (at + n - at) (drop at xs) ≡ stretch at n xs
unfolding stretch
lent-stretch at n xs = let e : at + n - at ≡ n = omega arith in rw e

-- a part from the front
pub front_length : {A : Type 0} (n : ℕ) (xs : List A) → n ≤ length xs → length (take (n - 0) (drop 0 xs)) ≡ n
front_length n xs h = let e : n - 0 ≡ n = omega arith in rw e (length-take-le n xs h)
