-- The form of a sample along its path: what is left of it, level by level.
use mathlib.Core.Path.{◌≡◌, refl, sym, ap, ◌∙◌}
use mathlib.Core.Bool.{Bool, true, false, not, ◌&&◌, cond}
use mathlib.Core.List.{List, [], ◌∷◌}
use Prim.Native.Nat.{ℕ, zero, suc, ◌+◌, ◌-◌, ◌≤◌, ◌<◌}
use native.Mathlib.Omega.{arith}
use borrow.Author.Tests.{ne_eqb, lt-ltb, le-ltb}
use lib.ListN.{length, get_or}
use lib.Ieee.{Float}
use Rattle.axis.specs.Edges.{in_unit}
use Rattle.model.specs.Grid.{Grid, Head, axes, bins, nothing}
use Rattle.model.specs.Train.{fault_of_all, fault_of_axes, fault_of, fault_of_bin, fault_of_child}
use Rattle.lent.specs.Tree.{axes_place, axes_grid_at, child_in, bins_in}
use Rattle.lent.specs.Sampled.{entries}
use Rattle.lent.specs.Trained.{all_in_unit, form_fault, nothing_fault}
use Rattle.lent.proofs.Reading.{length-axes}
use Rattle.lent.proofs.Paths.{many-bins}

-- ---- entries that are left

pub none_left : {A : Type 0} (d : A) (xs : List A) (i n : ℕ) → n ≤ i → entries d xs i (n - i) ≡ []
unfolding entries
none_left d xs i n h = let e : n - i ≡ 0 = omega arith in rw e

pub one_left : {A : Type 0} (d : A) (xs : List A) (i n : ℕ) → i < n → entries d xs i (n - i) ≡ get_or xs i d ∷ entries d xs (i + 1) (n - (i + 1))
unfolding entries
one_left d xs i n h = let e : n - i ≡ suc (n - (i + 1)) = omega arith in rw e

pub many-left : {A : Type 0} (d : A) (xs : List A) (i n : ℕ) → length (entries d xs i n) ≡ n
unfolding entries
many-left d xs i zero = refl
many-left d xs i (suc n) = ap suc (many-left d xs (i + 1) n)

-- ---- at an axes grid

all-fault : (xs : List Float) → fault_of_all xs ≡ cond (all_in_unit xs) 0 5
unfolding fault_of_all all_in_unit
all-fault [] = refl
all-fault (x ∷ xs) = first (in_unit x) (all-fault xs)
  where
    first : (b : Bool) → fault_of_all xs ≡ cond (all_in_unit xs) 0 5 → cond (not b) 5 (fault_of_all xs) ≡ cond (b && all_in_unit xs) 0 5
    first true e = e
    first false e = refl

pub axes-form : (table : List ℕ) (reals : List Float) (counts : List ℕ) (w : ℕ) (path : List ℕ) (ws xs : List Float)
    → form_fault (get_or table (w + 2) 0) path ws xs ≡ fault_of (axes (axes_grid_at table reals counts w)) path ws xs
unfolding form_fault fault_of fault_of_axes axes_grid_at axes_place
axes-form table reals counts w (i ∷ path) ws xs = refl
axes-form table reals counts w [] ws xs = rw (length-axes (get_or table (w + 7) 0) reals counts (get_or table (w + 2) 0) (get_or table (w + 9) 0 + 14) (get_or table (w + 10) 0 + 7), all-fault xs)

-- ---- where nothing hangs

pub nothing-form : (path : List ℕ) (ws xs : List Float) → nothing_fault path ws xs ≡ fault_of_child nothing path ws xs
unfolding nothing_fault fault_of_child
nothing-form (i ∷ path) ws xs = refl
nothing-form [] (w ∷ ws) xs = refl
nothing-form [] [] (x ∷ xs) = refl
nothing-form [] [] [] = refl

pub link-none : (f : ℕ → Grid) (link : ℕ) (path : List ℕ) (ws xs : List Float) → link ≡ 0 → nothing_fault path ws xs ≡ fault_of_child (child_in f link) path ws xs
unfolding child_in
link-none f link path ws xs e = rw e (nothing-form path ws xs)

pub link-grid : (f : ℕ → Grid) (link : ℕ) (path : List ℕ) (ws xs : List Float) → (link ≡ 0 → ⊥) → fault_of (f link) path ws xs ≡ fault_of_child (child_in f link) path ws xs
unfolding child_in fault_of_child
link-grid f link path ws xs n = rw (ne_eqb link 0 n)

-- ---- at a bins grid

module _ (f : ℕ → Grid) (table : List ℕ) (reals : List Float) (counts : List ℕ) (w : ℕ) where
  bin-from : (n j i : ℕ) (path : List ℕ) (ws xs : List Float) → i < n → fault_of_bin (bins_in f table reals counts w j n) i path ws xs ≡ fault_of_child (child_in f (get_or table (w + 7 + (j + i)) 0)) path ws xs
  unfolding fault_of_bin bins_in
  bin-from zero j i path ws xs h = absurd (omega arith)
  bin-from (suc n) j zero path ws xs h = let e : j + 0 ≡ j = omega arith in rw e
  bin-from (suc n) j (suc i) path ws xs h = let e : j + suc i ≡ j + 1 + i = omega arith in rw e (bin-from n (j + 1) i path ws xs (omega arith))

  module _ (h : Head) (n : ℕ) where
    pub bins-none : (ws xs : List Float) → 4 ≡ fault_of (bins h (bins_in f table reals counts w 0 n)) [] ws xs
    unfolding fault_of
    bins-none ws xs = refl

    pub bins-past : (i : ℕ) (path : List ℕ) (ws xs : List Float) → n ≤ i → 6 ≡ fault_of (bins h (bins_in f table reals counts w 0 n)) (i ∷ path) ws xs
    unfolding fault_of
    bins-past i path [] xs k = rw (many-bins f table reals counts w 0 n, le-ltb i n k)
    bins-past i path (v ∷ ws) xs k = rw (many-bins f table reals counts w 0 n, le-ltb i n k)

    pub bins-bare : (i : ℕ) (path : List ℕ) (xs : List Float) → i < n → 4 ≡ fault_of (bins h (bins_in f table reals counts w 0 n)) (i ∷ path) [] xs
    unfolding fault_of
    bins-bare i path xs k = rw (many-bins f table reals counts w 0 n, lt-ltb i n k)

    pub bins-below : (i : ℕ) (path : List ℕ) (v : Float) (ws xs : List Float) → i < n
        → fault_of_child (child_in f (get_or table (w + 7 + i) 0)) path ws xs ≡ fault_of (bins h (bins_in f table reals counts w 0 n)) (i ∷ path) (v ∷ ws) xs
    unfolding fault_of
    bins-below i path v ws xs k =
        let e : 0 + i ≡ i = omega arith in
        rw (many-bins f table reals counts w 0 n, lt-ltb i n k) (sym (bin-from n 0 i path ws xs k ∙ ap (λ (j : ℕ). fault_of_child (child_in f (get_or table (w + 7 + j) 0)) path ws xs) e))

-- the same from the first entry on
pub some_first : {A : Type 0} (d : A) (xs : List A) (n : ℕ) → 0 < n → entries d xs 0 n ≡ get_or xs 0 d ∷ entries d xs 1 (n - 1)
unfolding entries
some_first d xs n h = let e : n ≡ suc (n - 1) = omega arith in ap (entries d xs 0) e

pub none_first : {A : Type 0} (d : A) (xs : List A) (n : ℕ) → n ≡ 0 → entries d xs 0 n ≡ []
unfolding entries
none_first d xs n e = rw e
