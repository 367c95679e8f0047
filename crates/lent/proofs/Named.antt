-- The bin that a path names: at each level what the definition answers, as the code branches.
use mathlib.Core.Path.{◌≡◌, refl, sym, ap, ◌∙◌}
use mathlib.Core.Bool.{cond}
use mathlib.Core.List.{List, [], ◌∷◌}
use Prim.Native.Nat.{ℕ, zero, suc, ◌+◌, ◌-◌, ◌≤◌, ◌<◌}
use native.Mathlib.Omega.{arith}
use borrow.Author.Tests.{lt-ltb, le-ltb, ne_eqb}
use lib.Dec.{ltb}
use lib.ListN.{get_or}
use lib.Ieee.{Float}
use Rattle.doubles.specs.Paper.{Paper, gives, refuses}
use Rattle.accumulator.specs.declared.StatisticsAccumulator.{StatisticsAccumulator}
use Rattle.accumulator.specs.declared.Estimate.{Estimate}
use Rattle.accumulator.specs.Calls.{live_estimate_of}
use Rattle.model.specs.Grid.{Grid, Child, bins, nothing, grid}
use Rattle.lent.specs.Tree.{head_at, bin_in, child_in, bins_in, grid_at}
use Rattle.lent.specs.Sampled.{entries}
use Rattle.lent.specs.Bins.{bin_along, bin_named, bin_over, estimate_by, estimate_along}
use Rattle.lent.proofs.Paths.{many-bins}
use Rattle.lent.proofs.Fitting.{none_left, one_left}
use Rattle.lent.proofs.Sounds.{node-axes, node-bins}

-- ---- what hangs at a bin

over-end : (c : Child) (a : StatisticsAccumulator) → bin_over c a [] ≡ gives a
unfolding bin_over
over-end nothing a = refl
over-end (grid g) a = refl

over-missing : (f : ℕ → Grid) (link : ℕ) (a : StatisticsAccumulator) (i : ℕ) (path : List ℕ) → link ≡ 0 → bin_over (child_in f link) a (i ∷ path) ≡ refuses 4
unfolding bin_over child_in
over-missing f link a i path e = rw e

over-grid : (f : ℕ → Grid) (link : ℕ) (a : StatisticsAccumulator) (i : ℕ) (path : List ℕ) → (link ≡ 0 → ⊥) → bin_over (child_in f link) a (i ∷ path) ≡ bin_along (f link) (i ∷ path)
unfolding bin_over child_in
over-grid f link a i path n = rw (ne_eqb link 0 n)

module _ (f : ℕ → Grid) (table : List ℕ) (reals : List Float) (counts : List ℕ) (w : ℕ) where
  named-from : (n j i : ℕ) (path : List ℕ) → i < n
      → bin_named (bins_in f table reals counts w j n) i path ≡ bin_over (child_in f (get_or table (w + 7 + (j + i)) 0)) (bin_in table reals counts w (j + i)).own path
  unfolding bin_named bins_in
  named-from zero j i path h = absurd (omega arith)
  named-from (suc n) j zero path h = let e : j + 0 ≡ j = omega arith in rw e
  named-from (suc n) j (suc i) path h = let e : j + suc i ≡ j + 1 + i = omega arith in rw e (named-from n (j + 1) i path (omega arith))

  named : (n i : ℕ) (path : List ℕ) → i < n
      → bin_named (bins_in f table reals counts w 0 n) i path ≡ bin_over (child_in f (get_or table (w + 7 + i) 0)) (bin_in table reals counts w i).own path
  named n i path h =
      let e : 0 + i ≡ i = omega arith in
      named-from n 0 i path h ∙ ap (λ (k : ℕ). bin_over (child_in f (get_or table (w + 7 + k) 0)) (bin_in table reals counts w k).own path) e

-- ---- the grid at a word

module _ (l : ℕ) (table : List ℕ) (reals : List Float) (counts : List ℕ) (w : ℕ) (path : List ℕ) (levels depth : ℕ) where
  -- what is answered from here on
  abbrev pub answer : Paper Estimate
  answer = estimate_along (grid_at l table reals counts w) (entries 0 path depth (levels - depth))

  abbrev bin : ℕ
  bin = get_or path depth 0

  pub axes-none : get_or table w 0 ≡ 1 → refuses 4 ≡ answer
  unfolding estimate_along estimate_by bin_along
  axes-none e = sym (ap (λ (g : Grid). estimate_along g (entries 0 path depth (levels - depth))) (node-axes l table reals counts w e))

  module _ (other : get_or table w 0 ≡ 1 → ⊥) (deep : 1 ≤ l) where
    abbrev held : Grid
    held = bins (head_at table reals counts w) (bins_in (grid_at (l - 1) table reals counts) table reals counts w 0 (get_or table (w + 2) 0))

    is_held : (is : List ℕ) → entries 0 path depth (levels - depth) ≡ is → answer ≡ estimate_by (bin_along held is)
    unfolding estimate_along
    is_held is e = ap (λ (g : Grid). estimate_by (bin_along g (entries 0 path depth (levels - depth)))) (node-bins l table reals counts w other deep) ∙ ap (λ (js : List ℕ). estimate_by (bin_along held js)) e

    pub path-ended : levels ≤ depth → refuses 4 ≡ answer
    unfolding estimate_by bin_along
    path-ended h = sym (is_held [] (none_left 0 path depth levels h))

    module _ (on : depth < levels) where
      at-bin : answer ≡ estimate_by (cond (ltb bin (get_or table (w + 2) 0)) (bin_named (bins_in (grid_at (l - 1) table reals counts) table reals counts w 0 (get_or table (w + 2) 0)) bin (entries 0 path (depth + 1) (levels - (depth + 1)))) (refuses 6))
      unfolding bin_along
      at-bin =
          is_held _ (one_left 0 path depth levels on)
          ∙ ap (λ (k : ℕ). estimate_by (cond (ltb bin k) (bin_named (bins_in (grid_at (l - 1) table reals counts) table reals counts w 0 (get_or table (w + 2) 0)) bin (entries 0 path (depth + 1) (levels - (depth + 1)))) (refuses 6)))
          (many-bins (grid_at (l - 1) table reals counts) table reals counts w 0 (get_or table (w + 2) 0))

      pub bin-past : get_or table (w + 2) 0 ≤ bin → refuses 6 ≡ answer
      unfolding estimate_by
      bin-past h = sym (at-bin ∙ rw (le-ltb bin (get_or table (w + 2) 0) h))

      module _ (there : bin < get_or table (w + 2) 0) where
        through-bin : (is : List ℕ) → entries 0 path (depth + 1) (levels - (depth + 1)) ≡ is
            → answer ≡ estimate_by (bin_over (child_in (grid_at (l - 1) table reals counts) (get_or table (w + 7 + bin) 0)) (bin_in table reals counts w bin).own is)
        through-bin is e =
            at-bin ∙ rw (lt-ltb bin (get_or table (w + 2) 0) there, e) (ap estimate_by (named (grid_at (l - 1) table reals counts) table reals counts w (get_or table (w + 2) 0) bin is there))

        pub bin-here : levels ≡ depth + 1 → live_estimate_of (bin_in table reals counts w bin).own ≡ answer
        unfolding estimate_by
        bin-here e = sym (through-bin [] (none_left 0 path (depth + 1) levels (omega arith)) ∙ ap estimate_by (over-end _ _))

        module _ (further : levels ≡ depth + 1 → ⊥) where
          goes_on : entries 0 path (depth + 1) (levels - (depth + 1)) ≡ get_or path (depth + 1) 0 ∷ entries 0 path (depth + 1 + 1) (levels - (depth + 1 + 1))
          goes_on = let h : depth + 1 < levels = omega (arith, on, further) in one_left 0 path (depth + 1) levels h

          pub bin-bare : get_or table (w + 7 + bin) 0 ≡ 0 → refuses 4 ≡ answer
          unfolding estimate_by
          bin-bare z = sym (through-bin _ goes_on ∙ ap estimate_by (over-missing (grid_at (l - 1) table reals counts) (get_or table (w + 7 + bin) 0) _ _ _ z))

          pub bin-deeper : (get_or table (w + 7 + bin) 0 ≡ 0 → ⊥)
              → estimate_along (grid_at (l - 1) table reals counts (get_or table (w + 7 + bin) 0)) (entries 0 path (depth + 1) (levels - (depth + 1))) ≡ answer
          unfolding estimate_along
          bin-deeper n =
              ap (λ (js : List ℕ). estimate_by (bin_along (grid_at (l - 1) table reals counts (get_or table (w + 7 + bin) 0)) js)) goes_on
              ∙ sym (through-bin _ goes_on ∙ ap estimate_by (over-grid (grid_at (l - 1) table reals counts) (get_or table (w + 7 + bin) 0) _ _ _ n))
