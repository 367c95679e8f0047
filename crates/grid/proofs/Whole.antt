-- A drawn sample as the struct loses nothing: what the struct says is the model's sample, with its path, its weights and its coordinates.
use mathlib.Core.Path.{◌≡◌, sym, ap, ◌∙◌, subst}
use mathlib.Core.Logic.{inl, inr}
use mathlib.Core.List.{List}
use Prim.Native.Nat.{ℕ, zero, suc, ◌+◌, ◌-◌, ◌≤◌, ◌<◌}
use native.Mathlib.Omega.{arith}
use borrow.Author.Tests.{ne_eqb}
use lib.ListN.{length, get_or}
use lib.Ieee.{Float}
use Rattle.stream.specs.declared.MonteCarloRng.{MonteCarloRng}
use Rattle.stream.specs.Xoshiro.{step_of}
use Rattle.plan.proofs.Tables.{Words}
use Rattle.model.specs.Grid.{Grid, axes, bins}
use Rattle.model.proofs.Drawn.{placed-size}
use Rattle.model.specs.Draw.{placed_of, draw_axes, draw_nothing, draw_grid, draw_bin, draw_child}
use Rattle.lent.specs.Memory.{Memory}
use Rattle.lent.specs.Sampled.{sample_of, laid_drawing, Short}
use Rattle.lent.specs.Tree.{axes_place, axes_grid_at, head_at, child_in, bins_in, grid_at, AxesLaid, Laid}
use Rattle.lent.specs.State.{root_of, state_fault}
use Rattle.lent.proofs.Reading.{length-axes}
use Rattle.lent.proofs.Sounds.{node-axes, node-bins}
use Rattle.lent.proofs.Samples.{shorter}
use Rattle.lent.proofs.States.{clear}
use Rattle.lent.proofs.Drawable.{sample-back}

-- ---- as many coordinates as axes

axes-short : (table : List ℕ) (reals : List Float) (counts : List ℕ) (R C w : ℕ) → AxesLaid table R C w → (s : MonteCarloRng) → Short 0 (draw_grid (axes (axes_grid_at table reals counts w)) s).sample
unfolding draw_grid draw_axes placed_of axes_grid_at axes_place
axes-short table reals counts R C w a s =
    let n = length-axes (get_or table (w + 7) 0) reals counts (get_or table (w + 2) 0) (get_or table (w + 9) 0 + 14) (get_or table (w + 10) 0 + 7) in
    let g = axes_grid_at table reals counts w in
    let many = placed-size g.plan.floor g.axes s in
    record { levels = omega arith; given = omega arith; axes = omega (arith, many, n, a.axes) }

-- ---- below a bins grid

nothing-short : (l : ℕ) (s : MonteCarloRng) → Short l (draw_nothing s).sample
unfolding draw_nothing
nothing-short l s = record { levels = omega arith; given = omega arith; axes = omega arith }

module _ (l : ℕ) (f : ℕ → Grid) (table : List ℕ) (reals : List Float) (counts : List ℕ) (w : ℕ) where
  -- what hangs at each of n links draws short samples
  Hung : ℕ → ℕ → Type 0
  Hung j n = (q : ℕ) → j ≤ q → q < j + n → (get_or table (w + 7 + q) 0 ≡ 0 → ⊥) → (s : MonteCarloRng) → Short l (draw_grid (f (get_or table (w + 7 + q) 0)) s).sample

  child-short : (link : ℕ) → ((link ≡ 0 → ⊥) → (s : MonteCarloRng) → Short l (draw_grid (f link) s).sample) → (s : MonteCarloRng) → Short l (draw_child (child_in f link) s).sample
  unfolding child_in draw_child
  child-short zero h s = nothing-short l s
  child-short (suc n) h s = let z : suc n ≡ 0 → ⊥ = λ e. absurd (omega (arith, e)) in rw (ne_eqb (suc n) 0 z) (h z s)

  bin-short : (n j i k : ℕ) (s : MonteCarloRng) → Hung j n → Short (suc l) (draw_bin (bins_in f table reals counts w j n) i k s).sample
  unfolding draw_bin bins_in Hung
  bin-short zero j i k s h = nothing-short (suc l) s
  bin-short (suc n) j zero k s h =
      let c = child-short (get_or table (w + 7 + j) 0) (h j (omega arith) (omega arith)) s in
      record { levels = omega (arith, c.levels); given = omega (arith, c.given); axes = c.axes }
  bin-short (suc n) j (suc i) k s h = bin-short n (j + 1) i k s (λ q x y. h q (omega arith) (omega arith))

draw-short : (l : ℕ) (table : List ℕ) (reals : List Float) (counts : List ℕ) (R C w : ℕ) → Laid l table R C w → (s : MonteCarloRng) → Short l (draw_grid (grid_at l table reals counts w) s).sample
unfolding Laid draw_grid Hung
draw-short zero table reals counts R C w a s = subst (λ (g : Grid). Short 0 (draw_grid g s).sample) (sym (node-axes zero table reals counts w a.kind)) (axes-short table reals counts R C w a s)
draw-short (suc l) table reals counts R C w (inl a) s =
    subst (λ (g : Grid). Short (suc l) (draw_grid g s).sample) (sym (node-axes (suc l) table reals counts w a.kind)) (shorter 0 (suc l) _ (omega arith) (axes-short table reals counts R C w a s))
draw-short (suc l) table reals counts R C w (inr b) s =
    let z : get_or table w 0 ≡ 1 → ⊥ = λ e. absurd (omega (arith, b.kind, e)) in
    let same : suc l - 1 ≡ l = omega arith in
    let hung : Hung l (grid_at l table reals counts) table reals counts w 0 (get_or table (w + 2) 0) = λ q x y n t. draw-short l table reals counts R C (get_or table (w + 7 + q) 0) (b.children q (omega arith) n) t in
    subst (λ (g : Grid). Short (suc l) (draw_grid g s).sample)
    (sym (node-bins (suc l) table reals counts w z (omega arith) ∙ ap (λ (n : ℕ). bins (head_at table reals counts w) (bins_in (grid_at n table reals counts) table reals counts w 0 (get_or table (w + 2) 0))) same))
    (bin-short l (grid_at l table reals counts) table reals counts w (get_or table (w + 2) 0) 0 _ _ (step_of s) hung)

-- of a state that nothing stands against, what a draw gives as the struct is what the model draws
pub draw-whole : (table : List ℕ) (m : Memory) (s : MonteCarloRng) → Words table → state_fault table m.reals m.counts ≡ 0
    → sample_of (laid_drawing (draw_grid (root_of table m.reals m.counts) s)).sample ≡ (draw_grid (root_of table m.reals m.counts) s).sample
unfolding laid_drawing
draw-whole table m s large f =
    sample-back _ (draw-short 4 table m.reals m.counts (length m.reals) (length m.counts) 0 (clear table m.reals m.counts large f).laid s)
