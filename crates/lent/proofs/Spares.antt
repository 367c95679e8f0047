-- The update as a call: what the spare came to, and the state's front with it.
use mathlib.Core.Path.{◌≡◌, sym, ap, ap₂, ◌∙◌}
use mathlib.Core.Bool.{Bool, true, false, ◌&&◌}
use mathlib.Core.List.{List, ◌++◌}
use Prim.Native.Nat.{ℕ, ◌-◌}
use native.Mathlib.Omega.{arith}
use lib.ListN.{length, take, drop}
use lib.Ieee.{Float}
use Rattle.doubles.proofs.Truth.{passed}
use Rattle.plan.specs.declared.Needs.{Needs}
use Rattle.std.specs.Prelude.{Result, Ok, Err}
use Rattle.doubles.specs.declared.refusal.Refusal.{Refusal}
use Rattle.plan.specs.Paper.{paper_sized}
use Rattle.plan.specs.Paper as plan
use Rattle.plan.specs.Calls.{sizes_of}
use Rattle.plan.proofs.Tables.{Words}
use Rattle.model.specs.Update.{rate_fits}
use Rattle.lent.specs.declared.Found.{Found}
use Rattle.lent.specs.Memory.{Memory, memory}
use Rattle.lent.specs.Tree.{Laid}
use Rattle.lent.specs.State.{judged_to}
use Rattle.lent.specs.Renewed.{found}
use Rattle.lent.specs.Adapted.{updated_in}
use Rattle.lent.specs.Calls.{StateEnd, state_end, renewed_over, front_of, in_front, updated_by, update_by, update_of}
use Rattle.lent.proofs.Laid.{root-laid}
use Rattle.lent.proofs.Lays.{front_length}
use Rattle.lent.proofs.Clones.{Ready}

-- ---- on the spare

module _ (table : List ℕ) (bins_rate axes_rate : Float) (s t u : Memory) (f : Found) (copied : t ≡ s) (worked : found f u ≡ updated_in 4 table bins_rate axes_rate 0 t) where
  there : updated_in 4 table bins_rate axes_rate 0 s ≡ found f u
  there = ap (updated_in 4 table bins_rate axes_rate 0) (sym copied) ∙ sym worked

  pub over-eight : f.eight ≡ true → state_end 8 s ≡ renewed_over table bins_rate axes_rate s
  unfolding renewed_over
  over-eight e = rw (there, e)

  pub over-nine : f.eight ≡ false → f.nine ≡ true → state_end 9 s ≡ renewed_over table bins_rate axes_rate s
  unfolding renewed_over
  over-nine e n = rw (there, e, n)

  pub over_done : (v : Memory) → f.eight ≡ false → f.nine ≡ false → v ≡ u → state_end 0 v ≡ renewed_over table bins_rate axes_rate s
  unfolding renewed_over
  over_done v e n h = rw (there, e, n, h)

-- ---- in the state's front

front-back : {A : Type 0} (n : ℕ) (ys xs : List A) → take 0 xs ++ (ys ++ drop (n - 0) (drop 0 xs)) ≡ ys ++ drop n xs
front-back n ys xs = let e : n - 0 ≡ n = omega arith in rw e

front-taken : {A : Type 0} (n : ℕ) (xs : List A) → take (n - 0) (drop 0 xs) ≡ take n xs
front-taken n xs = let e : n - 0 ≡ n = omega arith in rw e

module _ (table : List ℕ) (bins_rate axes_rate : Float) (s to : Memory) (n : Needs) (fault : ℕ)
    (judged : fault ≡ judged_to table s.reals s.counts (length to.reals) (length to.counts) n) where
  module _ (z : fault ≡ 0) (a b : Bool) (e : a ≡ rate_fits bins_rate) (f : b ≡ rate_fits axes_rate) where
    both-fit : (a && b) ≡ (rate_fits bins_rate && rate_fits axes_rate)
    both-fit = ap₂ ◌&&◌ e f

    pub update-made : (k : ℕ) (ys : List Float) (zs : List ℕ) → (a && b) ≡ true
        → state_end k (memory ys zs) ≡ renewed_over table bins_rate axes_rate (memory (take (n.reals - 0) (drop 0 s.reals)) (take (n.counts - 0) (drop 0 s.counts)))
        → state_end k (memory (take 0 s.reals ++ (ys ++ drop (n.reals - 0) (drop 0 s.reals))) (take 0 s.counts ++ (zs ++ drop (n.counts - 0) (drop 0 s.counts))))
        ≡ updated_by table bins_rate axes_rate (length to.reals) (length to.counts) s n
    unfolding updated_by front_of in_front
    update-made k ys zs h w =
        let o : state_end k (memory ys zs) ≡ renewed_over table bins_rate axes_rate (memory (take n.reals s.reals) (take n.counts s.counts)) =
        w ∙ ap₂ (λ (x : List Float) (y : List ℕ). renewed_over table bins_rate axes_rate (memory x y)) (front-taken n.reals s.reals) (front-taken n.counts s.counts) in
        rw (sym judged, z, passed both-fit h, front-back n.reals ys s.reals, front-back n.counts zs s.counts, sym o)

-- the parts are of one size, and the plan's grid lies in them
pub front-ready : (table : List ℕ) (s to : Memory) (n : Needs) → Words table → sizes_of table ≡ plan.gives n → Ready table s to n
    → (length (take (n.reals - 0) (drop 0 to.reals)) ≡ length (take (n.reals - 0) (drop 0 s.reals))) × (length (take (n.counts - 0) (drop 0 to.counts)) ≡ length (take (n.counts - 0) (drop 0 s.counts)))
    × Laid 4 table (length (take (n.reals - 0) (drop 0 s.reals))) (length (take (n.counts - 0) (drop 0 s.counts))) 0
front-ready table s to n large planned r =
    let x = front_length n.reals s.reals r.reals in
    let y = front_length n.counts s.counts r.counts in (
      front_length n.reals to.reals r.places ∙ sym x,
      front_length n.counts to.counts r.tallies ∙ sym y,
      root-laid table n _ _ large planned (omega arith) (omega arith),
    )

pub update-planned : (table : List ℕ) (bins_rate axes_rate : Float) (R C : ℕ) (s : Memory) (r : Result Needs Refusal) (n : Needs) (e : StateEnd) → paper_sized r ≡ sizes_of table → Ok n ≡ r
    → e ≡ updated_by table bins_rate axes_rate R C s n → e ≡ update_of table bins_rate axes_rate R C s
unfolding update_of
update-planned table bins_rate axes_rate R C s r n e p q j = j ∙ ap (λ (o : plan.Paper Needs). update_by table bins_rate axes_rate R C s o) (ap paper_sized q ∙ p)

pub update-strayed : (table : List ℕ) (bins_rate axes_rate : Float) (R C : ℕ) (s : Memory) (r : Result Needs Refusal) (n : Refusal) → paper_sized r ≡ sizes_of table → Err n ≡ r
    → state_end 12 s ≡ update_of table bins_rate axes_rate R C s
unfolding update_of
update-strayed table bins_rate axes_rate R C s r n p q = ap (λ (o : plan.Paper Needs). update_by table bins_rate axes_rate R C s o) (ap paper_sized q ∙ p)
