-- The walk over children as the code takes it: the whole's answer is the rest's.
use mathlib.Core.Path.{◌≡◌, refl, sym, ◌∙◌}
use Prim.Native.Nat.{ℕ, suc, ◌+◌, ◌-◌, ◌≤◌, ◌<◌}
use native.Mathlib.Omega.{arith}
use Rattle.plan.specs.declared.Place.{Place}
use Rattle.plan.specs.declared.BinsPlan.{BinsPlan}
use Rattle.plan.specs.Judged.{Stop, Found}
use Rattle.plan.specs.Plan.{Tree}
use Rattle.plan.specs.Reading.{Out, Outs, cons_to, then, bins_to, trees_of, step_of, steps_of}

pub stopped-done : {P : Type 0} {n at : ℕ} {q : Place} → Stop n at ≡ Found q → P
stopped-done e = let z : ◌≡◌ {A = ℕ} 0 1 = cc in absurd (omega arith)

-- a step that is done has read something
pub record Some (o : Out) (q : Place) : Type 0 where
  pub tree : Tree
  pub read : o ≡ Out.reads tree q

pub some : (o : Out) (q : Place) → Found q ≡ step_of o → Some o q
some (Out.stops n at) q e = stopped-done (sym e)
some (Out.reads t r) q e = let w : r ≡ q = cc in record { tree = t; read = rw w }

pub stopped : (o : Out) (n at : ℕ) → Stop n at ≡ step_of o → o ≡ Out.stops n at
stopped (Out.stops m b) n at e = cc
stopped (Out.reads t r) n at e = stopped-done e

steps-cons : (t : Tree) (o : Outs) → steps_of (cons_to t o) ≡ steps_of o
steps-cons t (Outs.stops n at) = refl
steps-cons t (Outs.reads ts q) = refl

steps-more : (o : Out) (k : Place → Outs) (q : Place) → Found q ≡ step_of o → steps_of (then o k) ≡ steps_of (k q)
steps-more (Out.stops n at) k q e = stopped-done (sym e)
steps-more (Out.reads t r) k q e = let w : q ≡ r = cc in rw w (steps-cons t (k r))

steps-stop : (o : Out) (k : Place → Outs) (n at : ℕ) → Stop n at ≡ step_of o → Stop n at ≡ steps_of (then o k)
steps-stop (Out.stops m b) k n at e = e
steps-stop (Out.reads t r) k n at e = stopped-done e

pub step-bins : (b : BinsPlan) (o : Outs) → step_of (bins_to b o) ≡ steps_of o
step-bins b (Outs.stops n at) = refl
step-bins b (Outs.reads ts q) = refl

-- the loop stands at the child i: those before it were read
pub record Walked (f : ℕ → Place → Out) (s n : ℕ) (start here : Place) (i : ℕ) : Type 0 where
  pub low : i ≤ n
  pub rest : steps_of (trees_of f s n start) ≡ steps_of (trees_of f (s + i) (n - i) here)

module _ {f : ℕ → Place → Out} {s n : ℕ} {start here : Place} {i : ℕ} (v : Walked f s n start here i) where
  pub walked_all : n ≤ i → Found here ≡ steps_of (trees_of f s n start)
  unfolding trees_of
  walked_all h = let e : n - i ≡ 0 = omega arith in rw (v.rest, e)

  module _ (h : i < n) where
    one : trees_of f (s + i) (n - i) here ≡ then (f (s + i) here) (λ q. trees_of f (s + (i + 1)) (n - (i + 1)) q)
    unfolding trees_of
    one = let e : n - i ≡ suc (n - (i + 1)) = omega arith in let d : s + (i + 1) ≡ s + i + 1 = omega arith in rw (e, d)

    pub walked_next : (q : Place) → Found q ≡ step_of (f (s + i) here) → Walked f s n start q (i + 1)
    walked_next q e = record { low = omega arith; rest = v.rest ∙ rw one (steps-more (f (s + i) here) _ q e) }

    pub walked_stop : (m at : ℕ) → Stop m at ≡ step_of (f (s + i) here) → Stop m at ≡ steps_of (trees_of f s n start)
    walked_stop m at e = rw (v.rest, one) (steps-stop (f (s + i) here) _ m at e)
