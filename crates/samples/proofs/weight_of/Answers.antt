-- The first weight that is given, or none.
use mathlib.Core.Path.{◌≡◌, refl}
use mathlib.Core.List.{List}
use Prim.Native.Nat.{ℕ, zero, suc}
use lib.ListN.{get_or}
use lib.Ieee.{Float, nan}
use Rattle.doubles.specs.Numbers.{one64}
use Rattle.model.specs.Draw.{weight_at}
use Rattle.lent.specs.Sampled.{entries, sample_of}
use native.Mathlib.Omega.{arith}
use Rattle.samples.proofs.weight_of.Goals as goal

no-weight : (ws : List Float) (n : ℕ) → n ≡ 0 → one64 ≡ weight_at (entries nan ws 0 n)
unfolding weight_at entries
no-weight ws n e = rw e

first-weight : (ws : List Float) (n : ℕ) → (n ≡ 0 → ⊥) → get_or ws 0 nan ≡ weight_at (entries nan ws 0 n)
unfolding weight_at entries
first-weight ws zero h = absurd (h refl)
first-weight ws (suc n) h = refl

pub returns-then-s-eq0 : goal.returns-then-s-eq0
unfolding sample_of
returns-then-s-eq0 c = no-weight c.args.s.weights c.args.s.given c.if-s-eq0.true

pub bounds-s-0 : goal.bounds-s-0
bounds-s-0 c = omega arith

pub returns : goal.returns
unfolding sample_of
returns c = first-weight c.args.s.weights c.args.s.given c.if-s-eq0.false
