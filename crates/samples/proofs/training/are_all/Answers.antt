-- What is left to scan, with what was found before.
use mathlib.Core.Path.{◌≡◌, refl, sym, ap, ◌∙◌}
use mathlib.Core.Bool.{Bool, ◌&&◌}
use Prim.Native.Nat.{ℕ, ◌+◌, ◌-◌}
use native.Mathlib.Omega.{arith}
use lib.Ieee.{nan}
use Rattle.lent.specs.Sampled.{entries}
use Rattle.lent.proofs.Trains.{scan-on, scan-out}
use Rattle.samples.proofs.training.are_all.Goals as goal

pub loop-i-init : goal.loop-i-init
loop-i-init g c = (omega arith, λ t told all none more. refl)

pub loop-i-preserved : goal.loop-i-preserved
loop-i-preserved g c = (
  omega (arith, c.loop-i-test.true),
  λ t told all none more.
      ap (λ (b : Bool). (c.loop-i.ok && b) && all (entries nan c.args.xs.now (c.loop-i.i + 1) (c.args.n - (c.loop-i.i + 1)))) (told _ _ c.test-ok.ensures)
      ∙ (scan-on t all none more c.args.xs.now c.loop-i.i c.args.n c.loop-i.ok c.loop-i-test.true ∙ c.loop-i.invariant.1 t told all none more),
)

pub returns : goal.returns
returns g c t told all none more = let e : c.args.n - 0 ≡ c.args.n = omega arith in
    sym (scan-out t all none more c.args.xs.now c.loop-i.i c.args.n c.loop-i.ok c.loop-i-test.false) ∙ c.loop-i.invariant.1 t told all none more ∙ ap (λ (k : ℕ). all (entries nan c.args.xs.now 0 k)) e
