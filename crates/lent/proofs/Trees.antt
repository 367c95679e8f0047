-- A plan's trees: whether one is there, and what its grids take of the lent memory.
use mathlib.Core.Path.{◌≡◌, refl, sym, ap}
use mathlib.Core.Bool.{Bool, true, false, false≢true}
use mathlib.Core.List.{List}
use Prim.Native.Nat.{ℕ, ◌+◌, ◌*◌}
use Rattle.plan.specs.declared.Tally.{Tally}
use Rattle.plan.specs.declared.AxesPlan.{AxesPlan}
use Rattle.plan.specs.declared.BinsPlan.{BinsPlan}
use Rattle.plan.specs.Plan.{Tree, Trees, nothing, axes, bins, none, more}
use Rattle.plan.specs.Needs.{bins_reals, bins_counts, bins_taken, after, before}
use Rattle.plan.proofs.Records.{Upto, upto_all}

-- whether a tree is there
unfoldable present : Tree → Bool
present nothing = false
present (axes a es) = true
present (bins b ts) = true

pub axes-differ : (a : AxesPlan) (es : List ℕ) → axes a es ≡ nothing → ⊥
unfolding present
axes-differ a es e = absurd (false≢true (sym (ap present e)))

pub bins-differ : (b : BinsPlan) (ts : Trees) → bins b ts ≡ nothing → ⊥
unfolding present
bins-differ b ts e = absurd (false≢true (sym (ap present e)))

pub before-none : (ts : Trees) (y : Tally) → y ≡ before ts 0 y
unfolding before
before-none none y = refl
before-none (more t ts) y = refl

pub taken-reals : (b : BinsPlan) (y : Tally) → (bins_taken b y).reals ≡ y.reals + (14 + 15 * b.bins)
unfolding bins_taken bins_reals
taken-reals b y = refl

pub taken-counts : (b : BinsPlan) (y : Tally) → (bins_taken b y).counts ≡ y.counts + (7 + 7 * b.bins)
unfolding bins_taken bins_counts
taken-counts b y = refl

pub below : (b : BinsPlan) (ts : Trees) (y : Tally) → Upto (bins_taken b y) (after (bins b ts) y)
unfolding after
below b ts y = upto_all ts (bins_taken b y)
