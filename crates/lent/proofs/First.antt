-- Axes that stand in lent memory, one by one: the first of them lies within it, and those after it stand there too.
use mathlib.Core.Path.{◌≡◌, sym, ap, subst}
use mathlib.Core.Bool.{true}
use mathlib.Core.List.{List, ◌∷◌}
use Prim.Native.Nat.{ℕ, suc, ◌+◌, ◌-◌, ◌*◌, ◌≤◌, ◌<◌}
use native.Mathlib.Omega.{arith}
use lib.ListN.{length, get_or}
use lib.Ieee.{Float}
use Rattle.axis.specs.Edges.{well_formed}
use Rattle.lent.specs.declared.AxesAt.{AxesAt}
use Rattle.lent.specs.Layout.{stretch, axis_reals, axis_counts, axis_at, axes_from}
use Rattle.lent.specs.Drawn.{Standing, Stands, axes_at}
use Rattle.lent.specs.Onward.{onward}
use Rattle.lent.specs.Memory.{Memory}
use Rattle.lent.proofs.Same.{Same, same-on, same-within}
use Rattle.lent.proofs.Over.{Apart}
use Rattle.lent.proofs.Standing.{begins}

module _ (reals : List Float) (counts : List ℕ) where
  pub record First (g : AxesAt) : Type 0 where
    pub few : g.most ≤ 1024
    pub held : get_or counts g.counts 0 ≤ g.most
    pub edges : well_formed (stretch g.reals (get_or counts g.counts 0 + 1) reals) ≡ true
    pub room : g.reals + (6 * g.most + 1) ≤ length reals
    pub places : g.counts + (3 * g.most + 2) ≤ length counts
    pub rest : Stands reals counts (onward g)

  pub first : (g : AxesAt) → 0 < g.axes → Stands reals counts g → First g
  unfolding Standing axis_reals axis_counts onward
  first g h s =
      let e : g.axes ≡ suc (g.axes - 1) = omega arith in
      let t = subst (λ (n : ℕ). Standing g.most reals counts n g.reals g.counts) e s.2 in
      let b = begins g.most reals counts (g.axes - 1) (g.reals + (6 * g.most + 1)) (g.counts + (3 * g.most + 2)) t.2 in
      record {
        few = s.1;
        held = t.0;
        edges = t.1;
        room = b.0;
        places = b.1;
        rest = (omega (arith, s.0), s.1, t.2);
      }

  -- the first axis apart
  pub first-apart : (g : AxesAt) → 0 < g.axes → axes_at reals counts g ≡ axis_at g.most reals counts g.reals g.counts ∷ axes_at reals counts (onward g)
  unfolding axes_from onward
  first-apart g h =
      let e : g.axes ≡ suc (g.axes - 1) = omega arith in
      ap (λ (n : ℕ). axes_from g.most reals counts n g.reals g.counts) e

  -- the same of what the code makes of them
  pub stands_on : (g o : AxesAt) → 0 < g.axes → Stands reals counts g → o ≡ onward g → Stands reals counts o
  stands_on g o h s e = subst (λ (a : AxesAt). Stands reals counts a) (sym e) (first g h s).rest

pub one_less : (g o : AxesAt) → o ≡ onward g → o.axes ≡ g.axes - 1
unfolding onward
one_less g o e = ap (λ (a : AxesAt). a.axes) e

-- after a step that keeps to the first axis: the counts from the next one on stay, and so does how many reals there are
pub counts-left : (g g' : AxesAt) (hi : ℕ) (s t : Memory) (zs : List ℕ) → g' ≡ onward g → Apart g.most g.reals g.counts t s
    → Same 0 g.counts hi s.counts zs → Same 0 g'.counts hi t.counts zs
unfolding onward axis_counts
counts-left g g' hi s t zs e a h =
    let lo : g'.counts ≡ g.counts + (3 * g.most + 2) = ap (λ (x : AxesAt). x.counts) e in
    same-on 0 g'.counts hi t.counts s.counts zs (a.counts-above g'.counts hi (omega (arith, lo)))
    (same-within 0 g.counts hi g'.counts hi s.counts zs (omega (arith, lo)) (omega arith) h)

pub reals-left : (m r c : ℕ) (s t : Memory) → Apart m r c t s → length t.reals ≡ length s.reals
reals-left m r c s t a = (a.reals-below 0 0 (omega arith)).size
