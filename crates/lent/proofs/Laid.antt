-- What lies in a table that passed: the whole plan's grids, each within the lent memory that the plan needs and past the grid above it.
use mathlib.Core.Path.{◌≡◌, refl, sym, ap, ◌∙◌, subst}
use mathlib.Core.Logic.{◌≢◌, inl, inr}
use mathlib.Core.Bool.{Bool, true, false, cond}
use mathlib.Core.List.{List, [], ◌∷◌}
use Prim.Native.Nat.{ℕ, zero, suc, ◌+◌, ◌-◌, ◌≤◌, ◌<◌}
use native.Mathlib.Omega.{arith}
use borrow.Author.Tests.{leb-true, ltb-true, ltb-false}
use lib.Dec.{leb, ltb}
use lib.ListN.{length, get_or}
use Rattle.doubles.proofs.Truth.{both}
use Rattle.plan.specs.declared.Tally.{Tally}
use Rattle.plan.specs.declared.Needs.{Needs}
use Rattle.plan.specs.declared.AxesPlan.{AxesPlan}
use Rattle.plan.specs.declared.BinsPlan.{BinsPlan}
use Rattle.plan.specs.Ranges.{within, larger, bounded, most_of, floor_fits, ratio_fits}
use Rattle.plan.specs.Plan.{Tree, Trees, nothing, axes, bins}
use Rattle.plan.specs.Needs.{axes_reals, axes_counts, bins_reals, bins_counts, axes_taken, bins_taken, after, child_at, before, untaken, needs_of}
use Rattle.plan.specs.Table.{link}
use Rattle.plan.specs.Walk.{axes_row, bins_row}
use Rattle.plan.specs.Paper.{gives}
use Rattle.plan.specs.Calls.{sizes_of}
use Rattle.plan.proofs.Tables.{Words}
use Rattle.plan.proofs.Records.{Stands, axes-record, bins-record, upto_all, child-record, passed-stands, grid-link, words-at}
use Rattle.lent.specs.Tree.{reals_from, counts_from, AxesLaid, BinsLaid, Laid}

-- a number within bounds lies between them
in_bounds : (lo hi n : ℕ) → within lo hi n ≡ true → (lo ≤ n) × (n ≤ hi)
unfolding within
in_bounds lo hi n e = let b = both (leb lo n) (leb n hi) e in (leb-true lo n b.0, leb-true n hi b.1)

-- the largest is at least each
larger-least : (m v : ℕ) → (m ≤ larger m v) × (v ≤ larger m v)
unfolding larger
larger-least m v = pick (ltb m v) refl
  where
    pick : (b : Bool) → ltb m v ≡ b → (m ≤ cond b v m) × (v ≤ cond b v m)
    pick true e = let h = ltb-true m v e in (omega arith, omega arith)
    pick false e = let h = ltb-false m v e in (omega arith, omega arith)

most-least : (m : ℕ) (vs : List ℕ) → m ≤ most_of m vs
unfolding most_of
most-least m [] = omega arith
most-least m (v ∷ vs) = let h = larger-least m v in let k = most-least (larger m v) vs in omega arith

most-each : (m : ℕ) (vs : List ℕ) (i : ℕ) → i < length vs → get_or vs i 0 ≤ most_of m vs
unfolding most_of
most-each m [] i h = absurd (omega arith)
most-each m (v ∷ vs) zero h = let a = larger-least m v in let k = most-least (larger m v) vs in omega arith
most-each m (v ∷ vs) (suc i) h = most-each (larger m v) vs i (omega arith)

larger-bounded : (m v : ℕ) → m ≤ 1024 → v ≤ 1024 → larger m v ≤ 1024
unfolding larger
larger-bounded m v h k = pick (ltb m v)
  where
    pick : (b : Bool) → cond b v m ≤ 1024
    pick true = k
    pick false = h

most-bounded : (m : ℕ) (vs : List ℕ) → m ≤ 1024 → bounded vs ≡ true → most_of m vs ≤ 1024
unfolding most_of bounded
most-bounded m [] h e = h
most-bounded m (v ∷ vs) h e =
    let b = both (within 1 1024 v) (bounded vs) e in
    most-bounded (larger m v) vs (larger-bounded m v h (in_bounds 1 1024 v b.0).1) b.1

each-bounded : (vs : List ℕ) (i : ℕ) → i < length vs → bounded vs ≡ true → 1 ≤ get_or vs i 0
unfolding bounded
each-bounded [] i h e = absurd (omega arith)
each-bounded (v ∷ vs) zero h e = (in_bounds 1 1024 v (both (within 1 1024 v) (bounded vs) e).0).0
each-bounded (v ∷ vs) (suc i) h e = each-bounded vs i (omega arith) (both (within 1 1024 v) (bounded vs) e).1

-- ---- where a run's stretches begin

module _ (table : List ℕ) (w : ℕ) where
  pub axes-from : get_or table w 0 ≡ 1 → (reals_from table w ≡ get_or table (w + 9) 0) × (counts_from table w ≡ get_or table (w + 10) 0)
  unfolding reals_from counts_from
  axes-from e = rw e (refl, refl)

  pub bins-from : get_or table w 0 ≡ 2 → (reals_from table w ≡ get_or table (w + 5) 0) × (counts_from table w ≡ get_or table (w + 6) 0)
  unfolding reals_from counts_from
  bins-from e = rw e (refl, refl)

pub stands_from : (xs : List ℕ) (l : ℕ) (t : Tree) (y : Tally) → (t ≡ nothing → ⊥) → Stands xs l t y → (reals_from xs y.words ≡ y.reals) × (counts_from xs y.words ≡ y.counts)
stands_from xs l nothing y g s = absurd (g refl)
stands_from xs l (axes a es) y g s = let m = axes-record xs l a es y s in let f = axes-from xs y.words m.kind in (f.0 ∙ m.reals, f.1 ∙ m.counts)
stands_from xs l (bins b ts) y g s = let m = bins-record xs l b ts y s in let f = bins-from xs y.words m.kind in (f.0 ∙ m.reals, f.1 ∙ m.counts)

-- ---- what stands in a table lies there

module _ (xs : List ℕ) (R C : ℕ) where
  axes-laid : (l : ℕ) (a : AxesPlan) (es : List ℕ) (y : Tally) → Stands xs l (axes a es) y → (after (axes a es) y).reals ≤ R → (after (axes a es) y).counts ≤ C
      → AxesLaid xs R C y.words
  unfolding after axes_taken axes_reals axes_counts axes_row
  axes-laid l a es y s h k =
      let m = axes-record xs l a es y s in
      let n : axes_row xs y.words ≡ a = m.numbers in
      let w = y.words in
      let axs : get_or xs (w + 2) 0 ≡ a.axes = ap (λ (b : AxesPlan). b.axes) n in
      let bns : get_or xs (w + 3) 0 ≡ a.bins = ap (λ (b : AxesPlan). b.bins) n in
      let flr : get_or xs (w + 6) 0 ≡ a.floor = ap (λ (b : AxesPlan). b.floor) n in
      let mst : get_or xs (w + 7) 0 ≡ a.most = ap (λ (b : AxesPlan). b.most) n in
      let vls : get_or xs (w + 8) 0 ≡ a.values = ap (λ (b : AxesPlan). b.values) n in
      let ok = m.ranges in
      let v = m.planned in
      let ax = in_bounds 1 8 a.axes ok.axes in
      let bn = in_bounds 1 1024 a.bins ok.bins in
      let top = most-bounded a.bins es bn.1 v.inbounds in
      let low = most-least a.bins es in
      let big = v.most in
      let tall = s.room in
      let rr = m.reals in
      let cc = m.counts in
      record {
        kind = m.kind;
        head = omega arith;
        axes = omega arith;
        some = omega arith;
        fits = omega arith;
        most = omega arith;
        values = λ i j.
            let e : get_or xs (w + 11 + i) 0 ≡ get_or es i 0 = sym (words-at xs a.values (w + 11) i (omega arith)) ∙ ap (λ (l : List ℕ). get_or l i 0) m.values in
            let size = v.number in
            let one = each-bounded es i (omega arith) v.inbounds in
            let up = most-each a.bins es i (omega arith) in
            (omega arith, omega arith);
        floor = ap floor_fits flr ∙ ok.floor;
        room = rw (axs, mst, rr) (omega arith);
        places = rw (axs, mst, cc) (omega arith);
      }

  module _ (l : ℕ) (b : BinsPlan) (ts : Trees) (y : Tally) (s : Stands xs (suc l) (bins b ts) y) (h : (after (bins b ts) y).reals ≤ R) (k : (after (bins b ts) y).counts ≤ C)
      (deeper : (t : Tree) (u : Tally) → (t ≡ nothing → ⊥) → Stands xs l t u → (after t u).reals ≤ R → (after t u).counts ≤ C → Laid l xs R C u.words) where
    -- child i lies there too, past what this grid takes itself
    below : (i : ℕ) → i < b.bins → get_or xs (y.words + 7 + i) 0 ≢ 0
        → Laid l xs R C (get_or xs (y.words + 7 + i) 0) × ((bins_taken b y).reals ≤ reals_from xs (get_or xs (y.words + 7 + i) 0)) × ((bins_taken b y).counts ≤ counts_from xs (get_or xs (y.words + 7 + i) 0))
    unfolding link
    below i j z =
        let u = before ts i (bins_taken b y) in
        let c = child-record xs (suc l) b ts y i s j in
        let there : child_at ts i ≡ nothing → ⊥ = λ q. z (c.linked ∙ ap (λ (t : Tree). link t u) q) in
        let level : suc l - 1 ≡ l = omega arith in
        let stands = subst (λ (n : ℕ). Stands xs n (child_at ts i) u) level c.stands in
        let from = stands_from xs l (child_at ts i) u there stands in
        subst (λ (n : ℕ). Laid l xs R C n × ((bins_taken b y).reals ≤ reals_from xs n) × ((bins_taken b y).counts ≤ counts_from xs n)) (sym (c.linked ∙ grid-link (child_at ts i) u there)) (
          deeper (child_at ts i) u there stands (omega (arith, c.inside.reals, h)) (omega (arith, c.inside.counts, k)),
          omega (arith, from.0, c.behind.reals),
          omega (arith, from.1, c.behind.counts),
        )

    bins-laid : BinsLaid (Laid l xs R C) xs R C y.words
    unfolding after bins_taken bins_reals bins_counts bins_row
    bins-laid =
        let m = bins-record xs (suc l) b ts y s in
        let n : bins_row xs y.words ≡ b = m.numbers in
        let w = y.words in
        let bns : get_or xs (w + 2) 0 ≡ b.bins = ap (λ (a : BinsPlan). a.bins) n in
        let rto : get_or xs (w + 3) 0 ≡ b.ratio = ap (λ (a : BinsPlan). a.ratio) n in
        let bn = in_bounds 1 256 b.bins m.ranges.bins in
        let up = upto_all ts (bins_taken b y) in
        let tall = s.room in
        let rr = m.reals in
        let cc = m.counts in
        record {
          kind = m.kind;
          head = omega (arith, up.words);
          some = omega arith;
          most = omega arith;
          ratio = ap ratio_fits rto ∙ m.ranges.ratio;
          room = omega (arith, up.reals, h);
          places = omega (arith, up.counts, k);
          children = λ i j z. (below i (omega arith) z).0;
          past = λ i j z. let q = below i (omega arith) z in (omega (arith, q.1), omega (arith, q.2));
        }

  -- at a level: whatever stands there
  abbrev pub Level : ℕ → Type 0
  Level l = (t : Tree) (y : Tally) → (t ≡ nothing → ⊥) → Stands xs l t y → (after t y).reals ≤ R → (after t y).counts ≤ C → Laid l xs R C y.words

  last-level : Level zero
  unfolding Laid
  last-level nothing y g s h k = absurd (g refl)
  last-level (axes a es) y g s h k = axes-laid zero a es y s h k
  last-level (bins b ts) y g s h k = absurd (omega (arith, (bins-record xs zero b ts y s).ranges.level))

  next_level : (l : ℕ) → Level l → Level (suc l)
  unfolding Laid
  next_level l deeper nothing y g s h k = absurd (g refl)
  next_level l deeper (axes a es) y g s h k = inl (axes-laid (suc l) a es y s h k)
  next_level l deeper (bins b ts) y g s h k = inr (bins-laid l b ts y s h k deeper)

  pub stands-laid : (l : ℕ) → Level l
  stands-laid zero = last-level
  stands-laid (suc l) = next_level l (stands-laid l)

  pub stands-bins : (l : ℕ) (b : BinsPlan) (ts : Trees) (y : Tally) → Stands xs (suc l) (bins b ts) y → (after (bins b ts) y).reals ≤ R → (after (bins b ts) y).counts ≤ C
      → BinsLaid (Laid l xs R C) xs R C y.words
  stands-bins l b ts y s h k = bins-laid l b ts y s h k (stands-laid l)

-- the root's grid
pub root-laid : (xs : List ℕ) (n : Needs) (R C : ℕ) → Words xs → sizes_of xs ≡ gives n → n.reals ≤ R → n.counts ≤ C → Laid 4 xs R C 0
unfolding needs_of
root-laid xs n R C large e h k =
    let r = passed-stands xs n large e in
    let rr : n.reals ≡ (after r.tree untaken).reals = ap (λ (m : Needs). m.reals) r.needs in
    let cc : n.counts ≡ (after r.tree untaken).counts = ap (λ (m : Needs). m.counts) r.needs in
    stands-laid xs R C 4 r.tree untaken r.grid r.stands (omega arith) (omega arith)

-- ---- what the code branches on

pub laid-axes : (l : ℕ) (table : List ℕ) (R C w : ℕ) → Laid l table R C w → get_or table w 0 ≡ 1 → AxesLaid table R C w
unfolding Laid
laid-axes zero table R C w h e = h
laid-axes (suc l) table R C w (inl a) e = a
laid-axes (suc l) table R C w (inr b) e = absurd (omega (arith, b.kind, e))

-- a run that is no axes grid's: a bins grid, with a level left
pub record Deeper (l : ℕ) (table : List ℕ) (R C w : ℕ) : Type 0 where
  pub level : 1 ≤ l
  pub bins : BinsLaid (Laid (l - 1) table R C) table R C w

pub laid-bins : (l : ℕ) (table : List ℕ) (R C w : ℕ) → Laid l table R C w → get_or table w 0 ≢ 1 → Deeper l table R C w
unfolding Laid
laid-bins zero table R C w h n = absurd (n h.kind)
laid-bins (suc l) table R C w (inl a) n = absurd (n a.kind)
laid-bins (suc l) table R C w (inr b) n =
    let e : l ≡ suc l - 1 = omega arith in
    record { level = omega arith; bins = subst (λ (k : ℕ). BinsLaid (Laid k table R C) table R C w) e b }

-- a run begins in its table
pub laid-head : (l : ℕ) (table : List ℕ) (R C w : ℕ) → Laid l table R C w → w + 7 ≤ length table
unfolding Laid
laid-head zero table R C w h = omega (arith, h.head)
laid-head (suc l) table R C w (inl a) = omega (arith, a.head)
laid-head (suc l) table R C w (inr b) = omega (arith, b.head)
