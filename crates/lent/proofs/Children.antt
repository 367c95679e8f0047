-- The children of a bins grid, one behind the other: each stands in its table, and reads as it did after a step that keeps to one before it.
use mathlib.Core.Path.{◌≡◌, refl, sym, ap, ◌∙◌, subst}
use mathlib.Core.Logic.{◌≢◌}
use mathlib.Core.Bool.{true}
use mathlib.Core.List.{List}
use Prim.Native.Nat.{ℕ, zero, suc, ◌+◌, ◌-◌, ◌≤◌, ◌<◌}
use native.Mathlib.Omega.{arith}
use lib.ListN.{get_or}
use lib.Ieee.{nan}
use Rattle.plan.specs.declared.Tally.{Tally}
use Rattle.plan.specs.declared.BinsPlan.{BinsPlan}
use Rattle.plan.specs.Plan.{Tree, Trees, nothing, axes, bins, none, more}
use Rattle.plan.specs.Needs.{bins_taken, after, child_at, before}
use Rattle.plan.specs.Table.{link}
use Rattle.plan.proofs.Records.{Stands, Upto, upto-same, upto-on, upto-after, upto_before, grid-link, bins-record, child-record, before-next}
use Rattle.model.specs.Sound.{formed_grid}
use Rattle.lent.specs.Memory.{Memory}
use Rattle.lent.specs.Tree.{grid_at}
use Rattle.lent.proofs.Same.{Alike, same_alike, same-sym}
use Rattle.lent.proofs.Trees.{axes-differ, bins-differ}
use Rattle.lent.proofs.Alike.{grid-alike}
use Rattle.lent.proofs.FoundedOwn.{Within}

pub before-upto : (ts : Trees) (i j : ℕ) (y : Tally) → i ≤ j → Upto (before ts i y) (before ts j y)
unfolding before
before-upto none i j y h = upto-same y
before-upto (more t ts) zero zero y h = upto-same y
before-upto (more t ts) zero (suc j) y h = upto-on (upto-after t y) (upto_before ts j (after t y))
before-upto (more t ts) (suc i) zero y h = absurd (omega arith)
before-upto (more t ts) (suc i) (suc j) y h = before-upto ts i j (after t y) (omega arith)

pub linked-grid : (t : Tree) (u : Tally) → link t u ≢ 0 → t ≡ nothing → ⊥
unfolding link
linked-grid nothing u z e = z refl
linked-grid (axes a es) u z e = axes-differ a es e
linked-grid (bins b ts) u z e = bins-differ b ts e

module _ (xs : List ℕ) (l : ℕ) (b : BinsPlan) (ts : Trees) (y : Tally) (st : Stands xs (suc l) (bins b ts) y) where
  abbrev own : Tally
  own = bins_taken b y

  abbrev at : ℕ → ℕ
  at i = get_or xs (y.words + 7 + i) 0

  pub stands-in : (i : ℕ) → i < b.bins → Stands xs l (child_at ts i) (before ts i own)
  stands-in i h =
      let level : suc l - 1 ≡ l = omega arith in
      subst (λ (n : ℕ). Stands xs n (child_at ts i) (before ts i own)) level (child-record xs (suc l) b ts y i st h).stands

  -- child j lies behind all that child i takes
  pub behind : (i j : ℕ) → i < j → i < b.bins → Upto (after (child_at ts i) (before ts i own)) (before ts j own)
  behind i j h c =
      let next : before ts (suc i) own ≡ after (child_at ts i) (before ts i own) = before-next ts i own (omega (arith, (bins-record xs (suc l) b ts y st).number)) in
      subst (λ (u : Tally). Upto u (before ts j own)) next (before-upto ts (suc i) j own (omega arith))

  -- child j, out of memory that is alike on what it takes
  pub alike-grid : (j : ℕ) (m n : Memory) → j < b.bins → at j ≢ 0 → formed_grid (grid_at l xs m.reals m.counts (at j)) ≡ true
      → Alike nan (before ts j own).reals (after (child_at ts j) (before ts j own)).reals m.reals n.reals
      → Alike 0 (before ts j own).counts (after (child_at ts j) (before ts j own)).counts m.counts n.counts
      → grid_at l xs m.reals m.counts (at j) ≡ grid_at l xs n.reals n.counts (at j)
  alike-grid j m n c z f x u =
      let r = child-record xs (suc l) b ts y j st c in
      let v = before ts j own in
      let q = child_at ts j in
      let there : q ≡ nothing → ⊥ = linked-grid q v (subst (λ (n : ℕ). n ≢ 0) r.linked z) in
      let a : at j ≡ v.words = r.linked ∙ grid-link q v there in
      subst (λ (o : ℕ). grid_at l xs m.reals m.counts o ≡ grid_at l xs n.reals n.counts o) (sym a)
      (grid-alike xs m.reals n.reals m.counts n.counts l q v there (stands-in j c)
      (sym (ap (λ (o : ℕ). formed_grid (grid_at l xs m.reals m.counts o)) a) ∙ f) x u)

  -- a child reads as it did after a step that keeps below it
  pub unmoved : (j r e c d : ℕ) (s t : Memory) → j < b.bins → Within r e c d s t
      → e ≤ (before ts j own).reals → d ≤ (before ts j own).counts → at j ≢ 0 → formed_grid (grid_at l xs s.reals s.counts (at j)) ≡ true
      → grid_at l xs t.reals t.counts (at j) ≡ grid_at l xs s.reals s.counts (at j)
  unmoved j r e c d s t k w low few z f =
      let v = before ts j own in
      let q = child_at ts j in
      sym (alike-grid j s t k z f
      (same_alike nan v.reals (after q v).reals s.reals t.reals (same-sym nan v.reals (after q v).reals t.reals s.reals (w.high v.reals (after q v).reals low)))
      (same_alike 0 v.counts (after q v).counts s.counts t.counts (same-sym 0 v.counts (after q v).counts t.counts s.counts (w.many v.counts (after q v).counts few))))

  -- so does a child after one that a step keeps to
  pub later : (i j : ℕ) (s t : Memory) → i < j → j < b.bins
      → Within (before ts i own).reals (after (child_at ts i) (before ts i own)).reals (before ts i own).counts (after (child_at ts i) (before ts i own)).counts s t
      → at j ≢ 0 → formed_grid (grid_at l xs s.reals s.counts (at j)) ≡ true
      → grid_at l xs t.reals t.counts (at j) ≡ grid_at l xs s.reals s.counts (at j)
  later i j s t h k w z f =
      let past = behind i j h (omega arith) in
      unmoved j (before ts i own).reals (after (child_at ts i) (before ts i own)).reals (before ts i own).counts (after (child_at ts i) (before ts i own)).counts s t k w
      past.reals past.counts z f
