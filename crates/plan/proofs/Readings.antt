-- Taking a reading apart, and induction over it: what each field keeps, the whole keeps. It serves bytes and tables.
use mathlib.Core.Path.{◌≡◌, refl}
use Prim.Native.Nat.{ℕ, zero, suc, ◌+◌, ◌-◌, ◌<◌}
use native.Mathlib.Numerals.{sub-one}
use native.Mathlib.Omega.{arith}
use Rattle.plan.specs.declared.Place.{Place}
use Rattle.plan.specs.declared.AxesPlan.{AxesPlan}
use Rattle.plan.specs.declared.BinsPlan.{BinsPlan}
use Rattle.plan.specs.declared.Child.{Child}
use Rattle.plan.specs.declared.Child.TheVariants as child
use Rattle.plan.specs.Judged.{Field, Stop, Found}
use Rattle.plan.specs.Plan.{Tree, Trees, nothing, axes, bins, none, more}
use Rattle.plan.specs.Reading.{Out, Outs, Reader, cons_to, then, bins_to, trees_of, hung, opened, tree_of}

-- 1. Taking apart -------------------------------------------------------------------------------------

pub stops-reads : {P : Type 0} {n at : ℕ} {t : Tree} {q : Place} → Out.stops n at ≡ Out.reads t q → P
stops-reads e = let z : ◌≡◌ {A = ℕ} 0 1 = cc in absurd (omega arith)

pub all-stops-reads : {P : Type 0} {n at : ℕ} {ts : Trees} {q : Place} → Outs.stops n at ≡ Outs.reads ts q → P
all-stops-reads e = let z : ◌≡◌ {A = ℕ} 0 1 = cc in absurd (omega arith)

-- the first of several children, and the rest
pub record First (o : Out) (k : Place → Outs) (ts : Trees) (q : Place) : Type 0 where
  pub head : Tree
  pub mid : Place
  pub tail : Trees
  pub child : o ≡ Out.reads head mid
  pub rest : k mid ≡ Outs.reads tail q
  pub all : ts ≡ more head tail

first-cons : (o : Out) (k : Place → Outs) (t : Tree) (u : Place) (x : Outs) (ts : Trees) (q : Place) → o ≡ Out.reads t u → k u ≡ x → cons_to t x ≡ Outs.reads ts q → First o k ts q
first-cons o k t u (Outs.stops n at) ts q c d e = all-stops-reads e
first-cons o k t u (Outs.reads tail r) ts q c d e =
    let w : r ≡ q = cc in
    record { head = t; mid = u; tail = tail; child = c; rest = rw w at d; all = cc }

pub first : (o : Out) (k : Place → Outs) (ts : Trees) (q : Place) → then o k ≡ Outs.reads ts q → First o k ts q
first (Out.stops n at) k ts q e = all-stops-reads e
first (Out.reads t u) k ts q e = first-cons (Out.reads t u) k t u (k u) ts q refl refl e

-- a bins grid's children
pub record Within (b : BinsPlan) (o : Outs) (t : Tree) (q : Place) : Type 0 where
  pub children : Trees
  pub read : o ≡ Outs.reads children q
  pub all : t ≡ bins b children

pub inside : (b : BinsPlan) (o : Outs) (t : Tree) (q : Place) → bins_to b o ≡ Out.reads t q → Within b o t q
inside b (Outs.stops n at) t q e = stops-reads e
inside b (Outs.reads ts r) t q e = let w : r ≡ q = cc in record { children = ts; read = rw w; all = cc }

-- 2. A node -------------------------------------------------------------------------------------------

module _ (R : Reader) where
  pub tree-stop : (l : ℕ) (p : Place) {n at : ℕ} → R.field l p ≡ Stop n at → tree_of R l p ≡ Out.stops n at
  unfolding tree_of
  tree-stop zero p e = rw e
  tree-stop (suc l) p e = rw e

  pub tree-nothing : (l : ℕ) (p : Place) {q : Place} → R.field l p ≡ Found (record { child = child.Nothing; past = q }) → tree_of R l p ≡ Out.reads nothing q
  unfolding tree_of
  tree-nothing zero p e = rw e
  tree-nothing (suc l) p e = rw e

  pub tree-axes : (l : ℕ) (p : Place) {a : AxesPlan} {q : Place} → R.field l p ≡ Found (record { child = child.Axes a; past = q })
      → tree_of R l p ≡ Out.reads (axes a (R.evolution p a)) q
  unfolding tree_of
  tree-axes zero p e = rw e
  tree-axes (suc l) p e = rw e

  pub tree-bins : (l : ℕ) (p : Place) {b : BinsPlan} {q : Place} → 0 < l → R.field l p ≡ Found (record { child = child.Bins b; past = q })
      → tree_of R l p ≡ bins_to b (trees_of (λ s x. R.child (tree_of R (l - 1)) s x) (q.tally.words - b.bins) b.bins q)
  unfolding tree_of
  tree-bins zero p h e = absurd (omega arith)
  tree-bins (suc l) p h e = rw (e, sub-one)

-- 3. Induction ----------------------------------------------------------------------------------------

-- what holds of a grid that was read, of a child by its slot, and of several
pub record Kept (R : Reader) (P : ℕ → Place → Tree → Place → Type 0) (C : ℕ → ℕ → Place → Tree → Place → Type 0)
    (Q : ℕ → ℕ → ℕ → Place → Trees → Place → Type 0) : Type 0 where
  pub empty : (l : ℕ) (p q : Place) → R.field l p ≡ Found (record { child = child.Nothing; past = q }) → P l p nothing q
  pub leaf : (l : ℕ) (p : Place) (a : AxesPlan) (q : Place) → R.field l p ≡ Found (record { child = child.Axes a; past = q })
      → P l p (axes a (R.evolution p a)) q
  pub inner : (l : ℕ) (p : Place) (b : BinsPlan) (s : Place) (ts : Trees) (q : Place) → R.field l p ≡ Found (record { child = child.Bins b; past = s })
      → Q (l - 1) (s.tally.words - b.bins) b.bins s ts q → P l p (bins b ts) q
  pub hangs : (l s : ℕ) (p : Place) (t : Tree) (q : Place) → ((x : Place) (u : Tree) (z : Place) → tree_of R l x ≡ Out.reads u z → P l x u z)
      → R.child (tree_of R l) s p ≡ Out.reads t q → C l s p t q
  pub end : (l s : ℕ) (p : Place) → Q l s 0 p none p
  pub next : (l s n : ℕ) (p : Place) (t : Tree) (u : Place) (ts : Trees) (q : Place) → C l s p t u → Q l (s + 1) n u ts q → Q l s (suc n) p (more t ts) q

module _ {R : Reader} {P : ℕ → Place → Tree → Place → Type 0} {C : ℕ → ℕ → Place → Tree → Place → Type 0} {Q : ℕ → ℕ → ℕ → Place → Trees → Place → Type 0}
    (K : Kept R P C Q) where
  pub kept-trees : (l : ℕ) (f : ℕ → Place → Out) → ((s : ℕ) (p : Place) (t : Tree) (q : Place) → f s p ≡ Out.reads t q → C l s p t q)
      → (s n : ℕ) (p : Place) (ts : Trees) (q : Place) → trees_of f s n p ≡ Outs.reads ts q → Q l s n p ts q
  unfolding trees_of
  kept-trees l f k s zero p ts q e =
      let w : ts ≡ none = cc in let v : p ≡ q = cc in
      rw (w, v) (K.end l s q)
  kept-trees l f k s (suc n) p ts q e =
      let c = first (f s p) (λ u. trees_of f (s + 1) n u) ts q e in
      rw c.all (K.next l s n p c.head c.mid c.tail q (k s p c.head c.mid c.child) (kept-trees l f k (s + 1) n c.mid c.tail q c.rest))

  kept-hung : (l : ℕ) (f : ℕ → Place → Out) → ((s : ℕ) (p : Place) (t : Tree) (q : Place) → f s p ≡ Out.reads t q → C (l - 1) s p t q)
      → (p : Place) (t : Tree) (q : Place) (x : Child) (s : Place) → R.field l p ≡ Found (record { child = x; past = s })
      → hung (R.evolution p) f x s ≡ Out.reads t q → P l p t q
  kept-hung l f k p t q child.Nothing s x e = let w : t ≡ nothing = cc in let v : s ≡ q = cc in rw w (K.empty l p q (rw v at x))
  kept-hung l f k p t q (child.Axes a) s x e = let w : t ≡ axes a (R.evolution p a) = cc in let v : s ≡ q = cc in rw w (K.leaf l p a q (rw v at x))
  kept-hung l f k p t q (child.Bins b) s x e =
      let i = inside b (trees_of f (s.tally.words - b.bins) b.bins s) t q e in
      rw i.all (K.inner l p b s i.children q x (kept-trees (l - 1) f k (s.tally.words - b.bins) b.bins s i.children q i.read))

  kept-node : (l : ℕ) (f : ℕ → Place → Out) → ((s : ℕ) (p : Place) (t : Tree) (q : Place) → f s p ≡ Out.reads t q → C (l - 1) s p t q)
      → (p : Place) (t : Tree) (q : Place) (x : Field) → R.field l p ≡ x → opened (R.evolution p) f x ≡ Out.reads t q → P l p t q
  kept-node l f k p t q (Stop n at) x e = stops-reads e
  kept-node l f k p t q (Found y) x e = kept-hung l f k p t q y.child y.past x e

  pub kept : (l : ℕ) (p : Place) (t : Tree) (q : Place) → tree_of R l p ≡ Out.reads t q → P l p t q
  unfolding tree_of
  kept zero p t q e = kept-node 0 (λ s x. Out.stops 2 x.at) (λ s x u v y. stops-reads y) p t q (R.field 0 p) refl e
  kept (suc l) p t q e =
      kept-node (suc l) (λ s x. R.child (tree_of R l) s x) (λ s x u v y. rw sub-one (K.hangs l s x u v (kept l) y)) p t q (R.field (suc l) p) refl e
