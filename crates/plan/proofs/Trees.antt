-- What a plan's tree takes: its grids find room, and its rows are as long as the words that it takes.
use mathlib.Core.Path.{◌≡◌, refl, ap}
use mathlib.Core.Bool.{true}
use mathlib.Core.List.{List}
use Prim.Native.Nat.{ℕ, suc, ◌+◌, ◌-◌, ◌≤◌, ◌<◌}
use native.Mathlib.Omega.{arith}
use lib.ListN.{length, length-append}
use lib.Dec.{leb, ltb, eqb}
use borrow.Author.Tests.{eqb-true, eq-eqb, leb-true, le-leb, ltb-true, lt-ltb}
use Rattle.plan.specs.declared.Tally.{Tally}
use Rattle.plan.specs.declared.AxesPlan.{AxesPlan}
use Rattle.plan.specs.declared.BinsPlan.{BinsPlan}
use Rattle.plan.specs.Ranges.{bounded, most_of}
use Rattle.plan.specs.Plan.{Tree, Trees, nothing, axes, bins, none, more, count}
use Rattle.plan.specs.Needs.{axes_reals, axes_counts, bins_reals, bins_counts, axes_taken, bins_taken, after, after_all, untaken}
use Rattle.plan.specs.Fields.{axes_fault, bins_fault}
use Rattle.plan.specs.Table.{head_axes, head_bins, links, rows, rows_all}
use Rattle.plan.specs.Bytes.{axes_planned, bins_planned, valid, valid_all}
use Rattle.plan.specs.Bounds.{Roomy, AxesFit, BinsFit}
use Rattle.plan.proofs.Flags.{and_left, and_right, at_most}
use Rattle.plan.proofs.Ranges.{most-within}
use Rattle.plan.proofs.Faults.{axes-free, axes-fit, bins-fit, area, reals-area, counts-area}

-- 1. A grid's part of what `valid` says ----------------------------------------------------------------

pub record AxesValid (a : AxesPlan) (es : List ℕ) (left : ℕ) : Type 0 where
  pub free : axes_fault a left ≡ 0
  pub number : length es ≡ a.values
  pub few : a.values ≤ 16
  pub inbounds : bounded es ≡ true
  pub most : a.most ≡ most_of a.bins es
  pub least : a.least < 0x1_0000_0000
  pub floor : a.floor < 0x1_0000_0000_0000_0000

pub valid-axes : (l : ℕ) (a : AxesPlan) (es : List ℕ) (y : Tally) → AxesValid a es y.left → valid l (axes a es) y ≡ true
unfolding valid axes_planned
valid-axes l a es y v =
    rw (v.free, eq-eqb _ _ v.number, le-leb _ _ v.few, v.inbounds, eq-eqb _ _ v.most, lt-ltb _ _ v.least, lt-ltb _ _ v.floor)

pub axes-valid : (l : ℕ) (a : AxesPlan) (es : List ℕ) (y : Tally) → valid l (axes a es) y ≡ true → AxesValid a es y.left
unfolding valid axes_planned
axes-valid l a es y v =
    let r = and_right (eqb (axes_fault a y.left) 0) _ v in
    let s = and_right (eqb (length es) a.values) _ r in
    let t = and_right (leb a.values 16) _ s in
    let u = and_right (bounded es) _ t in
    let w = and_right (eqb a.most (most_of a.bins es)) _ u in
    record {
      free = eqb-true _ 0 (and_left (eqb (axes_fault a y.left) 0) _ v);
      number = eqb-true _ _ (and_left (eqb (length es) a.values) _ r);
      few = leb-true _ _ (and_left (leb a.values 16) _ s);
      inbounds = and_left (bounded es) _ t;
      most = eqb-true _ _ (and_left (eqb a.most (most_of a.bins es)) _ u);
      least = ltb-true _ _ (and_left (ltb a.least 0x1_0000_0000) _ w);
      floor = ltb-true _ _ (and_right (ltb a.least 0x1_0000_0000) _ w);
    }

pub record BinsValid (l : ℕ) (b : BinsPlan) (ts : Trees) (y : Tally) : Type 0 where
  pub free : bins_fault b y.left l ≡ 0
  pub ratio : b.ratio < 0x1_0000_0000_0000_0000
  pub number : count ts ≡ b.bins
  pub rest : valid_all (l - 1) ts (bins_taken b y) ≡ true

pub valid-bins : (l : ℕ) (b : BinsPlan) (ts : Trees) (y : Tally) → BinsValid l b ts y → valid l (bins b ts) y ≡ true
unfolding valid bins_planned
valid-bins l b ts y v = rw (v.free, lt-ltb _ _ v.ratio, eq-eqb _ _ v.number, v.rest)

pub bins-valid : (l : ℕ) (b : BinsPlan) (ts : Trees) (y : Tally) → valid l (bins b ts) y ≡ true → BinsValid l b ts y
unfolding valid bins_planned
bins-valid l b ts y v =
    let r = and_right (eqb (bins_fault b y.left l) 0) _ v in
    let s = and_right (ltb b.ratio 0x1_0000_0000_0000_0000) _ r in
    record {
      free = eqb-true _ 0 (and_left (eqb (bins_fault b y.left l) 0) _ v);
      ratio = ltb-true _ _ (and_left (ltb b.ratio 0x1_0000_0000_0000_0000) _ r);
      number = eqb-true _ _ (and_left (eqb (count ts) b.bins) _ s);
      rest = and_right (eqb (count ts) b.bins) _ s;
    }

pub record MoreValid (l : ℕ) (t : Tree) (ts : Trees) (y : Tally) : Type 0 where
  pub head : valid l t y ≡ true
  pub tail : valid_all l ts (after t y) ≡ true

pub more-valid : (l : ℕ) (t : Tree) (ts : Trees) (y : Tally) → valid_all l (more t ts) y ≡ true → MoreValid l t ts y
unfolding valid
more-valid l t ts y v = record { head = and_left (valid l t y) (valid_all l ts (after t y)) v; tail = and_right (valid l t y) (valid_all l ts (after t y)) v }

pub fit-axes : {a : AxesPlan} {es : List ℕ} {y : Tally} → Roomy y → AxesValid a es y.left → AxesFit a y
fit-axes {a} {es} {y} r v =
    let o = axes-free a y.left v.free in
    axes-fit r a v.free (rw v.most (most-within a.bins es (at_most 1 1024 a.bins o.bins) v.inbounds)) v.few

-- 2. Room ---------------------------------------------------------------------------------------------

pub start-roomy : Roomy untaken
start-roomy = record { words = omega arith; reals = omega arith; counts = omega arith; bins = omega arith }

pub roomy-axes : (a : AxesPlan) (y : Tally) → AxesFit a y → Roomy (axes_taken a y)
unfolding axes_taken axes_reals axes_counts
roomy-axes a y f =
    let r = f.room in
    record {
      words = omega (arith, r.words, f.some, f.values);
      reals = omega (arith, r.reals, f.some, reals-area f.axes f.most);
      counts = omega (arith, r.counts, f.some, counts-area f.axes f.most);
      bins = omega (arith, r.bins, f.some, area f.axes f.most);
    }

pub roomy-bins : (b : BinsPlan) (y : Tally) → BinsFit b y → Roomy (bins_taken b y)
unfolding bins_taken bins_reals bins_counts
roomy-bins b y f =
    let r = f.room in
    record {
      words = omega (arith, r.words, f.some, f.bins);
      reals = omega (arith, r.reals, f.some, f.bins);
      counts = omega (arith, r.counts, f.some, f.bins);
      bins = omega (arith, r.bins, f.some, f.bins);
    }

mutual
  unfolding after

  pub roomy_after : (l : ℕ) (t : Tree) (y : Tally) → valid l t y ≡ true → Roomy y → Roomy (after t y)
  roomy_after l nothing y v r = r
  roomy_after l (axes a es) y v r = roomy-axes a y (fit-axes r (axes-valid l a es y v))
  roomy_after l (bins b ts) y v r =
      let k = bins-valid l b ts y v in
      roomy-all (l - 1) ts (bins_taken b y) k.rest (roomy-bins b y (bins-fit r b l k.free))

  roomy-all : (l : ℕ) (ts : Trees) (y : Tally) → valid_all l ts y ≡ true → Roomy y → Roomy (after_all ts y)
  roomy-all l none y v r = r
  roomy-all l (more t ts) y v r =
      let k = more-valid l t ts y v in
      roomy-all l ts (after t y) k.tail (roomy_after l t y k.head r)

-- 3. Words --------------------------------------------------------------------------------------------

pub links-count : (ts : Trees) (y : Tally) → length (links ts y) ≡ count ts
unfolding links count
links-count none y = refl
links-count (more t ts) y = ap suc (links-count ts (after t y))

mutual
  unfolding after rows axes_taken bins_taken head_axes head_bins

  pub rows_words : (l : ℕ) (t : Tree) (y : Tally) → valid l t y ≡ true → (after t y).words ≡ y.words + length (rows l t y)
  rows_words l nothing y v = omega arith
  rows_words l (axes a es) y v = let k = axes-valid l a es y v in simp length-append (omega (arith, k.number))
  rows_words l (bins b ts) y v =
      let k = bins-valid l b ts y v in
      let r = rows-all-words (l - 1) ts (bins_taken b y) k.rest in
      simp length-append (omega (arith, r, k.number, links-count ts (bins_taken b y)))

  pub rows-all-words : (l : ℕ) (ts : Trees) (y : Tally) → valid_all l ts y ≡ true → (after_all ts y).words ≡ y.words + length (rows_all l ts y)
  rows-all-words l none y v = omega arith
  rows-all-words l (more t ts) y v =
      let k = more-valid l t ts y v in
      let a = rows_words l t y k.head in
      let b = rows-all-words l ts (after t y) k.tail in
      simp length-append (omega (arith, a, b))
