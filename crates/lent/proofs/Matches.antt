-- What stands against a merge of two grids, bin by bin as the code finds it.
use mathlib.Core.Path.{◌≡◌, refl, sym, ap, ap₂, ◌∙◌, subst}
use mathlib.Core.Bool.{Bool, true, false, not, ◌&&◌, cond, and_assoc, and-true, and-false}
use mathlib.Core.List.{List}
use Prim.Native.Nat.{ℕ, zero, suc, ◌+◌, ◌-◌, ◌≤◌, ◌<◌}
use native.Mathlib.Omega.{arith}
use borrow.Author.Tests.{ne_eqb}
use lib.Dec.{eqb}
use lib.ListN.{length, get_or}
use lib.Ieee.{Float, eq}
use Rattle.std.specs.Prelude.{Result, Ok, Err}
use Rattle.std.specs.Result.{is_ok}
use Rattle.doubles.specs.Paper.{Paper, gives, refuses}
use Rattle.doubles.specs.Refusal.{paper}
use Rattle.doubles.specs.declared.refusal.Refusal.{Refusal}
use Rattle.doubles.proofs.Truth.{both}
use Rattle.accumulator.specs.declared.StatisticsAccumulator.{StatisticsAccumulator}
use Rattle.accumulator.specs.Record.{well_formed}
use Rattle.accumulator.specs.Steps.{merged_of}
use Rattle.accumulator.specs.Calls.{merge_of, kept_of}
use Rattle.model.specs.Grid.{Grid, Bins, Child, Head, Bin, axes, bins, none, more, with_head, with_bin}
use Rattle.model.specs.Sound.{chance, sound, formed_grid, formed_child, kept_grid, kept_bins, kept_child, kept_axis_list}
use Rattle.model.specs.Merge.{same_lengths, same_shape, same_bins, same_child, equal_edges, equal_grid, equal_bins, equal_child, merge_all, merge_grid, merge_bins, merge_child, merge_fault}
use Rattle.lent.specs.declared.AxesAt.{AxesAt}
use Rattle.lent.specs.Memory.{record_at}
use Rattle.lent.specs.Drawn.{axes_at, Stands}
use Rattle.lent.specs.Tree.{axes_plan_at, axes_place, axes_grid_at, bin_in, child_in, bins_in, grid_at, AxesLaid, BinsLaid}
use Rattle.lent.specs.Judged.{sound_bin, sound_bins}
use Rattle.lent.specs.Matched.{obstacle, worse_of, grid_obstacle, child_obstacle, bin_obstacle, BinRoom}
use Rattle.lent.proofs.Sounds.{sound-bins, node-axes, node-bins}
use Rattle.lent.proofs.Samples.{sound-stands}

-- ---- findings

-- two findings joined: each test is asked of both
pub obstacles : (a b c d e f : Bool) → worse_of (obstacle a b c) (obstacle d e f) ≡ obstacle (a && d) (b && e) (c && f)
unfolding obstacle worse_of
obstacles false b c d e f = refl
obstacles true false c false e f = refl
obstacles true false c true false f = refl
obstacles true false c true true false = refl
obstacles true false c true true true = refl
obstacles true true false false e f = refl
obstacles true true false true false f = refl
obstacles true true false true true false = refl
obstacles true true false true true true = refl
obstacles true true true false e f = refl
obstacles true true true true false f = refl
obstacles true true true true true false = refl
obstacles true true true true true true = refl

-- ---- two records

unfoldable accepts : Paper StatisticsAccumulator → Bool
accepts (gives a) = true
accepts (refuses n) = false

accepts-kept : (a : StatisticsAccumulator) → accepts (kept_of a) ≡ well_formed a
unfolding kept_of accepts
accepts-kept a = told (well_formed a)
  where
    told : (b : Bool) → accepts (cond (not b) (refuses 8) (gives a)) ≡ b
    told true = refl
    told false = refl

accepts-merge : (a b : StatisticsAccumulator) → well_formed a ≡ true → well_formed b ≡ true → accepts (merge_of a b) ≡ well_formed (merged_of a b)
unfolding merge_of
accepts-merge a b p q = rw (p, q) (accepts-kept (merged_of a b))

-- the accumulator's own answer on two that are well formed
pub account-fits : (r : Result StatisticsAccumulator Refusal) (a b : StatisticsAccumulator) → well_formed a ≡ true → well_formed b ≡ true → paper r ≡ merge_of a b → is_ok r ≡ well_formed (merged_of a b)
unfolding accepts
account-fits (Ok x) a b p q e = ap accepts e ∙ accepts-merge a b p q
account-fits (Err n) a b p q e = ap accepts e ∙ accepts-merge a b p q

-- ---- two axes grids

module _ (table : List ℕ) (reals : List Float) (counts : List ℕ) (w : ℕ) (other : List ℕ) (theirs : List Float) (tallies : List ℕ) (v : ℕ) where
  -- the tests as the code asks them
  pub axes-asked : (g o : AxesAt) → g ≡ axes_place table w → o ≡ axes_place other v
      → obstacle (same_lengths (axes_at reals counts g) (axes_at theirs tallies o)) (eq g.floor o.floor && equal_edges (axes_at reals counts g) (axes_at theirs tallies o))
      (well_formed (merged_of (record_at reals counts (get_or table (w + 9) 0) (get_or table (w + 10) 0)) (record_at theirs tallies (get_or other (v + 9) 0) (get_or other (v + 10) 0)))
      && kept_axis_list (merge_all (axes_at reals counts g) (axes_at theirs tallies o)))
      ≡ grid_obstacle (axes (axes_grid_at table reals counts w)) (axes (axes_grid_at other theirs tallies v))
  unfolding grid_obstacle same_shape equal_grid merge_grid kept_grid axes_grid_at axes_plan_at axes_place
  axes-asked g o p q =
      ap₂ (λ (a b : AxesAt). obstacle (same_lengths (axes_at reals counts a) (axes_at theirs tallies b)) (eq a.floor b.floor && equal_edges (axes_at reals counts a) (axes_at theirs tallies b))
      (well_formed (merged_of (record_at reals counts (get_or table (w + 9) 0) (get_or table (w + 10) 0)) (record_at theirs tallies (get_or other (v + 9) 0) (get_or other (v + 10) 0)))
      && kept_axis_list (merge_all (axes_at reals counts a) (axes_at theirs tallies b)))) p q

-- the ladder, for tests two of which are made of two
module _ (s f e a k : Bool) where
  pub shapes-differ : s ≡ false → 4 ≡ obstacle s (f && e) (a && k)
  unfolding obstacle
  shapes-differ x = rw x

  pub floors-differ : s ≡ true → f ≡ false → 11 ≡ obstacle s (f && e) (a && k)
  unfolding obstacle
  floors-differ x y = rw (x, y)

  pub edges-differ : s ≡ true → f ≡ true → e ≡ false → 11 ≡ obstacle s (f && e) (a && k)
  unfolding obstacle
  edges-differ x y z = rw (x, y, z)

  pub own-passes : s ≡ true → f ≡ true → e ≡ true → a ≡ false → 8 ≡ obstacle s (f && e) (a && k)
  unfolding obstacle
  own-passes x y z u = rw (x, y, z, u)

  pub axes-pass : s ≡ true → f ≡ true → e ≡ true → a ≡ true → k ≡ false → 8 ≡ obstacle s (f && e) (a && k)
  unfolding obstacle
  axes-pass x y z u o = rw (x, y, z, u, o)

  pub none-differs : s ≡ true → f ≡ true → e ≡ true → a ≡ true → k ≡ true → 0 ≡ obstacle s (f && e) (a && k)
  unfolding obstacle
  none-differs x y z u o = rw (x, y, z, u, o)

-- what a well-formed axes grid keeps
pub sound-kept : (table : List ℕ) (reals : List Float) (counts : List ℕ) (w : ℕ) (g : AxesAt) → g ≡ axes_place table w → sound (axes (axes_grid_at table reals counts w)) ≡ true
    → (well_formed (record_at reals counts (get_or table (w + 9) 0) (get_or table (w + 10) 0)) ≡ true) × (kept_axis_list (axes_at reals counts g) ≡ true)
unfolding sound kept_grid axes_grid_at
sound-kept table reals counts w g p e =
    let b = both (formed_grid (axes (axes_grid_at table reals counts w))) (well_formed (record_at reals counts (get_or table (w + 9) 0) (get_or table (w + 10) 0)) && kept_axis_list (axes_at reals counts (axes_place table w))) e in
    let k = both (well_formed (record_at reals counts (get_or table (w + 9) 0) (get_or table (w + 10) 0))) (kept_axis_list (axes_at reals counts (axes_place table w))) b.1 in
    (k.0, ap (λ (o : AxesAt). kept_axis_list (axes_at reals counts o)) p ∙ k.1)

pub stands_at : (table : List ℕ) (reals : List Float) (counts : List ℕ) (w : ℕ) (g : AxesAt) → g ≡ axes_place table w → AxesLaid table (length reals) (length counts) w
    → sound (axes (axes_grid_at table reals counts w)) ≡ true → Stands reals counts g
stands_at table reals counts w g p a e = subst (λ (o : AxesAt). Stands reals counts o) (sym p) (sound-stands table reals counts w a e)

-- ---- bins

pub own-sound : (b : Bin) (c : Child) → sound_bin b c ≡ true → well_formed b.own ≡ true
unfolding sound_bin
own-sound b c e = (both (chance b.probability) (well_formed b.own) (both (chance b.probability && well_formed b.own) (formed_child c && kept_child c) e).0).1

pub head-sound : (h : Head) (bs : Bins) → sound (bins h bs) ≡ true → well_formed h.own ≡ true
head-sound h bs e = (both (well_formed h.own) (sound_bins bs) (sound-bins h bs ∙ e)).0

pub bin-room : (f : ℕ → Type 0) (table : List ℕ) (R C w i : ℕ) → BinsLaid f table R C w → i < get_or table (w + 2) 0 → BinRoom table R C w i
bin-room f table R C w i b h = record { head = omega (arith, b.head); bin = h; room = b.room; places = b.places }

-- a bin's own and what hangs there
pub bin-joined : (b : Bin) (c : Child) (d : Bin) (e : Child) (own below n : ℕ) → own ≡ obstacle true (eq b.probability d.probability) (well_formed (merged_of b.own d.own))
    → below ≡ child_obstacle c e → n ≡ worse_of own below → n ≡ bin_obstacle b c d e
unfolding child_obstacle bin_obstacle
bin-joined b c d e own below n p q r =
    r ∙ ap₂ worse_of p q ∙ obstacles true (eq b.probability d.probability) (well_formed (merged_of b.own d.own)) (same_child c e) (equal_child c e) (kept_child (merge_child c e))

-- a bins grid that was judged so far: found joined with what is still to come is all of it
pub record Going (found all : ℕ) (bs cs : Bins) : Type 0 where
  pub same : Bool
  pub equal : Bool
  pub kept : Bool
  pub is : found ≡ obstacle same equal kept
  pub rest : obstacle (same && same_bins bs cs) (equal && equal_bins bs cs) (kept && kept_bins (merge_bins bs cs)) ≡ all

pub going_start : (h k : Head) (bs cs : Bins) (found : ℕ) → found ≡ obstacle true true (well_formed (merged_of h.own k.own)) → Going found (grid_obstacle (bins h bs) (bins k cs)) bs cs
unfolding grid_obstacle same_shape equal_grid merge_grid kept_grid with_head
going_start h k bs cs found e = record { same = true; equal = true; kept = well_formed (merged_of h.own k.own); is = e; rest = refl }

going_more : (found all here next : ℕ) (b d : Bin) (c e : Child) (bs cs : Bins) → Going found all (more b c bs) (more d e cs) → here ≡ bin_obstacle b c d e → next ≡ worse_of found here → Going next all bs cs
unfolding bin_obstacle same_bins equal_bins merge_bins kept_bins with_bin
going_more found all here next b d c e bs cs g h n =
    record {
      same = g.same && same_child c e;
      equal = g.equal && (eq b.probability d.probability && equal_child c e);
      kept = g.kept && (well_formed (merged_of b.own d.own) && kept_child (merge_child c e));
      is = n ∙ ap₂ worse_of g.is h ∙ obstacles g.same g.equal g.kept (same_child c e) (eq b.probability d.probability && equal_child c e) (well_formed (merged_of b.own d.own) && kept_child (merge_child c e));
      rest = rw (and_assoc, and_assoc, and_assoc, and_assoc, and_assoc) g.rest;
    }

going-none : (found all : ℕ) → Going found all none none → found ≡ all
unfolding same_bins equal_bins merge_bins kept_bins
going-none found all g = g.is ∙ rw (and-true, and-true, and-true) at g.rest

-- differing numbers of bins
pub bins-differ : (f f' : ℕ → Grid) (table : List ℕ) (reals : List Float) (counts : List ℕ) (w : ℕ) (other : List ℕ) (theirs : List Float) (tallies : List ℕ) (v i n k : ℕ) → (n ≡ k → ⊥)
    → same_bins (bins_in f table reals counts w i n) (bins_in f' other theirs tallies v i k) ≡ false
unfolding same_bins bins_in
bins-differ f f' table reals counts w other theirs tallies v i zero zero z = absurd (z refl)
bins-differ f f' table reals counts w other theirs tallies v i zero (suc k) z = refl
bins-differ f f' table reals counts w other theirs tallies v i (suc n) zero z = refl
bins-differ f f' table reals counts w other theirs tallies v i (suc n) (suc k) z =
    let c = same_child (child_in f (get_or table (w + 7 + i) 0)) (child_in f' (get_or other (v + 7 + i) 0)) in
    ap (λ (b : Bool). c && b) (bins-differ f f' table reals counts w other theirs tallies v (i + 1) n k (λ e. z (ap suc e))) ∙ and-false c

module _ (f f' : ℕ → Grid) (table : List ℕ) (reals : List Float) (counts : List ℕ) (w : ℕ) (other : List ℕ) (theirs : List Float) (tallies : List ℕ) (v n : ℕ) where
  pub going_on : (found all here next i : ℕ) → i < n → Going found all (bins_in f table reals counts w i (n - i)) (bins_in f' other theirs tallies v i (n - i))
      → here ≡ bin_obstacle (bin_in table reals counts w i) (child_in f (get_or table (w + 7 + i) 0)) (bin_in other theirs tallies v i) (child_in f' (get_or other (v + 7 + i) 0))
      → next ≡ worse_of found here → Going next all (bins_in f table reals counts w (i + 1) (n - (i + 1))) (bins_in f' other theirs tallies v (i + 1) (n - (i + 1)))
  unfolding bins_in
  going_on found all here next i h g p q =
      let e : n - i ≡ suc (n - (i + 1)) = omega arith in
      let g' : Going found all (bins_in f table reals counts w i (suc (n - (i + 1)))) (bins_in f' other theirs tallies v i (suc (n - (i + 1)))) =
      subst (λ (j : ℕ). Going found all (bins_in f table reals counts w i j) (bins_in f' other theirs tallies v i j)) e g in
      going_more found all here next (bin_in table reals counts w i) (bin_in other theirs tallies v i) (child_in f (get_or table (w + 7 + i) 0)) (child_in f' (get_or other (v + 7 + i) 0))
      (bins_in f table reals counts w (i + 1) (n - (i + 1))) (bins_in f' other theirs tallies v (i + 1) (n - (i + 1))) g' p q

  pub going-begin : (h k : Head) (many found : ℕ) → n ≡ many → found ≡ obstacle true true (well_formed (merged_of h.own k.own))
      → Going found (grid_obstacle (bins h (bins_in f table reals counts w 0 n)) (bins k (bins_in f' other theirs tallies v 0 many))) (bins_in f table reals counts w 0 (n - 0)) (bins_in f' other theirs tallies v 0 (n - 0))
  going-begin h k many found m p =
      let z : n ≡ n - 0 = omega arith in
      let y : many ≡ n - 0 = omega (arith, m) in
      let all = grid_obstacle (bins h (bins_in f table reals counts w 0 n)) (bins k (bins_in f' other theirs tallies v 0 many)) in
      subst (λ (j : ℕ). Going found all (bins_in f table reals counts w 0 j) (bins_in f' other theirs tallies v 0 (n - 0))) z
      (subst (λ (j : ℕ). Going found all (bins_in f table reals counts w 0 n) (bins_in f' other theirs tallies v 0 j)) y
      (going_start h k (bins_in f table reals counts w 0 n) (bins_in f' other theirs tallies v 0 many) found p))

  pub going-out : (found all i : ℕ) → n ≤ i → Going found all (bins_in f table reals counts w i (n - i)) (bins_in f' other theirs tallies v i (n - i)) → found ≡ all
  unfolding bins_in
  going-out found all i h g =
      let e : n - i ≡ 0 = omega arith in
      going-none found all (subst (λ (j : ℕ). Going found all (bins_in f table reals counts w i j) (bins_in f' other theirs tallies v i j)) e g)

pub many-differ : (f f' : ℕ → Grid) (table : List ℕ) (reals : List Float) (counts : List ℕ) (w : ℕ) (other : List ℕ) (theirs : List Float) (tallies : List ℕ) (v n k : ℕ) (h h' : Head) → (n ≡ k → ⊥)
    → 4 ≡ grid_obstacle (bins h (bins_in f table reals counts w 0 n)) (bins h' (bins_in f' other theirs tallies v 0 k))
unfolding grid_obstacle same_shape obstacle
many-differ f f' table reals counts w other theirs tallies v n k h h' z = rw (bins-differ f f' table reals counts w other theirs tallies v 0 n k z)

-- ---- what hangs at two links

module _ (f f' : ℕ → Grid) (link far : ℕ) where
  pub both-none : link ≡ 0 → far ≡ 0 → 0 ≡ child_obstacle (child_in f link) (child_in f' far)
  unfolding child_obstacle child_in same_child equal_child merge_child kept_child obstacle
  both-none e d = rw (e, d)

  pub first-none : link ≡ 0 → (far ≡ 0 → ⊥) → 4 ≡ child_obstacle (child_in f link) (child_in f' far)
  unfolding child_obstacle child_in same_child obstacle
  first-none e d = rw (e, ne_eqb far 0 d)

  pub second_none : (link ≡ 0 → ⊥) → far ≡ 0 → 4 ≡ child_obstacle (child_in f link) (child_in f' far)
  unfolding child_obstacle child_in same_child obstacle
  second_none e d = rw (ne_eqb link 0 e, d)

  pub both-there : (link ≡ 0 → ⊥) → (far ≡ 0 → ⊥) → grid_obstacle (f link) (f' far) ≡ child_obstacle (child_in f link) (child_in f' far)
  unfolding grid_obstacle child_obstacle child_in same_child equal_child merge_child kept_child
  both-there e d = rw (ne_eqb link 0 e, ne_eqb far 0 d)

-- ---- which of the two each run is

module _ (l : ℕ) (table : List ℕ) (reals : List Float) (counts : List ℕ) (w : ℕ) (other : List ℕ) (theirs : List Float) (tallies : List ℕ) (v : ℕ) where
  pub first-axes : get_or table w 0 ≡ 1 → (get_or other v 0 ≡ 1 → ⊥) → 1 ≤ l → 4 ≡ grid_obstacle (grid_at l table reals counts w) (grid_at l other theirs tallies v)
  unfolding grid_obstacle same_shape obstacle
  first-axes e d h = rw (node-axes l table reals counts w e, node-bins l other theirs tallies v d h)

  pub second-axes : (get_or table w 0 ≡ 1 → ⊥) → get_or other v 0 ≡ 1 → 1 ≤ l → 4 ≡ grid_obstacle (grid_at l table reals counts w) (grid_at l other theirs tallies v)
  unfolding grid_obstacle same_shape obstacle
  second-axes e d h = rw (node-bins l table reals counts w e h, node-axes l other theirs tallies v d)

-- ---- is_mergeable leaves 8 out

module _ (g o : Grid) (n : ℕ) (e : n ≡ grid_obstacle g o) where
  left_out : (a b c : Bool) → cond (eqb (obstacle a b c) 8) 0 (obstacle a b c) ≡ cond (not a) 4 (cond (not b) 11 0)
  unfolding obstacle
  left_out false b c = refl
  left_out true false c = refl
  left_out true true false = refl
  left_out true true true = refl

  mergeable : cond (eqb n 8) 0 n ≡ merge_fault g o
  unfolding grid_obstacle merge_fault
  mergeable = ap (λ (k : ℕ). cond (eqb k 8) 0 k) e ∙ left_out (same_shape g o) (equal_grid g o) (kept_grid (merge_grid g o))

  pub mergeable-kept : n ≡ 8 → 0 ≡ merge_fault g o
  mergeable-kept z = sym (ap (λ (k : ℕ). cond (eqb k 8) 0 k) z) ∙ mergeable

  pub mergeable-else : (n ≡ 8 → ⊥) → n ≡ merge_fault g o
  mergeable-else z = sym (ap (λ (b : Bool). cond b 0 n) (ne_eqb n 8 z)) ∙ mergeable
