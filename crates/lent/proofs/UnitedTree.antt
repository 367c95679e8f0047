-- A tree that took another's waiting samples, in lent memory, is read as the model's merged grid.
use mathlib.Core.Path.{◌≡◌, refl, sym, ap, ap₂, ◌∙◌, subst}
use mathlib.Core.Logic.{◌≢◌, inl, inr}
use mathlib.Core.Bool.{Bool, true, false, not, ◌&&◌, false≢true, true≢false}
use mathlib.Core.List.{List, [], ◌∷◌}
use Prim.Native.Nat.{ℕ, zero, suc, ◌+◌, ◌-◌, ◌*◌, ◌≤◌, ◌<◌}
use native.Mathlib.Omega.{arith}
use borrow.Author.Tests.{ne_eqb, eq-eqb, eqb-true, not-false}
use lib.Dec.{eqb}
use lib.ListN.{length, drop, get_or}
use lib.Ieee.{Float, nan}
use Rattle.doubles.specs.Paper.{Paper, gives}
use Rattle.doubles.proofs.Truth.{either, both}
use Rattle.doubles.proofs.Ladder.{passes, given}
use Rattle.accumulator.specs.Record as account
use Rattle.accumulator.specs.Steps.{merged_of}
use Rattle.plan.specs.declared.Tally.{Tally}
use Rattle.plan.specs.declared.AxesPlan.{AxesPlan}
use Rattle.plan.specs.declared.BinsPlan.{BinsPlan}
use Rattle.plan.specs.declared.Needs.{Needs}
use Rattle.plan.specs.Plan.{Tree, Trees, nothing, axes, bins}
use Rattle.plan.specs.Needs.{axes_reals, axes_counts, axes_taken, bins_taken, after, child_at, before, untaken, needs_of}
use Rattle.plan.specs.Table.{link}
use Rattle.plan.specs.Walk.{axes_row, bins_row}
use Rattle.plan.proofs.Tables.{Words}
use Rattle.plan.proofs.Rereads.{taken-words}
use Rattle.plan.proofs.Records.{Stands, axes-record, bins-record, Upto, upto-after, child-record, before-next, passed-stands}
use Rattle.model.specs.Grid as model
use Rattle.model.specs.Sound.{sound, formed_grid, kept_grid, kept_bins, kept_child, kept_axis_list}
use Rattle.model.specs.Merge.{same_shape, same_bins, same_child, equal_grid, merge_all, merge_grid, merge_bins, merge_child, merge_of}
use Rattle.lent.specs.Memory.{Memory}
use Rattle.lent.specs.Tree.{axes_grid_at, head_at, bin_in, child_in, bins_in, node_at, grid_at, BinsLaid, Laid}
use Rattle.lent.specs.Founded.{fresh_children}
use Rattle.lent.specs.Judged.{sound_bin}
use Rattle.lent.specs.Sampled.{sound_child}
use Rattle.lent.specs.State.{root_of, pair_fault}
use Rattle.lent.specs.Calls.{StateEnd, state_end, united_by, merge_into_of}
use Rattle.lent.specs.United.{united_axes, united_own, united_child, united_children, united_grid}
use Rattle.lent.proofs.Formed.{sound-merged}
use Rattle.lent.proofs.Same.{Same, same_refl, same-on, same-sym, same-within}
use Rattle.lent.proofs.Laid.{stands-laid, laid-axes, laid-bins}
use Rattle.lent.proofs.Sounds.{node-axes, node-bins}
use Rattle.lent.proofs.Samples.{sound-in, sound-below, child-sound}
use Rattle.lent.proofs.Trees.{axes-differ, bins-differ, before-none, taken-reals, taken-counts, below}
use Rattle.lent.proofs.States.{went_on, pair-clear}
use Rattle.lent.proofs.Matches as matches
use Rattle.lent.proofs.Unites.{both-axes, both-bins}
use Rattle.lent.proofs.FoundedOwn.{Within, within_same, within_on}
use Rattle.lent.proofs.FoundedTree.{Found, found_at}
use Rattle.lent.proofs.Children.{stands-in, unmoved, later}
use Rattle.lent.proofs.UnitedOwn as own_of_lem

-- ---- what is known of two that are merged

pub record Ready (g o : model.Grid) : Type 0 where
  pub mine : sound g ≡ true
  pub theirs : sound o ≡ true
  pub same : same_shape g o ≡ true
  pub kept : kept_grid (merge_grid g o) ≡ true

record Paired (c e : model.Child) : Type 0 where
  mine : sound_child c ≡ true
  theirs : sound_child e ≡ true
  same : same_child c e ≡ true
  kept : kept_child (merge_child c e) ≡ true

module _ (f f' : ℕ → model.Grid) (at far : ℕ) (z : at ≢ 0) where
  far-there : same_child (child_in f at) (child_in f' far) ≡ true → far ≢ 0
  unfolding child_in same_child
  far-there e q = let x : false ≡ true = rw (ne_eqb at 0 z, q) at e in absurd (false≢true x)

  both-same : far ≢ 0 → same_child (child_in f at) (child_in f' far) ≡ true → same_shape (f at) (f' far) ≡ true
  unfolding child_in same_child
  both-same y e = rw (ne_eqb at 0 z, ne_eqb far 0 y) at e

  both-kept : far ≢ 0 → kept_child (merge_child (child_in f at) (child_in f' far)) ≡ true → kept_grid (merge_grid (f at) (f' far)) ≡ true
  unfolding child_in merge_child kept_child
  both-kept y e = rw (ne_eqb at 0 z, ne_eqb far 0 y) at e

  pair-ready : (p : Paired (child_in f at) (child_in f' far)) → Ready (f at) (f' far)
  pair-ready p =
      let y = far-there p.same in
      record { mine = child-sound f at z p.mine; theirs = child-sound f' far y p.theirs; same = both-same y p.same; kept = both-kept y p.kept }

-- which of the two the other is
other-axes : (l : ℕ) (ys : List ℕ) (reals : List Float) (counts : List ℕ) (v : ℕ) (g : model.Grid) → Laid l ys (length reals) (length counts) v
    → ((h : model.Head) (bs : model.Bins) → same_shape g (model.bins h bs) ≡ false) → same_shape g (grid_at l ys reals counts v) ≡ true → get_or ys v 0 ≡ 1
other-axes l ys reals counts v g laid n e = elim (either (eqb (get_or ys v 0) 1)) [
  | inl x ↦ eqb-true (get_or ys v 0) 1 x
  | inr x ↦
      let z : get_or ys v 0 ≡ 1 → ⊥ = λ q. absurd (true≢false (sym (eq-eqb (get_or ys v 0) 1 q) ∙ x)) in
      let d = laid-bins l ys (length reals) (length counts) v laid z in
      absurd (false≢true (sym (ap (same_shape g) (node-bins l ys reals counts v z d.level) ∙ n _ _) ∙ e))
]

axes-no-bins : (g : model.Grid) (x : _) → g ≡ model.axes x → (h : model.Head) (bs : model.Bins) → same_shape g (model.bins h bs) ≡ false
unfolding same_shape
axes-no-bins g x e h bs = ap (λ (o : model.Grid). same_shape o (model.bins h bs)) e

other-bins : (l : ℕ) (ys : List ℕ) (reals : List Float) (counts : List ℕ) (v : ℕ) (h : model.Head) (bs : model.Bins) → same_shape (model.bins h bs) (grid_at l ys reals counts v) ≡ true → get_or ys v 0 ≡ 1 → ⊥
unfolding same_shape
other-bins l ys reals counts v h bs e q = absurd (false≢true (sym (ap (same_shape (model.bins h bs)) (node-axes l ys reals counts v q)) ∙ e))

bins-node : (l : ℕ) (table : List ℕ) (reals : List Float) (counts : List ℕ) (w : ℕ) → (get_or table w 0 ≡ 1 → ⊥)
    → grid_at (suc l) table reals counts w ≡ model.bins (head_at table reals counts w) (bins_in (grid_at l table reals counts) table reals counts w 0 (get_or table (w + 2) 0))
unfolding grid_at node_at
bins-node l table reals counts w n = rw (ne_eqb (get_or table w 0) 1 n)

bins-of : (l : ℕ) (table : List ℕ) (R C w : ℕ) → Laid (suc l) table R C w → (get_or table w 0 ≡ 1 → ⊥) → BinsLaid (Laid l table R C) table R C w
unfolding Laid
bins-of l table R C w (inl a) n = absurd (n a.kind)
bins-of l table R C w (inr b) n = b

-- ---- bin by bin

module _ (f f' : ℕ → model.Grid) (xs ys : List ℕ) (reals theirs : List Float) (counts tallies : List ℕ) (w v : ℕ) where
  abbrev at : ℕ → ℕ
  at i = get_or xs (w + 7 + i) 0

  abbrev far : ℕ → ℕ
  far i = get_or ys (v + 7 + i) 0

  same_from : (n j i : ℕ) → i < n → same_bins (bins_in f xs reals counts w j n) (bins_in f' ys theirs tallies v j n) ≡ true → same_child (child_in f (at (j + i))) (child_in f' (far (j + i))) ≡ true
  unfolding same_bins bins_in
  same_from zero j i h e = absurd (omega arith)
  same_from (suc n) j zero h e = let z : j + 0 ≡ j = omega arith in rw z (both (same_child (child_in f (at j)) (child_in f' (far j))) (same_bins (bins_in f xs reals counts w (j + 1) n) (bins_in f' ys theirs tallies v (j + 1) n)) e).0
  same_from (suc n) j (suc i) h e =
      let z : j + suc i ≡ j + 1 + i = omega arith in
      rw z (same_from n (j + 1) i (omega arith) (both (same_child (child_in f (at j)) (child_in f' (far j))) (same_bins (bins_in f xs reals counts w (j + 1) n) (bins_in f' ys theirs tallies v (j + 1) n)) e).1)

  abbrev own-kept : ℕ → Bool
  own-kept i = account.well_formed (merged_of (bin_in xs reals counts w i).own (bin_in ys theirs tallies v i).own)

  abbrev child-kept : ℕ → Bool
  child-kept i = kept_child (merge_child (child_in f (at i)) (child_in f' (far i)))

  kept_from : (n j i : ℕ) → i < n → kept_bins (merge_bins (bins_in f xs reals counts w j n) (bins_in f' ys theirs tallies v j n)) ≡ true → (own-kept (j + i) ≡ true) × (child-kept (j + i) ≡ true)
  unfolding kept_bins merge_bins bins_in model.with_bin
  kept_from zero j i h e = absurd (omega arith)
  kept_from (suc n) j zero h e =
      let z : j + 0 ≡ j = omega arith in
      let a = both (own-kept j) (child-kept j && kept_bins (merge_bins (bins_in f xs reals counts w (j + 1) n) (bins_in f' ys theirs tallies v (j + 1) n))) e in
      let b = both (child-kept j) (kept_bins (merge_bins (bins_in f xs reals counts w (j + 1) n) (bins_in f' ys theirs tallies v (j + 1) n))) a.1 in
      rw z (a.0, b.0)
  kept_from (suc n) j (suc i) h e =
      let z : j + suc i ≡ j + 1 + i = omega arith in
      let a = both (own-kept j) (child-kept j && kept_bins (merge_bins (bins_in f xs reals counts w (j + 1) n) (bins_in f' ys theirs tallies v (j + 1) n))) e in
      let b = both (child-kept j) (kept_bins (merge_bins (bins_in f xs reals counts w (j + 1) n) (bins_in f' ys theirs tallies v (j + 1) n))) a.1 in
      rw z (kept_from n (j + 1) i (omega arith) b.1)

  same_at : (n i : ℕ) → i < n → same_bins (bins_in f xs reals counts w 0 n) (bins_in f' ys theirs tallies v 0 n) ≡ true → same_child (child_in f (at i)) (child_in f' (far i)) ≡ true
  same_at n i h e = let z : 0 + i ≡ i = omega arith in subst (λ (j : ℕ). same_child (child_in f (at j)) (child_in f' (far j)) ≡ true) z (same_from n 0 i h e)

  kept_at : (n i : ℕ) → i < n → kept_bins (merge_bins (bins_in f xs reals counts w 0 n) (bins_in f' ys theirs tallies v 0 n)) ≡ true → (own-kept i ≡ true) × (child-kept i ≡ true)
  kept_at n i h e = let z : 0 + i ≡ i = omega arith in subst (λ (j : ℕ). (own-kept j ≡ true) × (child-kept j ≡ true)) z (kept_from n 0 i h e)

  -- what hangs at n pairs of links from link i on, merged
  unfoldable kids : ℕ → ℕ → List model.Child
  kids i zero = []
  kids i (suc n) = merge_child (child_in f (at i)) (child_in f' (far i)) ∷ kids (i + 1) n

  bins-join : (g : ℕ → model.Grid) (reals' : List Float) (counts' : List ℕ) (n i : ℕ)
      → ((j : ℕ) → i ≤ j → j < i + n → bin_in xs reals' counts' w j ≡ model.with_bin (bin_in xs reals counts w j) (merged_of (bin_in xs reals counts w j).own (bin_in ys theirs tallies v j).own))
      → fresh_children g xs w i n ≡ kids i n → bins_in g xs reals' counts' w i n ≡ merge_bins (bins_in f xs reals counts w i n) (bins_in f' ys theirs tallies v i n)
  unfolding bins_in merge_bins fresh_children kids
  bins-join g reals' counts' zero i p e = refl
  bins-join g reals' counts' (suc n) i p e =
      let c : child_in g (at i) ≡ merge_child (child_in f (at i)) (child_in f' (far i)) = ap (λ (l : List model.Child). get_or l 0 model.nothing) e in
      let rest = bins-join g reals' counts' n (i + 1) (λ j x y. p j (omega arith) (omega arith)) (ap (λ (l : List model.Child). drop 1 l) e) in
      rw (p i (omega arith) (omega arith), c, rest)

many-same : (f f' : ℕ → model.Grid) (table : List ℕ) (reals : List Float) (counts : List ℕ) (w : ℕ) (other : List ℕ) (theirs : List Float) (tallies : List ℕ) (v n k : ℕ)
    → same_bins (bins_in f table reals counts w 0 n) (bins_in f' other theirs tallies v 0 k) ≡ true → n ≡ k
many-same f f' table reals counts w other theirs tallies v n k e = elim (either (eqb n k)) [
  | inl x ↦ eqb-true n k x
  | inr x ↦ absurd (false≢true (sym (matches.bins-differ f f' table reals counts w other theirs tallies v 0 n k (λ q. absurd (true≢false (sym (eq-eqb n k q) ∙ x)))) ∙ e))
]

-- ---- the tree

module _ (xs ys : List ℕ) (others : Memory) where
  abbrev here : ℕ → Memory → ℕ → model.Grid
  here l s w = grid_at l xs s.reals s.counts w

  abbrev there : ℕ → ℕ → model.Grid
  there l v = grid_at l ys others.reals others.counts v

  -- at a level: whatever stands there
  abbrev pub Unites : ℕ → Type 0
  Unites l = (t : Tree) (y : Tally) (v : ℕ) (s : Memory) → (t ≡ nothing → ⊥) → Stands xs l t y → (after t y).reals ≤ length s.reals → (after t y).counts ≤ length s.counts
      → Laid l ys (length others.reals) (length others.counts) v → Ready (here l s y.words) (there l v)
      → Found y.reals (after t y).reals y.counts (after t y).counts s (united_grid xs ys others l y.words v s) (λ (a : List Float) (b : List ℕ). grid_at l xs a b y.words)
      (merge_grid (here l s y.words) (there l v))

  axes-unites : (l : ℕ) (a : AxesPlan) (es : List ℕ) (y : Tally) (v : ℕ) (s : Memory) → Stands xs l (axes a es) y → (after (axes a es) y).reals ≤ length s.reals
      → (after (axes a es) y).counts ≤ length s.counts → Laid l ys (length others.reals) (length others.counts) v → Ready (here l s y.words) (there l v)
      → Found y.reals (after (axes a es) y).reals y.counts (after (axes a es) y).counts s (united_grid xs ys others l y.words v s) (λ (a : List Float) (b : List ℕ). grid_at l xs a b y.words)
      (merge_grid (here l s y.words) (there l v))
  unfolding after axes_taken axes_reals axes_counts axes_row same_shape merge_grid kept_grid axes_grid_at
  axes-unites l a es y v s st h k laid ready =
      let w = y.words in
      let m = axes-record xs l a es y st in
      let placed = laid-axes l xs (length s.reals) (length s.counts) w (stands-laid xs (length s.reals) (length s.counts) l (axes a es) y (axes-differ a es) st h k) m.kind in
      let e = node-axes l xs s.reals s.counts w m.kind in
      let kind = other-axes l ys others.reals others.counts v (here l s w) laid (axes-no-bins (here l s w) (axes_grid_at xs s.reals s.counts w) e) ready.same in
      let far = laid-axes l ys (length others.reals) (length others.counts) v laid kind in
      let f = node-axes l ys others.reals others.counts v kind in
      let mine : sound (model.axes (axes_grid_at xs s.reals s.counts w)) ≡ true = sym (ap sound e) ∙ ready.mine in
      let theirs : sound (model.axes (axes_grid_at ys others.reals others.counts v)) ≡ true = sym (ap sound f) ∙ ready.theirs in
      let same : same_shape (model.axes (axes_grid_at xs s.reals s.counts w)) (model.axes (axes_grid_at ys others.reals others.counts v)) ≡ true = sym (ap₂ same_shape e f) ∙ ready.same in
      let whole : kept_grid (merge_grid (model.axes (axes_grid_at xs s.reals s.counts w)) (model.axes (axes_grid_at ys others.reals others.counts v))) ≡ true =
      sym (ap₂ (λ (p q : model.Grid). kept_grid (merge_grid p q)) e f) ∙ ready.kept in
      let kept = both (account.well_formed (merged_of (axes_grid_at xs s.reals s.counts w).own (axes_grid_at ys others.reals others.counts v).own))
      (kept_axis_list (merge_all (axes_grid_at xs s.reals s.counts w).axes (axes_grid_at ys others.reals others.counts v).axes)) whole in
      let axs : get_or xs (w + 2) 0 ≡ a.axes = ap (λ (b : AxesPlan). b.axes) m.numbers in
      let mst : get_or xs (w + 7) 0 ≡ a.most = ap (λ (b : AxesPlan). b.most) m.numbers in
      let rr = m.reals in
      let cc = m.counts in
      let er : get_or xs (w + 9) 0 + 14 + get_or xs (w + 2) 0 * (6 * get_or xs (w + 7) 0 + 1) ≡ (after (axes a es) y).reals = rw (axs, mst, rr) (omega arith) in
      let ec : get_or xs (w + 10) 0 + 7 + get_or xs (w + 2) 0 * (3 * get_or xs (w + 7) 0 + 2) ≡ (after (axes a es) y).counts = rw (axs, mst, cc) (omega arith) in
      found_at (get_or xs (w + 9) 0) (get_or xs (w + 9) 0 + 14 + get_or xs (w + 2) 0 * (6 * get_or xs (w + 7) 0 + 1)) (get_or xs (w + 10) 0) (get_or xs (w + 10) 0 + 7 + get_or xs (w + 2) 0 * (3 * get_or xs (w + 7) 0 + 2))
      y.reals (after (axes a es) y).reals y.counts (after (axes a es) y).counts s (united_axes xs ys others w v s) (united_grid xs ys others l w v s)
      (λ (p : List Float) (q : List ℕ). model.axes (axes_grid_at xs p q w)) (λ (p : List Float) (q : List ℕ). grid_at l xs p q w)
      (merge_grid (model.axes (axes_grid_at xs s.reals s.counts w)) (model.axes (axes_grid_at ys others.reals others.counts v))) (merge_grid (here l s w) (there l v))
      rr er cc ec (both-axes xs ys others l w v s m.kind kind) (λ p q. node-axes l xs p q w m.kind) (sym (ap₂ merge_grid e f))
      (record {
        within = own_of_lem.axes-within xs ys w v others s placed far mine theirs same kept.0;
        reads = λ p q x z. own_of_lem.axes-grid-read xs ys w v others s placed far mine theirs same kept.0 p q x z;
      })

  -- ---- a bins grid's children

  module _ (l : ℕ) (deeper : Unites l) where
    abbrev step : ℕ → ℕ → Memory → Memory
    step = united_grid xs ys others l

    hung-unites : (t : Tree) (u : Tally) (x z : ℕ) (s : Memory) → (t ≡ nothing → ⊥) → x ≡ u.words → 1 ≤ u.words → Stands xs l t u → (after t u).reals ≤ length s.reals → (after t u).counts ≤ length s.counts
        → (z ≢ 0 → Laid l ys (length others.reals) (length others.counts) z) → Paired (child_in (here l s) x) (child_in (there l) z)
        → Found u.reals (after t u).reals u.counts (after t u).counts s (united_child xs ys others step x z s) (λ (a : List Float) (b : List ℕ). child_in (grid_at l xs a b) x) (merge_child (child_in (here l s) x) (child_in (there l) z))
    unfolding united_child child_in merge_child
    hung-unites t u x z s g e n st h k laid p =
        let here-is : x ≢ 0 = λ q. absurd (omega arith) in
        let far-is : z ≢ 0 = far-there (here l s) (there l) x z here-is p.same in
        let ready = pair-ready (here l s) (there l) x z here-is p in
        let d = deeper t u z s g st h k (laid far-is) (subst (λ (n : ℕ). Ready (here l s n) (there l z)) e ready) in
        rw (ne_eqb x 0 here-is, ne_eqb z 0 far-is, e) (record { within = d.within; reads = λ a b i j. ap model.grid (d.reads a b i j) })

    child-unites : (t : Tree) (u : Tally) (x z : ℕ) (s : Memory) → x ≡ link t u → 1 ≤ u.words → Stands xs l t u → (after t u).reals ≤ length s.reals → (after t u).counts ≤ length s.counts
        → (z ≢ 0 → Laid l ys (length others.reals) (length others.counts) z) → Paired (child_in (here l s) x) (child_in (there l) z)
        → Found u.reals (after t u).reals u.counts (after t u).counts s (united_child xs ys others step x z s) (λ (a : List Float) (b : List ℕ). child_in (grid_at l xs a b) x) (merge_child (child_in (here l s) x) (child_in (there l) z))
    unfolding link united_child child_in merge_child after
    child-unites nothing u x z s e n st h k laid p = rw e (record { within = within_same u.reals u.reals u.counts u.counts s; reads = λ a b i j. refl })
    child-unites (axes a es) u x z s e n st h k laid p = hung-unites (axes a es) u x z s (axes-differ a es) e n st h k laid p
    child-unites (bins b ts) u x z s e n st h k laid p = hung-unites (bins b ts) u x z s (bins-differ b ts) e n st h k laid p

    module _ (b : BinsPlan) (ts : Trees) (y : Tally) (v : ℕ) (st : Stands xs (suc l) (bins b ts) y) (s₀ : Memory)
        (laid : (j : ℕ) → j < b.bins → get_or ys (v + 7 + j) 0 ≢ 0 → Laid l ys (length others.reals) (length others.counts) (get_or ys (v + 7 + j) 0))
        (paired : (j : ℕ) → j < b.bins → Paired (child_in (here l s₀) (get_or xs (y.words + 7 + j) 0)) (child_in (there l) (get_or ys (v + 7 + j) 0))) where
      abbrev own : Tally
      own = bins_taken b y

      abbrev end : Tally
      end = after (bins b ts) y

      abbrev mine : ℕ → ℕ
      mine i = get_or xs (y.words + 7 + i) 0

      abbrev their : ℕ → ℕ
      their i = get_or ys (v + 7 + i) 0

      abbrev merged : ℕ → ℕ → List model.Child
      merged = kids (here l s₀) (there l) xs ys s₀.reals others.reals s₀.counts others.counts y.words v

      child-still : (s : Memory) (x : ℕ) → (x ≢ 0 → here l s x ≡ here l s₀ x) → child_in (here l s) x ≡ child_in (here l s₀) x
      unfolding child_in
      child-still s zero e = refl
      child-still s (suc n) e = let z : suc n ≢ 0 = λ q. absurd (omega arith) in rw (ne_eqb (suc n) 0 z, e z)

      form_of : (j : ℕ) → j < b.bins → mine j ≢ 0 → formed_grid (here l s₀ (mine j)) ≡ true
      unfolding sound
      form_of j h z = (both (formed_grid (here l s₀ (mine j))) (kept_grid (here l s₀ (mine j))) (child-sound (here l s₀) (mine j) z (paired j h).mine)).0

      -- the last k children, from child i on, which read as they did at first
      children-unite : (k i : ℕ) (u : Tally) (s : Memory) → i + k ≡ b.bins → u ≡ before ts i own → u.reals ≤ end.reals → u.counts ≤ end.counts
          → end.reals ≤ length s.reals → end.counts ≤ length s.counts → ((j : ℕ) → i ≤ j → j < b.bins → mine j ≢ 0 → here l s (mine j) ≡ here l s₀ (mine j))
          → Found u.reals end.reals u.counts end.counts s (united_children xs ys others step y.words v i k s) (λ (a : List Float) (b : List ℕ). fresh_children (grid_at l xs a b) xs y.words i k) (merged i k)
      unfolding united_children fresh_children kids
      children-unite zero i u s e o rr cc h g q = record { within = within_same u.reals end.reals u.counts end.counts s; reads = λ a b x z. refl }
      children-unite (suc k) i u s e o rr cc h g q =
          let c = child-record xs (suc l) b ts y i st (omega arith) in
          let t = child_at ts i in
          let stands : Stands xs l t u = subst (λ (n : Tally). Stands xs l t n) (sym o) (stands-in xs l b ts y st i (omega arith)) in
          let inside : Upto (after t u) end = subst (λ (n : Tally). Upto (after t n) end) (sym o) c.inside in
          let behind : Upto own u = subst (λ (n : Tally). Upto own n) (sym o) c.behind in
          let past = upto-after t u in
          let linked : mine i ≡ link t u = c.linked ∙ ap (link t) (sym o) in
          let large : 1 ≤ u.words = omega (arith, behind.words, taken-words b y) in
          let still : child_in (here l s) (mine i) ≡ child_in (here l s₀) (mine i) = child-still s (mine i) (q i (omega arith) (omega arith)) in
          let p = subst (λ (x : model.Child). Paired x (child_in (there l) (their i))) (sym still) (paired i (omega arith)) in
          let d = child-unites t u (mine i) (their i) s linked large stands (omega (arith, inside.reals)) (omega (arith, inside.counts)) (laid i (omega arith)) p in
          let one = subst (λ (x : model.Child). Found u.reals (after t u).reals u.counts (after t u).counts s (united_child xs ys others step (mine i) (their i) s) (λ (a : List Float) (b : List ℕ). child_in (grid_at l xs a b) (mine i)) (merge_child x (child_in (there l) (their i)))) still d in
          let s₁ = united_child xs ys others step (mine i) (their i) s in
          let size : length s₁.reals ≡ length s.reals = (one.within.low 0 0 (omega arith)).size in
          let sizes : length s₁.counts ≡ length s.counts = (one.within.few 0 0 (omega arith)).size in
          let up : suc i ≡ i + 1 = omega arith in
          let next : after t u ≡ before ts (i + 1) own = ap (after t) o ∙ sym (before-next ts i own (omega (arith, (bins-record xs (suc l) b ts y st).number))) ∙ ap (λ (j : ℕ). before ts j own) up in
          let n = after t u in
          let near : Within (before ts i own).reals (after t (before ts i own)).reals (before ts i own).counts (after t (before ts i own)).counts s s₁ =
          subst (λ (x : Tally). Within x.reals (after t x).reals x.counts (after t x).counts s s₁) o one.within in
          let on : (j : ℕ) → i + 1 ≤ j → j < b.bins → mine j ≢ 0 → here l s₁ (mine j) ≡ here l s₀ (mine j) =
          λ j x z m. later xs l b ts y st i j s s₁ (omega arith) z near m (ap formed_grid (q j (omega arith) z m) ∙ form_of j z m) ∙ q j (omega arith) z m in
          let r = children-unite k (i + 1) n s₁ (omega arith) next inside.reals inside.counts (omega arith) (omega arith) on in
          let last = united_children xs ys others step y.words v (i + 1) k s₁ in
          record {
            within = within_on u.reals end.reals u.counts end.counts u.reals n.reals u.counts n.counts n.reals end.reals n.counts end.counts s s₁ last
                (omega arith) inside.reals (omega arith) inside.counts past.reals (omega arith) past.counts (omega arith) one.within r.within;
            reads = λ a z p q.
                let first = one.reads a z
                (same-on nan u.reals n.reals s₁.reals last.reals a (same-sym nan u.reals n.reals last.reals s₁.reals (r.within.low u.reals n.reals (omega arith)))
                (same-within nan u.reals end.reals u.reals n.reals last.reals a (omega arith) inside.reals p))
                (same-on 0 u.counts n.counts s₁.counts last.counts z (same-sym 0 u.counts n.counts last.counts s₁.counts (r.within.few u.counts n.counts (omega arith)))
                (same-within 0 u.counts end.counts u.counts n.counts last.counts z (omega arith) inside.counts q)) in
                let others-read = r.reads a z (same-within nan u.reals end.reals n.reals end.reals last.reals a past.reals (omega arith) p)
                (same-within 0 u.counts end.counts n.counts end.counts last.counts z past.counts (omega arith) q) in
                ap₂ (λ (x : model.Child) (l : List model.Child). x ∷ l) first others-read;
          }

      -- the whole: its own, then its children
      bins-unite : (far : get_or ys v 0 ≡ 1 → ⊥) → get_or xs (y.words + 2) 0 ≡ get_or ys (v + 2) 0 → end.reals ≤ length s₀.reals → end.counts ≤ length s₀.counts
          → ((j : ℕ) → j < get_or xs (y.words + 2) 0 → own_of_lem.Fine xs ys others y.words v (bin_in xs s₀.reals s₀.counts y.words j).own (bin_in ys others.reals others.counts v j).own)
          → own_of_lem.Fine xs ys others y.words v (head_at xs s₀.reals s₀.counts y.words).own (head_at ys others.reals others.counts v).own
          → Found y.reals end.reals y.counts end.counts s₀ (united_grid xs ys others (suc l) y.words v s₀) (λ (a : List Float) (b : List ℕ). grid_at (suc l) xs a b y.words)
          (merge_grid (model.bins (head_at xs s₀.reals s₀.counts y.words) (bins_in (here l s₀) xs s₀.reals s₀.counts y.words 0 (get_or xs (y.words + 2) 0)))
          (model.bins (head_at ys others.reals others.counts v) (bins_in (there l) ys others.reals others.counts v 0 (get_or xs (y.words + 2) 0))))
      unfolding bins_row head_at bin_in merge_grid model.with_head
      bins-unite far many h g each head =
          let w = y.words in
          let m = bins-record xs (suc l) b ts y st in
          let bns : get_or xs (w + 2) 0 ≡ b.bins = ap (λ (a : BinsPlan). a.bins) m.numbers in
          let rr : get_or xs (w + 5) 0 ≡ y.reals = m.reals in
          let cc : get_or xs (w + 6) 0 ≡ y.counts = m.counts in
          let er : own.reals ≡ y.reals + (14 + 15 * b.bins) = taken-reals b y in
          let ec : own.counts ≡ y.counts + (7 + 7 * b.bins) = taken-counts b y in
          let up = below b ts y in
          let N = get_or xs (w + 2) 0 in
          let R = get_or xs (w + 5) 0 in
          let C = get_or xs (w + 6) 0 in
          let s₁ = united_own xs ys others w v s₀ in
          let last = united_children xs ys others step w v 0 N s₁ in
          let room : R + 14 + 15 * N ≤ length s₀.reals = omega (arith, up.reals) in
          let places : C + 7 + 7 * N ≤ length s₀.counts = omega (arith, up.counts) in
          let o = own_of_lem.own-within xs ys others w v s₀ room places head each in
          let size : length s₁.reals ≡ length s₀.reals = (o.low 0 0 (omega arith)).size in
          let sizes : length s₁.counts ≡ length s₀.counts = (o.few 0 0 (omega arith)).size in
          let still : (j : ℕ) → 0 ≤ j → j < b.bins → mine j ≢ 0 → here l s₁ (mine j) ≡ here l s₀ (mine j) =
          λ j x z n. let c = child-record xs (suc l) b ts y j st z in
          unmoved xs l b ts y st j R (R + 14 + 15 * N) C (C + 7 + 7 * N) s₀ s₁ z o (omega (arith, c.behind.reals)) (omega (arith, c.behind.counts)) n (form_of j z n) in
          let f = children-unite N 0 own s₁ (omega arith) (before-none ts own) up.reals up.counts (omega arith) (omega arith) still in
          let z : get_or xs w 0 ≡ 1 → ⊥ = λ e. absurd (omega (arith, m.kind)) in
          let level : suc l - 1 ≡ l = omega arith in
          let all : last ≡ united_grid xs ys others (suc l) w v s₀ =
          subst (λ (n : ℕ). united_children xs ys others (united_grid xs ys others n) w v 0 N s₁ ≡ united_grid xs ys others (suc l) w v s₀) level (both-bins xs ys others (suc l) w v s₀ z far many (omega arith)) in
          let g₀ = merge_grid (model.bins (head_at xs s₀.reals s₀.counts w) (bins_in (here l s₀) xs s₀.reals s₀.counts w 0 N)) (model.bins (head_at ys others.reals others.counts v) (bins_in (there l) ys others.reals others.counts v 0 N)) in
          found_at y.reals end.reals y.counts end.counts y.reals end.reals y.counts end.counts s₀ last (united_grid xs ys others (suc l) w v s₀)
          (λ (a : List Float) (c : List ℕ). model.bins (head_at xs a c w) (bins_in (grid_at l xs a c) xs a c w 0 N)) (λ (a : List Float) (c : List ℕ). grid_at (suc l) xs a c w)
          g₀ g₀ refl refl refl refl all (λ a c. bins-node l xs a c w z) refl
          (record {
            within = within_on y.reals end.reals y.counts end.counts R (R + 14 + 15 * N) C (C + 7 + 7 * N) own.reals end.reals own.counts end.counts s₀ s₁ last
                (omega arith) (omega (arith, up.reals)) (omega arith) (omega (arith, up.counts)) (omega arith) (omega arith) (omega arith) (omega arith) o f.within;
            reads = λ a c p q.
                let u : Same nan R (R + 14 + 15 * N) s₁.reals a =
                same-on nan R (R + 14 + 15 * N) s₁.reals last.reals a (same-sym nan R (R + 14 + 15 * N) last.reals s₁.reals (f.within.low R (R + 14 + 15 * N) (omega arith)))
                (same-within nan y.reals end.reals R (R + 14 + 15 * N) last.reals a (omega arith) (omega (arith, up.reals)) p) in
                let x : Same 0 C (C + 7 + 7 * N) s₁.counts c =
                same-on 0 C (C + 7 + 7 * N) s₁.counts last.counts c (same-sym 0 C (C + 7 + 7 * N) last.counts s₁.counts (f.within.few C (C + 7 + 7 * N) (omega arith)))
                (same-within 0 y.counts end.counts C (C + 7 + 7 * N) last.counts c (omega arith) (omega (arith, up.counts)) q) in
                let hung = f.reads a c (same-within nan y.reals end.reals own.reals end.reals last.reals a (omega arith) (omega arith) p)
                (same-within 0 y.counts end.counts own.counts end.counts last.counts c (omega arith) (omega arith) q) in
                let bs = bins-join (here l s₀) (there l) xs ys s₀.reals others.reals s₀.counts others.counts w v (grid_at l xs a c) a c N 0
                (λ j i n. own_of_lem.bin-read xs ys others w v s₀ room places head each a c u x j (omega arith)) hung in
                rw (own_of_lem.head_read xs ys others w v s₀ room places head each a c u x, bs);
          })

  -- a bins grid whose other is ready
  bins-unites : (l : ℕ) → Unites l → (b : BinsPlan) (ts : Trees) (y : Tally) (v : ℕ) (s : Memory) → Stands xs (suc l) (bins b ts) y → (after (bins b ts) y).reals ≤ length s.reals
      → (after (bins b ts) y).counts ≤ length s.counts → Laid (suc l) ys (length others.reals) (length others.counts) v → Ready (here (suc l) s y.words) (there (suc l) v)
      → Found y.reals (after (bins b ts) y).reals y.counts (after (bins b ts) y).counts s (united_grid xs ys others (suc l) y.words v s) (λ (a : List Float) (b : List ℕ). grid_at (suc l) xs a b y.words)
      (merge_grid (here (suc l) s y.words) (there (suc l) v))
  unfolding bins_row same_shape merge_grid kept_grid model.with_head
  bins-unites l deeper b ts y v s st h g laid ready =
      let w = y.words in
      let m = bins-record xs (suc l) b ts y st in
      let z : get_or xs w 0 ≡ 1 → ⊥ = λ e. absurd (omega (arith, m.kind)) in
      let bns : get_or xs (w + 2) 0 ≡ b.bins = ap (λ (a : BinsPlan). a.bins) m.numbers in
      let N = get_or xs (w + 2) 0 in
      let H = head_at xs s.reals s.counts w in
      let K = head_at ys others.reals others.counts v in
      let B = bins_in (here l s) xs s.reals s.counts w 0 N in
      let D = bins_in (there l) ys others.reals others.counts v 0 N in
      let e = bins-node l xs s.reals s.counts w z in
      let far = other-bins (suc l) ys others.reals others.counts v H B (sym (ap (λ (x : model.Grid). same_shape x (there (suc l) v)) e) ∙ ready.same) in
      let d = bins-node l ys others.reals others.counts v far in
      let many : N ≡ get_or ys (v + 2) 0 = many-same (here l s) (there l) xs s.reals s.counts w ys others.reals others.counts v N (get_or ys (v + 2) 0) (sym (ap₂ same_shape e d) ∙ ready.same) in
      let f : there (suc l) v ≡ model.bins K D = d ∙ ap (λ (n : ℕ). model.bins K (bins_in (there l) ys others.reals others.counts v 0 n)) (sym many) in
      let same : same_bins B D ≡ true = sym (ap₂ same_shape e f) ∙ ready.same in
      let mine : sound (model.bins H B) ≡ true = sym (ap sound e) ∙ ready.mine in
      let theirs : sound (model.bins K D) ≡ true = sym (ap sound f) ∙ ready.theirs in
      let whole : kept_grid (merge_grid (model.bins H B) (model.bins K D)) ≡ true = sym (ap₂ (λ (p q : model.Grid). kept_grid (merge_grid p q)) e f) ∙ ready.kept in
      let kept = both (account.well_formed (merged_of H.own K.own)) (kept_bins (merge_bins B D)) whole in
      let there-laid = bins-of l ys (length others.reals) (length others.counts) v laid far in
      let one : (j : ℕ) → j < N → sound_bin (bin_in xs s.reals s.counts w j) (child_in (here l s) (get_or xs (w + 7 + j) 0)) ≡ true = λ j x. sound-in (here l s) xs s.reals s.counts w H N j x mine in
      let two : (j : ℕ) → j < N → sound_bin (bin_in ys others.reals others.counts v j) (child_in (there l) (get_or ys (v + 7 + j) 0)) ≡ true =
      λ j x. sound-in (there l) ys others.reals others.counts v K N j x theirs in
      let fit : (j : ℕ) → j < N → (account.well_formed (merged_of (bin_in xs s.reals s.counts w j).own (bin_in ys others.reals others.counts v j).own) ≡ true)
      × (kept_child (merge_child (child_in (here l s) (get_or xs (w + 7 + j) 0)) (child_in (there l) (get_or ys (v + 7 + j) 0))) ≡ true) =
      λ j x. kept_at (here l s) (there l) xs ys s.reals others.reals s.counts others.counts w v N j x kept.1 in
      subst (λ (x : model.Grid). Found y.reals (after (bins b ts) y).reals y.counts (after (bins b ts) y).counts s (united_grid xs ys others (suc l) w v s) (λ (a : List Float) (b : List ℕ). grid_at (suc l) xs a b w) x) (sym (ap₂ merge_grid e f))
      (bins-unite l deeper b ts y v st s (λ j x. there-laid.children j (omega (arith, many, bns)))
      (λ j x. let i : j < N = omega (arith, bns) in
      record { mine = sound-below _ _ (one j i); theirs = sound-below _ _ (two j i); same = same_at (here l s) (there l) xs ys s.reals others.reals s.counts others.counts w v N j i same; kept = (fit j i).1 })
      far many h g (λ j x. (matches.own-sound _ _ (one j x), matches.own-sound _ _ (two j x), (fit j x).0)) (matches.head-sound H B mine, matches.head-sound K D theirs, kept.0))

  pub unites : (l : ℕ) → Unites l
  unites zero nothing y v s g st h k laid ready = absurd (g refl)
  unites zero (axes a es) y v s g st h k laid ready = axes-unites zero a es y v s st h k laid ready
  unites zero (bins b ts) y v s g st h k laid ready = absurd (omega (arith, (bins-record xs zero b ts y st).ranges.level))
  unites (suc l) nothing y v s g st h k laid ready = absurd (g refl)
  unites (suc l) (axes a es) y v s g st h k laid ready = axes-unites (suc l) a es y v s st h k laid ready
  unites (suc l) (bins b ts) y v s g st h k laid ready = bins-unites l (unites l) b ts y v s st h k laid ready

-- ---- the call

-- a merge that is given: shapes are the same, and what it gives may be kept
pub given-merge : (g o m : model.Grid) → merge_of g o ≡ gives m → (same_shape g o ≡ true) × (kept_grid (merge_grid g o) ≡ true) × (merge_grid g o ≡ m)
unfolding merge_of
given-merge g o m e =
    let p = passes (not (same_shape g o)) 4 _ m e in
    let q = passes (not (equal_grid g o)) 11 _ m p.1 in
    let r = passes (not (kept_grid (merge_grid g o))) 8 _ m q.1 in
    (not-false (same_shape g o) p.0, not-false (kept_grid (merge_grid g o)) r.0, given (merge_grid g o) m r.1)

-- where nothing stands against two states and the model gives their merge, the call leaves it in memory, well formed, in lists of the same
-- lengths
pub merge-read : (table : List ℕ) (s : Memory) (other : List ℕ) (others : Memory) (m : model.Grid) → Words table → Words other
    → pair_fault table s.reals s.counts other others.reals others.counts ≡ 0 → merge_of (root_of table s.reals s.counts) (root_of other others.reals others.counts) ≡ gives m
    → ((merge_into_of table s other others).answer ≡ 0) × (root_of table (merge_into_of table s other others).state.reals (merge_into_of table s other others).state.counts ≡ m) × (sound m ≡ true)
    × (length (merge_into_of table s other others).state.reals ≡ length s.reals) × (length (merge_into_of table s other others).state.counts ≡ length s.counts)
unfolding needs_of merge_into_of united_by
merge-read table s other others m large wide f e =
    let after-all = united_grid table other others 4 0 0 s in
    let fault = pair_fault table s.reals s.counts other others.reals others.counts in
    let model-says = merge_of (root_of table s.reals s.counts) (root_of other others.reals others.counts) in
    let done : merge_into_of table s other others ≡ state_end 0 after-all =
    went_on fault (state_end fault s) (united_by model-says after-all s) f ∙ ap (λ (p : Paper model.Grid). united_by p after-all s) e in
    let k = pair-clear table s.reals s.counts other others.reals others.counts large wide f in
    let p = k.0 in
    let r = passed-stands table p.needs large p.planned in
    let rr : p.needs.reals ≡ (after r.tree untaken).reals = ap (λ (n : Needs). n.reals) r.needs in
    let cc : p.needs.counts ≡ (after r.tree untaken).counts = ap (λ (n : Needs). n.counts) r.needs in
    let g = given-merge (root_of table s.reals s.counts) (root_of other others.reals others.counts) m e in
    let u = unites table other others 4 r.tree untaken 0 s r.grid r.stands (omega (arith, p.reals-fit)) (omega (arith, p.counts-fit)) k.1.laid
    (record { mine = k.0.well; theirs = k.1.well; same = g.0; kept = g.1 }) in
    let read = u.reads after-all.reals after-all.counts (same_refl nan untaken.reals (after r.tree untaken).reals after-all.reals) (same_refl 0 untaken.counts (after r.tree untaken).counts after-all.counts) in (
      ap (λ (x : StateEnd). x.answer) done,
      ap (λ (x : StateEnd). root_of table x.state.reals x.state.counts) done ∙ read ∙ g.2,
      sym (ap sound g.2) ∙ sound-merged (root_of table s.reals s.counts) (root_of other others.reals others.counts) k.0.well g.1,
      ap (λ (x : StateEnd). length x.state.reals) done ∙ (u.within.low 0 0 (omega arith)).size,
      ap (λ (x : StateEnd). length x.state.counts) done ∙ (u.within.few 0 0 (omega arith)).size,
    )
