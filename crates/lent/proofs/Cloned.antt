-- A cleared root, and a copy without samples, are read as the model's: the root's own change, and what hangs below reads as it did.
use mathlib.Core.Path.{◌≡◌, refl, sym, ap, ap₂, ◌∙◌, subst}
use mathlib.Core.Bool.{true}
use mathlib.Core.List.{List, map}
use Prim.Native.Nat.{ℕ, zero, suc, ◌+◌, ◌*◌, ◌≤◌, ◌<◌}
use native.Mathlib.Omega.{arith}
use lib.ListN.{length, drop, get_or, set, length-set, length-map}
use lib.Seq.{get_or-set_same, get_or-set_other}
use lib.Ieee.{nan}
use Rattle.doubles.specs.Numbers.{zero64}
use Rattle.doubles.proofs.Truth.{both}
use Rattle.accumulator.specs.Record.{with_waiting}
use Rattle.accumulator.specs.Steps.{cleared_of}
use Rattle.plan.specs.declared.Needs.{Needs}
use Rattle.plan.specs.declared.AxesPlan as planned
use Rattle.plan.specs.declared.BinsPlan.{BinsPlan}
use Rattle.plan.specs.Plan.{Tree, Trees, nothing, axes, bins}
use Rattle.plan.specs.Needs.{after, untaken, needs_of}
use Rattle.plan.specs.Paper as plan
use Rattle.plan.specs.Calls.{sizes_of}
use Rattle.plan.proofs.Tables.{Words}
use Rattle.plan.proofs.Records as records
use Rattle.model.specs.Axes.{Axis, cleared_axis, copy_axes}
use Rattle.model.specs.Grid as model
use Rattle.model.specs.Sound.{sound, formed_child, kept_child}
use Rattle.lent.specs.Layout.{axis_reals, axis_counts, axis_at, axes_from}
use Rattle.lent.specs.Memory.{Memory, record_at}
use Rattle.lent.specs.Drawn.{Stands, axes_at}
use Rattle.lent.specs.Sampled.{sound_child}
use Rattle.lent.specs.Tree.{axes_place, axes_grid_at, head_at, bin_in, child_in, bins_in, grid_at, AxesLaid}
use Rattle.lent.specs.Cleared.{cleared_memory, cleared_at, cleared_axes, cleared_from, cleared_own, cleared_root}
use Rattle.lent.specs.State.{root_of, judged_to}
use Rattle.lent.specs.Calls.{copied_to, cloned_by, clone_of}
use Rattle.lent.proofs.Same.{same-on, same-sym, same_alike, same-set-below, same-set-above}
use Rattle.lent.proofs.Reading.{Holding, length-bins, record_same, axes-same}
use Rattle.lent.proofs.Laid.{stands-laid, stands-bins, laid-axes}
use Rattle.lent.proofs.Copies.{roomed, cleared-axes, cleared-below}
use Rattle.lent.proofs.Sounds.{node-axes, node-bins}
use Rattle.lent.proofs.Samples.{sound-stands, sound-in, sound-below}
use Rattle.lent.proofs.FoundedOwn.{Within, within_same, within_on}
use Rattle.lent.proofs.Trees.{axes-differ}
use Rattle.lent.proofs.Alike.{child-alike}
use Rattle.lent.proofs.Clones.{root-axes, root-bins, front_length, ready, copy-reads, copy-sound}

-- ---- one accumulator

module _ (r c : ℕ) (s : Memory) where
  pub cleared-within : Within r (r + 2) c (c + 2) s (cleared_at r c s)
  unfolding cleared_at
  cleared-within =
      let x = set s.reals r zero64 in
      let n = set s.counts c 0 in
      record {
        low = λ lo hi h. same-on nan lo hi _ x s.reals (same-set-above nan lo hi (r + 1) zero64 x (omega arith)) (same-set-above nan lo hi r zero64 s.reals (omega arith));
        high = λ lo hi h. same-on nan lo hi _ x s.reals (same-set-below nan lo hi (r + 1) zero64 x (omega arith)) (same-set-below nan lo hi r zero64 s.reals (omega arith));
        few = λ lo hi h. same-on 0 lo hi _ n s.counts (same-set-above 0 lo hi (c + 1) 0 n (omega arith)) (same-set-above 0 lo hi c 0 s.counts (omega arith));
        many = λ lo hi h. same-on 0 lo hi _ n s.counts (same-set-below 0 lo hi (c + 1) 0 n (omega arith)) (same-set-below 0 lo hi c 0 s.counts (omega arith));
      }

  cleared-record : r + 14 ≤ length s.reals → c + 7 ≤ length s.counts
      → record_at (cleared_at r c s).reals (cleared_at r c s).counts r c ≡ cleared_of (record_at s.reals s.counts r c)
  unfolding cleared_at record_at cleared_of with_waiting
  cleared-record h k =
      let t = cleared_at r c s in
      let x : (i : ℕ) → 2 ≤ i → i < 14 → get_or t.reals (r + i) nan ≡ get_or s.reals (r + i) nan = λ i l m. (cleared-within.high (r + 2) (r + 14) (omega arith)).cells (r + i) (omega arith) (omega arith) in
      let n : (i : ℕ) → 2 ≤ i → i < 7 → get_or t.counts (c + i) 0 ≡ get_or s.counts (c + i) 0 = λ i l m. (cleared-within.many (c + 2) (c + 7) (omega arith)).cells (c + i) (omega arith) (omega arith) in
      let y = set s.reals r zero64 in
      let z = set s.counts c 0 in
      let sum : get_or t.reals r nan ≡ zero64 = get_or-set_other y (r + 1) r zero64 nan (λ e. absurd (omega arith)) ∙ get_or-set_same s.reals r zero64 nan (omega arith) in
      let square : get_or t.reals (r + 1) nan ≡ zero64 = get_or-set_same y (r + 1) zero64 nan (omega (arith, length-set s.reals r zero64)) in
      let waits : get_or t.counts c 0 ≡ 0 = get_or-set_other z (c + 1) c 0 0 (λ e. absurd (omega arith)) ∙ get_or-set_same s.counts c 0 0 (omega arith) in
      let zeros : get_or t.counts (c + 1) 0 ≡ 0 = get_or-set_same z (c + 1) 0 0 (omega (arith, length-set s.counts c 0)) in
      rw (
        sum,
        square,
        x 2 (omega arith) (omega arith),
        x 3 (omega arith) (omega arith),
        x 4 (omega arith) (omega arith),
        x 5 (omega arith) (omega arith),
        x 6 (omega arith) (omega arith),
        x 7 (omega arith) (omega arith),
        x 8 (omega arith) (omega arith),
        x 9 (omega arith) (omega arith),
        x 10 (omega arith) (omega arith),
        x 11 (omega arith) (omega arith),
        waits,
        zeros,
        n 2 (omega arith) (omega arith),
        n 3 (omega arith) (omega arith),
        x 12 (omega arith) (omega arith),
        n 4 (omega arith) (omega arith),
        x 13 (omega arith) (omega arith),
        n 5 (omega arith) (omega arith),
        n 6 (omega arith) (omega arith),
      )

-- ---- an axes grid

holding-cleared : (m : ℕ) (s t : Memory) (k r c : ℕ) → axes_from m t.reals t.counts k r c ≡ map cleared_axis (axes_from m s.reals s.counts k r c)
    → Holding m s.counts k c → Holding m t.counts k c
unfolding Holding axes_from axis_at cleared_axis
holding-cleared m s t zero r c e h = tt
holding-cleared m s t (suc k) r c e h =
    let d = axis_at m t.reals t.counts r c in
    let first : d ≡ cleared_axis (axis_at m s.reals s.counts r c) = ap (λ (xs : List Axis). get_or xs 0 d) e in
    let held : get_or t.counts c 0 ≡ get_or s.counts c 0 =
    sym (length-bins m t.reals t.counts r c 0 (get_or t.counts c 0)) ∙ ap (λ (a : Axis). length a.bins) first
    ∙ length-map (axis_at m s.reals s.counts r c).bins cleared_of ∙ length-bins m s.reals s.counts r c 0 (get_or s.counts c 0) in
    (omega (arith, h.0), holding-cleared m s t k (r + axis_reals m) (c + axis_counts m) (ap (λ (xs : List Axis). drop 1 xs) e) h.1)

module _ (table : List ℕ) (w : ℕ) (s : Memory) (a : AxesLaid table (length s.reals) (length s.counts) w) (st : Stands s.reals s.counts (axes_place table w)) where
  abbrev AR : ℕ
  AR = get_or table (w + 9) 0

  abbrev Ac : ℕ
  Ac = get_or table (w + 10) 0

  abbrev AK : ℕ
  AK = get_or table (w + 2) 0

  abbrev AM : ℕ
  AM = get_or table (w + 7) 0

  abbrev t : Memory
  t = cleared_memory (axes_place table w) s

  abbrev u : Memory
  u = cleared_at AR Ac t

  own-cleared : record_at u.reals u.counts AR Ac ≡ cleared_of (record_at s.reals s.counts AR Ac)
  unfolding axes_place
  own-cleared =
      let low = cleared-below (axes_place table w) s st AR (AR + 14) Ac (Ac + 7) (omega arith) (omega arith) in
      cleared-record AR Ac t (omega (arith, low.0.size, a.room)) (omega (arith, low.1.size, a.places))
      ∙ ap cleared_of (record_same AR Ac t.reals s.reals t.counts s.counts low.0 low.1)

  all-cleared : axes_at u.reals u.counts (axes_place table w) ≡ map cleared_axis (axes_at s.reals s.counts (axes_place table w))
  unfolding axes_place
  all-cleared =
      let e = cleared-axes (axes_place table w) s st in
      let held = holding-cleared AM s t AK (AR + 14) (Ac + 7) e (roomed AM AK (AR + 14) (Ac + 7) s st.2).1 in
      let touched = cleared-within AR Ac t in
      sym (axes-same AM t.reals u.reals t.counts u.counts AK (AR + 14) (Ac + 7) held
      (same-sym nan (AR + 14) (AR + 14 + AK * (6 * AM + 1)) u.reals t.reals (touched.high (AR + 14) (AR + 14 + AK * (6 * AM + 1)) (omega arith)))
      (same-sym 0 (Ac + 7) (Ac + 7 + AK * (3 * AM + 2)) u.counts t.counts (touched.many (Ac + 7) (Ac + 7 + AK * (3 * AM + 2)) (omega arith)))) ∙ e

  axes-grid-cleared : axes_grid_at table (cleared_axes table w s).reals (cleared_axes table w s).counts w ≡ copy_axes (axes_grid_at table s.reals s.counts w)
  unfolding cleared_axes axes_grid_at copy_axes
  axes-grid-cleared = rw (own-cleared, all-cleared)

-- ---- a bins grid

module _ (table : List ℕ) (w : ℕ) where
  abbrev BR : ℕ
  BR = get_or table (w + 5) 0

  abbrev BC : ℕ
  BC = get_or table (w + 6) 0

  abbrev BN : ℕ
  BN = get_or table (w + 2) 0

  -- where the accumulator of bin i begins
  abbrev spot : ℕ → ℕ
  spot i = BR + 14 + BN + 14 * i

  abbrev place : ℕ → ℕ
  place i = BC + 7 + 7 * i

  from-within : (k i : ℕ) (s : Memory) → Within (spot i) (spot i + 14 * k) (place i) (place i + 7 * k) s (cleared_from table w i k s)
  unfolding cleared_from
  from-within zero i s = within_same (spot i) (spot i + 14 * 0) (place i) (place i + 7 * 0) s
  from-within (suc k) i s =
      let s₁ = cleared_at (spot i) (place i) s in
      within_on (spot i) (spot i + 14 * suc k) (place i) (place i + 7 * suc k) (spot i) (spot i + 2) (place i) (place i + 2) (spot (i + 1)) (spot (i + 1) + 14 * k) (place (i + 1)) (place (i + 1) + 7 * k)
      s s₁ (cleared_from table w (i + 1) k s₁) (omega arith) (omega arith) (omega arith) (omega arith) (omega arith) (omega arith) (omega arith) (omega arith) (cleared-within (spot i) (place i) s) (from-within k (i + 1) s₁)

  -- bin d of the k from bin i on
  from-record : (k i d : ℕ) (s : Memory) → d < k → i + k ≤ BN → BR + 14 + 15 * BN ≤ length s.reals → BC + 7 + 7 * BN ≤ length s.counts
      → record_at (cleared_from table w i k s).reals (cleared_from table w i k s).counts (spot (i + d)) (place (i + d)) ≡ cleared_of (record_at s.reals s.counts (spot (i + d)) (place (i + d)))
  unfolding cleared_from
  from-record zero i d s j h l m = absurd (omega arith)
  from-record (suc k) i zero s j h l m =
      let e : i + 0 ≡ i = omega arith in
      let s₁ = cleared_at (spot i) (place i) s in
      let t = cleared_from table w (i + 1) k s₁ in
      let rest = from-within k (i + 1) s₁ in
      rw e (record_same (spot i) (place i) t.reals s₁.reals t.counts s₁.counts (rest.low (spot i) (spot i + 14) (omega arith)) (rest.few (place i) (place i + 7) (omega arith))
      ∙ cleared-record (spot i) (place i) s (omega arith) (omega arith))
  from-record (suc k) i (suc d) s j h l m =
      let e : i + suc d ≡ i + 1 + d = omega arith in
      let s₁ = cleared_at (spot i) (place i) s in
      let first = cleared-within (spot i) (place i) s in
      rw e (from-record k (i + 1) d s₁ (omega arith) (omega arith) (omega (arith, (first.low 0 0 (omega arith)).size)) (omega (arith, (first.few 0 0 (omega arith)).size))
      ∙ ap cleared_of (record_same (spot (i + 1 + d)) (place (i + 1 + d)) s₁.reals s.reals s₁.counts s.counts
      (first.high (spot (i + 1 + d)) (spot (i + 1 + d) + 14) (omega arith)) (first.many (place (i + 1 + d)) (place (i + 1 + d) + 7) (omega arith))))

  module _ (s : Memory) (h : BR + 14 + 15 * BN ≤ length s.reals) (l : BC + 7 + 7 * BN ≤ length s.counts) where
    abbrev all : Memory
    all = cleared_from table w 0 BN s

    abbrev end : Memory
    end = cleared_at BR BC all

    abbrev last : Within BR (BR + 2) BC (BC + 2) all end
    last = cleared-within BR BC all

    pub own-within : Within BR (BR + 14 + 15 * BN) BC (BC + 7 + 7 * BN) s (cleared_own table w s)
    unfolding cleared_own
    own-within =
        within_on BR (BR + 14 + 15 * BN) BC (BC + 7 + 7 * BN) (spot 0) (spot 0 + 14 * BN) (place 0) (place 0 + 7 * BN) BR (BR + 2) BC (BC + 2) s all end
        (omega arith) (omega arith) (omega arith) (omega arith) (omega arith) (omega arith) (omega arith) (omega arith) (from-within BN 0 s) last

    head-cleared : head_at table (cleared_own table w s).reals (cleared_own table w s).counts w ≡ model.with_head (head_at table s.reals s.counts w) (cleared_of (head_at table s.reals s.counts w).own)
    unfolding cleared_own head_at model.with_head
    head-cleared =
        let bins = from-within BN 0 s in
        let own : record_at end.reals end.counts BR BC ≡ cleared_of (record_at s.reals s.counts BR BC) =
        cleared-record BR BC all (omega (arith, (bins.low 0 0 (omega arith)).size)) (omega (arith, (bins.few 0 0 (omega arith)).size))
        ∙ ap cleared_of (record_same BR BC all.reals s.reals all.counts s.counts (bins.low BR (BR + 14) (omega arith)) (bins.few BC (BC + 7) (omega arith))) in
        rw own

    bin-cleared : (i : ℕ) → i < BN
        → bin_in table (cleared_own table w s).reals (cleared_own table w s).counts w i ≡ model.with_bin (bin_in table s.reals s.counts w i) (cleared_of (bin_in table s.reals s.counts w i).own)
    unfolding cleared_own bin_in model.with_bin
    bin-cleared i j =
        let bins = from-within BN 0 s in
        let e : 0 + i ≡ i = omega arith in
        let p : get_or end.reals (BR + 14 + i) nan ≡ get_or s.reals (BR + 14 + i) nan =
        (last.high (BR + 14 + i) (BR + 14 + i + 1) (omega arith)).cells (BR + 14 + i) (omega arith) (omega arith) ∙ (bins.low (BR + 14 + i) (BR + 14 + i + 1) (omega arith)).cells (BR + 14 + i) (omega arith) (omega arith) in
        let one : record_at all.reals all.counts (spot i) (place i) ≡ cleared_of (record_at s.reals s.counts (spot i) (place i)) =
        subst (λ (q : ℕ). record_at all.reals all.counts (spot q) (place q) ≡ cleared_of (record_at s.reals s.counts (spot q) (place q))) e (from-record BN 0 i s j (omega arith) h l) in
        let a : record_at end.reals end.counts (spot i) (place i) ≡ cleared_of (record_at s.reals s.counts (spot i) (place i)) =
        record_same (spot i) (place i) end.reals all.reals end.counts all.counts (last.high (spot i) (spot i + 14) (omega arith)) (last.many (place i) (place i + 7) (omega arith)) ∙ one in
        rw (p, a)

    -- the last k bins, from bin i on, where what hangs there reads as it did
    bins-cleared : (f f' : ℕ → model.Grid) → ((i : ℕ) → i < BN → child_in f (get_or table (w + 7 + i) 0) ≡ child_in f' (get_or table (w + 7 + i) 0)) → (k i : ℕ) → i + k ≡ BN
        → bins_in f' table (cleared_own table w s).reals (cleared_own table w s).counts w i k ≡ model.cleared_bins (bins_in f table s.reals s.counts w i k)
    unfolding bins_in model.cleared_bins
    bins-cleared f f' below zero i e = refl
    bins-cleared f f' below (suc k) i e = rw (bin-cleared i (omega arith), sym (below i (omega arith)), bins-cleared f f' below k (i + 1) (omega arith))

-- ---- the root

module _ (xs : List ℕ) (s : Memory) (well : sound (root_of xs s.reals s.counts) ≡ true) where
  abbrev done : Memory
  done = cleared_root xs s

  axes-root : (a : planned.AxesPlan) (es : List ℕ) → records.Stands xs 4 (axes a es) untaken → (after (axes a es) untaken).reals ≤ length s.reals → (after (axes a es) untaken).counts ≤ length s.counts
      → root_of xs done.reals done.counts ≡ model.copy_grid (root_of xs s.reals s.counts)
  unfolding model.copy_grid
  axes-root a es st h k =
      let kind = (records.axes-record xs 4 a es untaken st).kind in
      let t = cleared_axes xs 0 s in
      let laid = laid-axes 4 xs (length s.reals) (length s.counts) 0 (stands-laid xs (length s.reals) (length s.counts) 4 (axes a es) untaken (axes-differ a es) st h k) kind in
      let stands = sound-stands xs s.reals s.counts 0 laid (sym (ap sound (node-axes 4 xs s.reals s.counts 0 kind)) ∙ well) in
      ap (λ (m : Memory). root_of xs m.reals m.counts) (sym (root-axes xs s kind))
      ∙ node-axes 4 xs t.reals t.counts 0 kind
      ∙ ap model.axes (axes-grid-cleared xs 0 s laid stands)
      ∙ sym (ap model.copy_grid (node-axes 4 xs s.reals s.counts 0 kind))

  bins-root : (b : BinsPlan) (ts : Trees) → records.Stands xs 4 (bins b ts) untaken → (after (bins b ts) untaken).reals ≤ length s.reals → (after (bins b ts) untaken).counts ≤ length s.counts
      → root_of xs done.reals done.counts ≡ model.copy_grid (root_of xs s.reals s.counts)
  unfolding model.copy_grid sound_child
  bins-root b ts st h k =
      let laid = stands-bins xs (length s.reals) (length s.counts) 3 b ts untaken st h k in
      let other : get_or xs 0 0 ≡ 1 → ⊥ = λ e. absurd (omega (arith, laid.kind)) in
      let room = laid.room in
      let places = laid.places in
      let t = cleared_own xs 0 s in
      let w = own-within xs 0 s room places in
      let f = grid_at 3 xs s.reals s.counts in
      let head = head_at xs s.reals s.counts 0 in
      let was = node-bins 4 xs s.reals s.counts 0 other (omega arith) in
      let fine = sym (ap sound was) ∙ well in
      let formed : (i : ℕ) → i < get_or xs 2 0 → formed_child (child_in f (get_or xs (7 + i) 0)) ≡ true =
      λ i j. (both (formed_child (child_in f (get_or xs (7 + i) 0))) (kept_child (child_in f (get_or xs (7 + i) 0)))
      (sound-below (bin_in xs s.reals s.counts 0 i) (child_in f (get_or xs (7 + i) 0)) (sound-in f xs s.reals s.counts 0 head (get_or xs 2 0) i j fine))).0 in
      let still : (i : ℕ) → i < get_or xs 2 0 → child_in f (get_or xs (7 + i) 0) ≡ child_in (grid_at 3 xs t.reals t.counts) (get_or xs (7 + i) 0) =
      λ i j. child-alike xs s.reals t.reals s.counts t.counts (length s.reals) (length s.counts) 3 0 laid i j (formed i j)
      (same_alike nan _ _ s.reals t.reals (same-sym nan _ _ t.reals s.reals (w.high (get_or xs 5 0 + 14 + 15 * get_or xs 2 0) (length s.reals) (omega arith))))
      (same_alike 0 _ _ s.counts t.counts (same-sym 0 _ _ t.counts s.counts (w.many (get_or xs 6 0 + 7 + 7 * get_or xs 2 0) (length s.counts) (omega arith)))) in
      ap (λ (m : Memory). root_of xs m.reals m.counts) (sym (root-bins xs s other))
      ∙ node-bins 4 xs t.reals t.counts 0 other (omega arith)
      ∙ ap₂ model.bins (head-cleared xs 0 s room places) (bins-cleared xs 0 s room places f (grid_at 3 xs t.reals t.counts) still (get_or xs 2 0) 0 (omega arith))
      ∙ sym (ap model.copy_grid was)

  tree-cleared : (t : Tree) → (t ≡ nothing → ⊥) → records.Stands xs 4 t untaken → (after t untaken).reals ≤ length s.reals → (after t untaken).counts ≤ length s.counts
      → root_of xs done.reals done.counts ≡ model.copy_grid (root_of xs s.reals s.counts)
  tree-cleared nothing g st h k = absurd (g refl)
  tree-cleared (axes a es) g st h k = axes-root a es st h k
  tree-cleared (bins b ts) g st h k = bins-root b ts st h k

-- where nothing stands against it, the copy is the model's copy of the grid
pub clone-copies : (table : List ℕ) (s to : Memory) (n : Needs) → Words table → sizes_of table ≡ plan.gives n
    → judged_to table s.reals s.counts (length to.reals) (length to.counts) n ≡ 0
    → root_of table (clone_of table s to).copy.reals (clone_of table s to).copy.counts ≡ model.copy_grid (root_of table s.reals s.counts)
unfolding clone_of cloned_by copied_to needs_of
clone-copies table s to n large planned fault =
    let r = ready table s to n fault in
    let p = records.passed-stands table n large planned in
    let rr : n.reals ≡ (after p.tree untaken).reals = ap (λ (m : Needs). m.reals) p.needs in
    let cc : n.counts ≡ (after p.tree untaken).counts = ap (λ (m : Needs). m.counts) p.needs in
    let copy = copied_to n s to in
    let lr : length copy.reals ≡ length to.reals = front_length n.reals s.reals to.reals r.reals r.places in
    let lc : length copy.counts ≡ length to.counts = front_length n.counts s.counts to.counts r.counts r.tallies in
    rw (planned, fault) (tree-cleared table copy (copy-sound table s to n large planned r copy refl) p.tree p.grid p.stands (omega (arith, r.places)) (omega (arith, r.tallies))
    ∙ sym (ap model.copy_grid (copy-reads table s to n large planned r)))
