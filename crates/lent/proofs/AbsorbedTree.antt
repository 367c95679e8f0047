-- A sample taken in and read back: on a table in which a plan's tree stands, the memory afterwards holds the model's trained grid.
use mathlib.Core.Path.{◌≡◌, refl, sym, ap, ap₂, ◌∙◌, subst}
use mathlib.Core.Logic.{◌≢◌}
use mathlib.Core.Bool.{Bool, true, false, cond}
use mathlib.Core.List.{List}
use Prim.Native.Nat.{ℕ, zero, suc, ◌+◌, ◌*◌, ◌≤◌, ◌<◌}
use native.Mathlib.Omega.{arith}
use borrow.Author.Tests.{ne_eqb, eqb-false, ltb-true, ltb-false}
use lib.Dec.{ltb, eqb}
use lib.ListN.{length, get_or}
use lib.Ieee.{Float, nan, binary64, mul}
use Rattle.doubles.specs.Paper.{Paper, gives, refuses}
use Rattle.doubles.proofs.Truth.{both}
use Rattle.accumulator.specs.Steps.{added_of}
use Rattle.plan.specs.declared.Tally.{Tally}
use Rattle.plan.specs.declared.AxesPlan.{AxesPlan}
use Rattle.plan.specs.declared.BinsPlan.{BinsPlan}
use Rattle.plan.specs.declared.Needs.{Needs}
use Rattle.plan.specs.Plan.{Tree, Trees, nothing, axes, bins}
use Rattle.plan.specs.Needs.{axes_reals, axes_counts, axes_taken, bins_taken, after, child_at, before, untaken, needs_of}
use Rattle.plan.specs.Table.{link}
use Rattle.plan.specs.Walk.{axes_row, bins_row}
use Rattle.plan.proofs.Tables.{Words}
use Rattle.plan.proofs.Rereads.{taken-words}
use Rattle.plan.proofs.Records.{Stands, Upto, axes-record, bins-record, child-record, passed-stands}
use Rattle.model.specs.Grid as model
use Rattle.model.specs.Sound.{sound, formed_child, kept_child}
use Rattle.model.specs.Train.{train_grid, train_bin, train_child, train_of}
use Rattle.lent.specs.declared.Sample.{Sample}
use Rattle.lent.specs.declared.Gain.{Gain}
use Rattle.lent.specs.Memory.{Memory, record_at}
use Rattle.lent.specs.Sampled.{sound_child, sample_of}
use Rattle.lent.specs.Tree.{axes_grid_at, head_at, bin_in, child_in, bins_in, node_at, grid_at, BinsLaid, Laid}
use Rattle.lent.specs.Absorbed.{path_left, weights_left, places_in, Takes, TakesChild, gain_at, gained, absorbed_child, absorbed_bin, absorbed_bins, absorbed_node, absorbed, objection_of}
use Rattle.lent.specs.State.{root_of, state_fault}
use Rattle.lent.specs.Calls.{on_state, StateEnd, state_end, trained_by, train_call_of}
use Rattle.lent.proofs.Same.{Same, Alike, same_alike, same-sym, same-on}
use Rattle.lent.proofs.Laid.{stands-laid, stands-bins, laid-axes}
use Rattle.lent.proofs.Sounds.{node-axes}
use Rattle.lent.proofs.States.{clear}
use Rattle.lent.proofs.Samples.{sound-in, sound-below}
use Rattle.lent.proofs.Fitting.{one_left}
use Rattle.lent.proofs.FoundedOwn.{Within, within_same, within_on}
use Rattle.lent.proofs.Trees.{axes-differ, bins-differ, taken-reals, taken-counts, below}
use Rattle.lent.proofs.Children.{stands-in, behind, alike-grid}
use Rattle.lent.proofs.Accepts.{formed, takes-below, takes-grid}
use Rattle.lent.proofs.Absorbs.{child-still, absorbed-axes}
use Rattle.lent.proofs.Objections.{whole, grants, takes-root, train-done}
use Rattle.lent.proofs.Formed.{sound-trained}
use Rattle.lent.proofs.Gains.{gain-all}
use Rattle.lent.proofs.AbsorbedOwn.{axes-within, axes-grid-read, above, own-within, head_read, spot-read, chance-read, other-read, bins-absorbed}

module _ (xs : List ℕ) (s : Sample) (e : Float) (k : ℕ) where
  -- the model's step below d bins grids, and the memory's
  abbrev trained : ℕ → model.Grid → model.Grid
  trained d g = train_grid g (path_left s d) (weights_left s d) (places_in s) e k

  abbrev trained_child : ℕ → model.Child → model.Child
  trained_child d c = train_child c (path_left s d) (weights_left s d) (places_in s) e k

  abbrev step : ℕ → ℕ → ℕ → Memory → Memory
  step l w d m = absorbed l xs s e k w d m

  -- what is left differs within these bounds only, and is read as the model's
  pub record Tied {X : Type 0} (r e' c c' : ℕ) (m m' : Memory) (read : Memory → X) (g : X) : Type 0 where
    pub within : Within r e' c c' m m'
    pub reads : read m' ≡ g

  abbrev pub Ties : ℕ → Type 0
  Ties l = (t : Tree) (y : Tally) (m : Memory) (d : ℕ) → (t ≡ nothing → ⊥) → Stands xs l t y → (after t y).reals ≤ length m.reals → (after t y).counts ≤ length m.counts
      → Takes (grid_at l xs m.reals m.counts y.words) s d k
      → Tied y.reals (after t y).reals y.counts (after t y).counts m (step l y.words d m) (λ (n : Memory). grid_at l xs n.reals n.counts y.words) (trained d (grid_at l xs m.reals m.counts y.words))

  -- ---- an axes grid

  axes-tied : (l : ℕ) (a : AxesPlan) (es : List ℕ) (y : Tally) (m : Memory) (d : ℕ) → Stands xs l (axes a es) y → (after (axes a es) y).reals ≤ length m.reals → (after (axes a es) y).counts ≤ length m.counts
      → Takes (grid_at l xs m.reals m.counts y.words) s d k
      → Tied y.reals (after (axes a es) y).reals y.counts (after (axes a es) y).counts m (step l y.words d m) (λ (n : Memory). grid_at l xs n.reals n.counts y.words) (trained d (grid_at l xs m.reals m.counts y.words))
  unfolding after axes_taken axes_reals axes_counts axes_row
  axes-tied l a es y m d st h j t =
      let w = y.words in
      let o = axes-record xs l a es y st in
      let laid = laid-axes l xs (length m.reals) (length m.counts) w (stands-laid xs (length m.reals) (length m.counts) l (axes a es) y (axes-differ a es) st h j) o.kind in
      let axs : get_or xs (w + 2) 0 ≡ a.axes = ap (λ (b : AxesPlan). b.axes) o.numbers in
      let mst : get_or xs (w + 7) 0 ≡ a.most = ap (λ (b : AxesPlan). b.most) o.numbers in
      let rr = o.reals in
      let cc = o.counts in
      let er : get_or xs (w + 9) 0 + 14 + get_or xs (w + 2) 0 * (6 * get_or xs (w + 7) 0 + 1) ≡ (after (axes a es) y).reals = rw (axs, mst, rr) (omega arith) in
      let ec : get_or xs (w + 10) 0 + 7 + get_or xs (w + 2) 0 * (3 * get_or xs (w + 7) 0 + 2) ≡ (after (axes a es) y).counts = rw (axs, mst, cc) (omega arith) in
      let was : grid_at l xs m.reals m.counts w ≡ model.axes (axes_grid_at xs m.reals m.counts w) = node-axes l xs m.reals m.counts w o.kind in
      let t' = subst (λ (g : model.Grid). Takes g s d k) was t in
      let i = axes-within xs m w s d k laid t' e in
      let same = absorbed-axes xs s e k w d m l o.kind in
      subst (λ (n : Memory). Tied y.reals (after (axes a es) y).reals y.counts (after (axes a es) y).counts m n (λ (n : Memory). grid_at l xs n.reals n.counts w) (trained d (grid_at l xs m.reals m.counts w))) same (record {
        within =
            record {
              low = λ lo hi h. i.low lo hi (omega arith);
              high = λ lo hi h. i.high lo hi (omega arith);
              few = λ lo hi h. i.few lo hi (omega arith);
              many = λ lo hi h. i.many lo hi (omega arith);
            };
        reads = node-axes l xs _ _ w o.kind ∙ axes-grid-read xs m w s d k laid t' e ∙ sym (ap (trained d) was);
      })

  module _ (l : ℕ) (deeper : Ties l) where
    -- ---- what hangs at a link
    abbrev Hung : (q : Tree) (u : Tally) (at d : ℕ) (m : Memory) → Type 0
    Hung q u at d m =
        Tied u.reals (after q u).reals u.counts (after q u).counts m (absorbed_child (step l) at d m) (λ (n : Memory). child_in (grid_at l xs n.reals n.counts) at) (trained_child d (child_in (grid_at l xs m.reals m.counts) at))

    hung : (q : Tree) (u : Tally) (at d : ℕ) (m : Memory) → (q ≡ nothing → ⊥) → at ≡ u.words → 1 ≤ u.words → Stands xs l q u → (after q u).reals ≤ length m.reals → (after q u).counts ≤ length m.counts
        → TakesChild (child_in (grid_at l xs m.reals m.counts) at) s d k → Hung q u at d m
    unfolding absorbed_child child_in train_child
    hung q u at d m there a n st h j t =
        let z : at ≡ 0 → ⊥ = λ r. absurd (omega arith) in
        let G = grid_at l xs m.reals m.counts in
        let f = deeper q u m d there st h j (subst (λ (o : ℕ). Takes (G o) s d k) a (takes-grid G at s d k z t)) in
        rw (ne_eqb at 0 z, a) (record { within = f.within; reads = ap model.grid f.reads })

    pick : (q : Tree) (u : Tally) (at d : ℕ) (m : Memory) → at ≡ link q u → 1 ≤ u.words → Stands xs l q u → (after q u).reals ≤ length m.reals → (after q u).counts ≤ length m.counts
        → TakesChild (child_in (grid_at l xs m.reals m.counts) at) s d k → Hung q u at d m
    unfolding link absorbed_child child_in train_child after
    pick nothing u at d m a n st h j t = rw a (record { within = within_same u.reals u.reals u.counts u.counts m; reads = refl })
    pick (axes b es) u at d m a n st h j t = hung (axes b es) u at d m (axes-differ b es) a n st h j t
    pick (bins b ts) u at d m a n st h j t = hung (bins b ts) u at d m (bins-differ b ts) a n st h j t

    -- ---- a bins grid

    module _ (b : BinsPlan) (ts : Trees) (y : Tally) (st : Stands xs (suc l) (bins b ts) y) where
      abbrev own : Tally
      own = bins_taken b y

      abbrev end : Tally
      end = after (bins b ts) y

      abbrev at : ℕ → ℕ
      at j = get_or xs (y.words + 7 + j) 0

      abbrev N : ℕ
      N = get_or xs (y.words + 2) 0

      -- another child, out of memory that is alike on what it takes
      other-child : (j : ℕ) (m n : Memory) → j < b.bins → formed_child (child_in (grid_at l xs m.reals m.counts) (at j)) ≡ true
          → Alike nan (before ts j own).reals (after (child_at ts j) (before ts j own)).reals m.reals n.reals
          → Alike 0 (before ts j own).counts (after (child_at ts j) (before ts j own)).counts m.counts n.counts
          → child_in (grid_at l xs n.reals n.counts) (at j) ≡ child_in (grid_at l xs m.reals m.counts) (at j)
      unfolding child_in formed_child
      other-child j m n c f x z = told (eqb (at j) 0) refl f
        where
          told : (o : Bool) → eqb (at j) 0 ≡ o → formed_child (cond o model.nothing (model.grid (grid_at l xs m.reals m.counts (at j)))) ≡ true
              → cond o model.nothing (model.grid (grid_at l xs n.reals n.counts (at j))) ≡ cond o model.nothing (model.grid (grid_at l xs m.reals m.counts (at j)))
          told true o q = refl
          told false o q = ap model.grid (sym (alike-grid xs l b ts y st j m n c (eqb-false (at j) 0 o) q x z))

      -- ---- one step at this bins grid

      module _ (m : Memory) (d : ℕ) (h : end.reals ≤ length m.reals) (g : end.counts ≤ length m.counts)
          (t : Takes (model.bins (head_at xs m.reals m.counts y.words) (bins_in (grid_at l xs m.reals m.counts) xs m.reals m.counts y.words 0 N)) s d k) where
        abbrev w : ℕ
        w = y.words

        abbrev R : ℕ
        R = get_or xs (w + 5) 0

        abbrev C : ℕ
        C = get_or xs (w + 6) 0

        abbrev F : ℕ → model.Grid
        F = grid_at l xs m.reals m.counts

        abbrev H : model.Head
        H = head_at xs m.reals m.counts w

        abbrev i : ℕ
        i = get_or s.path d 0

        abbrev v : Float
        v = get_or s.weights d nan

        abbrev u : Tally
        u = before ts i own

        abbrev u' : Tally
        u' = after (child_at ts i) (before ts i own)

        abbrev spot : ℕ → ℕ
        spot j = R + 14 + N + 14 * j

        abbrev place : ℕ → ℕ
        place j = C + 7 + 7 * j

        abbrev value : Float
        value = mul binary64 (mul binary64 v (get_or m.reals (R + 14 + i) nan)) e

        abbrev inner : Gain
        inner = gain_at (spot i) (place i) value k m

        abbrev outer : Gain
        outer = gain_at R C (mul binary64 e v) k m

        abbrev put : Memory
        put = gained R C outer (gained (spot i) (place i) inner m)

        abbrev last : Memory
        last = absorbed_bin (absorbed l xs s e k) xs v e k w d i m

        as_many : N ≡ b.bins
        unfolding bins_row
        as_many = ap (λ (a : BinsPlan). a.bins) (bins-record xs (suc l) b ts y st).numbers

        inside : i < N
        inside = (formed F xs m.reals m.counts w N H s d k t).bin

        from-reals : R ≡ y.reals
        from-reals = (bins-record xs (suc l) b ts y st).reals

        from-counts : C ≡ y.counts
        from-counts = (bins-record xs (suc l) b ts y st).counts

        -- where a child begins, and where it ends
        past : (j : ℕ) → j < N → (R + 14 + 15 * N ≤ (before ts j own).reals) × (C + 7 + 7 * N ≤ (before ts j own).counts)
        past j o =
            let r = child-record xs (suc l) b ts y j st (omega (arith, as_many)) in
            (omega (arith, r.behind.reals, taken-reals b y, from-reals, as_many), omega (arith, r.behind.counts, taken-counts b y, from-counts, as_many))

        upto-end : (j : ℕ) → j < N → Upto (after (child_at ts j) (before ts j own)) end
        upto-end j o = (child-record xs (suc l) b ts y j st (omega (arith, as_many))).inside

        abbrev laid : BinsLaid (Laid l xs (length m.reals) (length m.counts)) xs (length m.reals) (length m.counts) w
        laid = stands-bins xs (length m.reals) (length m.counts) l b ts y st h g

        -- what was put keeps to the grid's own
        touched : Within R (R + 14 + 15 * N) C (C + 7 + 7 * N) m put
        touched = own-within xs w i m outer inner inside

        child : Tied u.reals u'.reals u.counts u'.counts put last (λ (n : Memory). child_in (grid_at l xs n.reals n.counts) (at i)) (trained_child (d + 1) (child_in F (at i)))
        unfolding absorbed_bin
        child =
            let r = child-record xs (suc l) b ts y i st (omega (arith, as_many, inside)) in
            let z = upto-end i inside in
            let still = child-still l xs w m laid outer inner (gained (spot i) (place i) inner m) put s d k t refl refl in
            let o = pick (child_at ts i) u (at i) (d + 1) put r.linked (omega (arith, r.behind.words, taken-words b y)) (stands-in xs l b ts y st i (omega (arith, as_many, inside)))
            (omega (arith, z.reals, h, (touched.low 0 0 (omega arith)).size)) (omega (arith, z.counts, g, (touched.few 0 0 (omega arith)).size))
            (subst (λ (c : model.Child). TakesChild c s (d + 1) k) still (takes-below F xs m.reals m.counts w N H s d k t)) in
            record { within = o.within; reads = o.reads ∙ sym (ap (trained_child (d + 1)) still) }

        step-within : Within y.reals end.reals y.counts end.counts m last
        step-within =
            let a = below b ts y in
            let z = upto-end i inside in
            within_on y.reals end.reals y.counts end.counts R (R + 14 + 15 * N) C (C + 7 + 7 * N) u.reals u'.reals u.counts u'.counts m put last
            (omega (arith, from-reals)) (omega (arith, a.reals, taken-reals b y, from-reals, as_many)) (omega (arith, from-counts)) (omega (arith, a.counts, taken-counts b y, from-counts, as_many))
            (omega (arith, (past i inside).0, from-reals)) z.reals (omega (arith, (past i inside).1, from-counts)) z.counts
            touched child.within

        head-trained : head_at xs last.reals last.counts w ≡ model.with_head H (added_of H.own (mul binary64 e v) k)
        unfolding head_at model.with_head absorbed_bin gain_at
        head-trained =
            rw (head_read xs w i m outer inner inside last u.reals u'.reals u.counts u'.counts laid.room laid.places (past i inside).0 (past i inside).1 child.within
            ∙ gain-all (record_at m.reals m.counts R C) (mul binary64 e v) k)

        bin-trained : bin_in xs last.reals last.counts w i
            ≡ model.with_bin (bin_in xs m.reals m.counts w i) (added_of (bin_in xs m.reals m.counts w i).own (mul binary64 (mul binary64 v (bin_in xs m.reals m.counts w i).probability) e) k)
        unfolding bin_in model.with_bin absorbed_bin gain_at
        bin-trained =
            rw (
              chance-read xs w i m outer inner inside last u.reals u'.reals u.counts u'.counts laid.room laid.places (past i inside).0 (past i inside).1 child.within i inside,
              spot-read xs w i m outer inner inside last u.reals u'.reals u.counts u'.counts laid.room laid.places (past i inside).0 (past i inside).1 child.within
                  ∙ gain-all (record_at m.reals m.counts (spot i) (place i)) value k,
            )

        -- beside it all is as it was
        around : (x z : Tally) → R + 14 + 15 * N ≤ x.reals → C + 7 + 7 * N ≤ x.counts → Same nan x.reals z.reals last.reals put.reals → Same 0 x.counts z.counts last.counts put.counts
            → Alike nan x.reals z.reals m.reals last.reals × Alike 0 x.counts z.counts m.counts last.counts
        around x z o n c f = (
          same_alike nan x.reals z.reals m.reals last.reals (same-sym nan x.reals z.reals last.reals m.reals
              (same-on nan x.reals z.reals last.reals put.reals m.reals c (touched.high x.reals z.reals o))),
          same_alike 0 x.counts z.counts m.counts last.counts (same-sym 0 x.counts z.counts last.counts m.counts
              (same-on 0 x.counts z.counts last.counts put.counts m.counts f (touched.many x.counts z.counts n))),
        )

        kept-still : (j : ℕ) → j < N → j ≢ i → Alike nan (before ts j own).reals (after (child_at ts j) (before ts j own)).reals m.reals last.reals
            × Alike 0 (before ts j own).counts (after (child_at ts j) (before ts j own)).counts m.counts last.counts
        kept-still j o n = told (ltb j i) refl
          where
            told : (a : Bool) → ltb j i ≡ a → Alike nan (before ts j own).reals (after (child_at ts j) (before ts j own)).reals m.reals last.reals
                × Alike 0 (before ts j own).counts (after (child_at ts j) (before ts j own)).counts m.counts last.counts
            told true a =
                let r = behind xs l b ts y st j i (ltb-true j i a) (omega (arith, as_many)) in
                around (before ts j own) (after (child_at ts j) (before ts j own)) (past j o).0 (past j o).1 (child.within.low _ _ r.reals) (child.within.few _ _ r.counts)
            told false a =
                let r = behind xs l b ts y st i j (above j i n (ltb-false j i a)) (omega (arith, as_many, inside)) in
                around (before ts j own) (after (child_at ts j) (before ts j own)) (past j o).0 (past j o).1 (child.within.high _ _ r.reals) (child.within.many _ _ r.counts)

        bin-still : (j : ℕ) → j < N → j ≢ i → bin_in xs last.reals last.counts w j ≡ bin_in xs m.reals m.counts w j
        unfolding bin_in absorbed_bin
        bin-still j o n =
            rw (
              chance-read xs w i m outer inner inside last u.reals u'.reals u.counts u'.counts laid.room laid.places (past i inside).0 (past i inside).1 child.within j o,
              other-read xs w i m outer inner inside last u.reals u'.reals u.counts u'.counts laid.room laid.places (past i inside).0 (past i inside).1 child.within j o n,
            )

        child-form : (j : ℕ) → j < N → formed_child (child_in F (at j)) ≡ true
        unfolding sound_child
        child-form j o = (both (formed_child (child_in F (at j))) (kept_child (child_in F (at j))) (sound-below (bin_in xs m.reals m.counts w j) (child_in F (at j)) (sound-in F xs m.reals m.counts w H N j o t.well))).0

        all-trained : bins_in (grid_at l xs last.reals last.counts) xs last.reals last.counts w 0 N
            ≡ train_bin (bins_in F xs m.reals m.counts w 0 N) i v (path_left s (d + 1)) (weights_left s (d + 1)) (places_in s) e k
        all-trained =
            bins-absorbed F (grid_at l xs last.reals last.counts) xs m last w v (path_left s (d + 1)) (weights_left s (d + 1)) (places_in s) e k N 0 i i (omega arith) inside
            (λ j a o n. record { bin = bin-still j (omega arith) n; child = other-child j m last (omega (arith, as_many)) (child-form j (omega arith)) (kept-still j (omega arith) n).0 (kept-still j (omega arith) n).1 })
            bin-trained child.reads

        step-trained : model.bins (head_at xs last.reals last.counts w) (bins_in (grid_at l xs last.reals last.counts) xs last.reals last.counts w 0 N)
            ≡ trained d (model.bins H (bins_in F xs m.reals m.counts w 0 N))
        unfolding train_grid
        step-trained =
            let o = formed F xs m.reals m.counts w N H s d k t in
            rw (one_left 0 s.path d s.levels o.deeper, one_left nan s.weights d s.given o.weight) (ap₂ model.bins head-trained all-trained)

      -- the grid whose run begins there
      node-is : (n : Memory) → grid_at (suc l) xs n.reals n.counts y.words ≡ model.bins (head_at xs n.reals n.counts y.words) (bins_in (grid_at l xs n.reals n.counts) xs n.reals n.counts y.words 0 N)
      unfolding grid_at node_at
      node-is n =
          let z : get_or xs y.words 0 ≡ 1 → ⊥ = λ o. absurd (omega (arith, (bins-record xs (suc l) b ts y st).kind)) in
          rw (ne_eqb (get_or xs y.words 0) 1 z)

      step_is : (m : Memory) (d : ℕ) → absorbed_bin (absorbed l xs s e k) xs (get_or s.weights d nan) e k y.words d (get_or s.path d 0) m ≡ absorbed (suc l) xs s e k y.words d m
      unfolding absorbed absorbed_node absorbed_bins
      step_is m d =
          let z : get_or xs y.words 0 ≡ 1 → ⊥ = λ o. absurd (omega (arith, (bins-record xs (suc l) b ts y st).kind)) in
          rw (ne_eqb (get_or xs y.words 0) 1 z)

      bins-tied : (m : Memory) (d : ℕ) → end.reals ≤ length m.reals → end.counts ≤ length m.counts
          → Takes (grid_at (suc l) xs m.reals m.counts y.words) s d k
          → Tied y.reals end.reals y.counts end.counts m (step (suc l) y.words d m) (λ (n : Memory). grid_at (suc l) xs n.reals n.counts y.words) (trained d (grid_at (suc l) xs m.reals m.counts y.words))
      bins-tied m d h g t =
          let was = node-is m in
          let t' = subst (λ (o : model.Grid). Takes o s d k) was t in
          subst (λ (n : Memory). Tied y.reals end.reals y.counts end.counts m n (λ (n : Memory). grid_at (suc l) xs n.reals n.counts y.words) (trained d (grid_at (suc l) xs m.reals m.counts y.words))) (step_is m d)
          (record { within = step-within m d h g t'; reads = node-is _ ∙ step-trained m d h g t' ∙ sym (ap (trained d) was) })

  pub all-tied : (l : ℕ) → Ties l
  all-tied zero nothing y m d n st h g t = absurd (n refl)
  all-tied zero (axes a es) y m d n st h g t = axes-tied zero a es y m d st h g t
  all-tied zero (bins b ts) y m d n st h g t = absurd (omega (arith, (bins-record xs zero b ts y st).ranges.level))
  all-tied (suc l) nothing y m d n st h g t = absurd (n refl)
  all-tied (suc l) (axes a es) y m d n st h g t = axes-tied (suc l) a es y m d st h g t
  all-tied (suc l) (bins b ts) y m d n st h g t = bins-tied l (all-tied l) b ts y st m d h g t

-- ---- the whole call

-- the grid of an answer
abbrev grid_of : Paper model.Grid → model.Grid → model.Grid
grid_of (gives g) h = g
grid_of (refuses n) h = h

module _ (table : List ℕ) (m : Memory) (s : Sample) (e : Float) (k : ℕ) where
  abbrev root : model.Grid
  root = root_of table m.reals m.counts

  abbrev called : StateEnd
  called = train_call_of table m s e k

  -- where the model gives a grid, the answer is 0, that grid is read afterwards, and it is well formed; the two lists keep their lengths
  pub record Trains (g : model.Grid) : Type 0 where
    pub answer : called.answer ≡ 0
    pub reads : root_of table called.state.reals called.state.counts ≡ g
    pub well : sound g ≡ true
    pub reals-long : length called.state.reals ≡ length m.reals
    pub counts-long : length called.state.counts ≡ length m.counts

  pub train-trains : (g : model.Grid) → Words table → state_fault table m.reals m.counts ≡ 0 → train_of root (sample_of s) e k ≡ gives g → Trains g
  unfolding needs_of objection_of
  train-trains g large fault given =
      let c = clear table m.reals m.counts large fault in
      let none : objection_of (train_of root (sample_of s) e k) ≡ 0 = ap objection_of given in
      let q = grants root s e k none in
      let p = passed-stands table c.needs large c.planned in
      let rr : c.needs.reals ≡ (after p.tree untaken).reals = ap (λ (n : Needs). n.reals) p.needs in
      let cc : c.needs.counts ≡ (after p.tree untaken).counts = ap (λ (n : Needs). n.counts) p.needs in
      let tied = all-tied table s e k 4 p.tree untaken m 0 p.grid p.stands (omega (arith, c.reals-fit)) (omega (arith, c.counts-fit)) (takes-root root s e k c.well none) in
      let done : state_end 0 (absorbed 4 table s e k 0 0 m) ≡ called = train-done table m s e k (absorbed 4 table s e k 0 0 m) fault none refl in
      let same : train_grid root (path_left s 0) (weights_left s 0) (places_in s) e k ≡ g = whole root s e k ∙ ap (λ (a : Paper model.Grid). grid_of a root) (sym q.gave ∙ given) in
      record {
        answer = sym (ap (λ (o : StateEnd). o.answer) done);
        reads = sym (ap (λ (o : StateEnd). root_of table o.state.reals o.state.counts) done) ∙ tied.reads ∙ same;
        well = sym (ap sound same) ∙ sound-trained root (path_left s 0) (weights_left s 0) (places_in s) e k c.well q.kept;
        reals-long = sym (ap (λ (o : StateEnd). length o.state.reals) done) ∙ (tied.within.low 0 0 (omega arith)).size;
        counts-long = sym (ap (λ (o : StateEnd). length o.state.counts) done) ∙ (tied.within.few 0 0 (omega arith)).size;
      }

-- where the answer is a refusal, nothing was written
pub train-stays : (table : List ℕ) (m : Memory) (s : Sample) (e : Float) (k : ℕ) → ((train_call_of table m s e k).answer ≡ 0 → ⊥) → (train_call_of table m s e k).state ≡ m
unfolding train_call_of trained_by
train-stays table m s e k n = stays (on_state (state_fault table m.reals m.counts) (train_of (root_of table m.reals m.counts) (sample_of s) e k)) n
  where
    stays : (p : Paper model.Grid) → ((trained_by table m s e k p).answer ≡ 0 → ⊥) → (trained_by table m s e k p).state ≡ m
    stays (gives g) z = absurd (z refl)
    stays (refuses j) z = refl
