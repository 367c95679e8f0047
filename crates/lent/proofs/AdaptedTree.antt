-- The update of a tree, read back: on a table in which a plan's tree stands, what was found is what the model finds, and where no 8 was found
-- the memory after it holds the model's grid.
use mathlib.Core.Path.{◌≡◌, refl, sym, ap, ap₂, ◌∙◌, subst}
use mathlib.Core.Logic.{◌≢◌}
use mathlib.Core.Bool.{Bool, true, false, ◌&&◌, true≢false, or-false, cond, not, ◌||◌}
use mathlib.Core.List.{List}
use Prim.Native.Nat.{ℕ, zero, suc, ◌+◌, ◌*◌, ◌≤◌, ◌<◌}
use native.Mathlib.Omega.{arith}
use borrow.Author.Tests.{ne_eqb}
use lib.ListN.{length, get_or}
use lib.Ieee.{Float, nan, eq}
use Rattle.doubles.proofs.Truth.{both}
use Rattle.accumulator.specs.declared.StatisticsAccumulator.{StatisticsAccumulator}
use Rattle.accumulator.specs.Record.{well_formed}
use Rattle.accumulator.specs.Update.{updated_of}
use Rattle.model.specs.Grid as model
use Rattle.model.specs.Sound.{sound}
use Rattle.model.specs.Update.{Outcome, update_grid, adapted_bins, all_idle, raws, with_probabilities, update_bins}
use Rattle.lent.specs.Memory.{Memory, record_at}
use Rattle.lent.specs.Tree.{head_at, bin_in, child_in, bins_in}
use Rattle.lent.specs.Founded.{fresh_children}
use Rattle.lent.specs.Adapted.{accounts_updated, followed, bins_adapted, chances_adapted, account_updated, idle_in, averages_at, node_updated, updated_in}
use Rattle.lent.proofs.Same.{Same, same-on, same-sym, same-within, same_refl}
use Rattle.lent.proofs.Reading.{record_same}
use Rattle.lent.proofs.FoundedOwn.{Within, within_on, within_same}
use Rattle.lent.proofs.Turns.{Turned, children_after, no-either}
use Rattle.plan.specs.declared.Tally.{Tally}
use Rattle.plan.specs.declared.BinsPlan.{BinsPlan}
use Rattle.plan.specs.Plan.{Tree, Trees, nothing, bins, axes}
use Rattle.plan.specs.Needs.{bins_taken, after, axes_reals, axes_counts, axes_taken, untaken, needs_of}
use Rattle.plan.specs.Walk.{bins_row, axes_row}
use Rattle.plan.proofs.Records.{Stands, bins-record, axes-record, passed-stands}
use Rattle.model.specs.Sound.{chance, formed_grid, kept_grid}
use Rattle.lent.specs.Judged.{sound_bin, sound_bins}
use Rattle.lent.specs.Tree.{grid_at, node_at}
use Rattle.lent.specs.Turns.{children_turned}
use Rattle.lent.specs.Adapted.{updated_in}
use Rattle.lent.proofs.Sounds.{sound_more, sound-bins, child-grid, node-axes}
use Rattle.lent.proofs.Trees.{before-none, taken-reals, taken-counts, below, axes-differ}
use Rattle.lent.proofs.Turns.{children-turned}
use Rattle.recut.specs.Chances.{all_chances, adapted_to}
use Rattle.lent.specs.Renewed.{finding}
use Rattle.doubles.specs.Numbers.{zero64}
use Rattle.plan.specs.declared.Needs.{Needs}
use Rattle.plan.specs.Paper.{gives}
use Rattle.plan.specs.Calls.{sizes_of}
use Rattle.plan.proofs.Tables.{Words}
use Rattle.lent.specs.State.{root_of}
use Rattle.lent.proofs.Laid.{stands-laid, laid-axes}
use Rattle.lent.proofs.Adapts.{grid-updated-axes}
use Rattle.plan.specs.declared.AxesPlan as planned
use Rattle.lent.proofs.AdaptedOwn.{from_first, bad_of, BR, BC, BN, spot, place, Accounts, accounts-turned, overlaid, overlaid-same, bins-overlaid, after-length, overlaid-chances, idle-read, raws-read, bins-updated, after-bin, chances, chances-length, Own, own-turned, axes-turned}

-- ---- a sound bins grid: its own, its bins and what hangs there

module _ (f : ℕ → model.Grid) (table : List ℕ) (reals : List Float) (counts : List ℕ) (w : ℕ) where
  sound-each : (n i : ℕ) → sound_bins (bins_in f table reals counts w i n) ≡ true → (j : ℕ) → i ≤ j → j < i + n → sound_bin (bin_in table reals counts w j) (child_in f (get_or table (w + 7 + j) 0)) ≡ true
  unfolding bins_in
  sound-each zero i e j h k = absurd (omega arith)
  sound-each (suc n) i e j h k =
      let p = both (sound_bin (bin_in table reals counts w i) (child_in f (get_or table (w + 7 + i) 0))) (sound_bins (bins_in f table reals counts w (i + 1) n))
      (sym (sound_more (bin_in table reals counts w i) (child_in f (get_or table (w + 7 + i) 0)) (bins_in f table reals counts w (i + 1) n)) ∙ e) in
      from_first (λ (m : ℕ). sound_bin (bin_in table reals counts w m) (child_in f (get_or table (w + 7 + m) 0)) ≡ true) i j h p.0 (λ g. sound-each n (i + 1) p.1 j g (omega arith))

  sound-own : (b : model.Bin) (c : model.Child) → sound_bin b c ≡ true → well_formed b.own ≡ true
  unfolding sound_bin
  sound-own b c e = (both (chance b.probability) (well_formed b.own) (both (chance b.probability && well_formed b.own) _ e).0).1

  sound-hung : (b : model.Bin) (link : ℕ) → link ≢ 0 → sound_bin b (child_in f link) ≡ true → sound (f link) ≡ true
  sound-hung b link z e = (both (chance b.probability && well_formed b.own) (sound (f link)) (sym (child-grid f b link z) ∙ e)).1

-- the same bounds, step and grid under other names
turned-at : {X : Type 0} {r e c d r₁ e₁ c₁ d₁ : ℕ} {s : Memory} {o o₁ : Outcome Memory} {read read₁ : List Float → List ℕ → X} {m m₁ : Outcome X} → r ≡ r₁ → e ≡ e₁ → c ≡ c₁ → d ≡ d₁ → o ≡ o₁
    → ((a : List Float) (b : List ℕ) → read₁ a b ≡ read a b) → m ≡ m₁ → Turned r e c d s o read m → Turned r₁ e₁ c₁ d₁ s o₁ read₁ m₁
turned-at {X} {r} {e} {c} {d} {r₁} {e₁} {c₁} {d₁} {s} {o} {o₁} {read} {read₁} {m} {m₁} i j k l p n q t =
    let t₁ : Turned r e c d s o read₁ m = record { within = t.within; eight = t.eight; nine = t.nine; reads = λ z a b x y. n a b ∙ t.reads z a b x y } in
    subst (λ (z : ℕ). Turned z e₁ c₁ d₁ s o₁ read₁ m₁) i
    (subst (λ (z : ℕ). Turned r z c₁ d₁ s o₁ read₁ m₁) j
    (subst (λ (z : ℕ). Turned r e z d₁ s o₁ read₁ m₁) k
    (subst (λ (z : ℕ). Turned r e c z s o₁ read₁ m₁) l
    (subst (λ (z : Outcome Memory). Turned r e c d s z read₁ m₁) p
    (subst (λ (z : Outcome X). Turned r e c d s o read₁ z) q t₁)))))

-- ---- an 8 found in the bins stays one

adapted-eight : (rate : Float) (h : model.Head) (o : Outcome model.Bins) → o.eight ≡ true → (adapted_bins rate h o).eight ≡ true
unfolding adapted_bins
adapted-eight rate h o e = pick (eq rate zero64 || all_idle h.averages o.after)
  where
    ps : List Float
    ps = adapted_to h.ratio (raws h.averages o.after)

    a : StatisticsAccumulator
    a = updated_of false h.own

    pick : (b : Bool) → (cond {A = Outcome model.Grid} b (record { eight = o.eight; nine = o.nine; after = model.bins h o.after })
        (record { eight = o.eight || not (well_formed a); nine = o.nine || not (all_chances ps); after = model.bins (model.with_head h a) (with_probabilities o.after ps) })).eight ≡ true
    pick true = e
    pick false = rw e

-- ---- the tree

module _ (xs : List ℕ) (bins_rate axes_rate : Float) where
  abbrev Deep : ℕ → Type 0
  Deep l = (t : Tree) (u : Tally) (s : Memory) → (t ≡ nothing → ⊥) → Stands xs l t u → (after t u).reals ≤ length s.reals → (after t u).counts ≤ length s.counts
      → sound (grid_at l xs s.reals s.counts u.words) ≡ true
      → Turned u.reals (after t u).reals u.counts (after t u).counts s (updated_in l xs bins_rate axes_rate u.words s) (λ (a : List Float) (b : List ℕ). grid_at l xs a b u.words)
      (update_grid bins_rate axes_rate (grid_at l xs s.reals s.counts u.words))

  module _ (l : ℕ) (deeper : Deep l) (b : BinsPlan) (ts : Trees) (y : Tally) (st : Stands xs (suc l) (bins b ts) y) (s : Memory)
      (room : (after (bins b ts) y).reals ≤ length s.reals) (places : (after (bins b ts) y).counts ≤ length s.counts) where
    abbrev w : ℕ
    w = y.words

    abbrev own : Tally
    own = bins_taken b y

    abbrev end : Tally
    end = after (bins b ts) y

    abbrev N : ℕ
    N = BN xs w

    abbrev G : ℕ → model.Grid
    G = grid_at l xs s.reals s.counts

    abbrev held : model.Bins
    held = bins_in G xs s.reals s.counts w 0 N

    abbrev head : model.Head
    head = head_at xs s.reals s.counts w

    abbrev B : ℕ → StatisticsAccumulator
    B j = (bin_in xs s.reals s.counts w j).own

    node-held : (get_or xs w 0 ≡ 1 → ⊥) → grid_at (suc l) xs s.reals s.counts w ≡ model.bins head held
    unfolding grid_at node_at
    node-held k = rw (ne_eqb (get_or xs w 0) 1 k)

    module _ (well : sound (model.bins head held) ≡ true) where
      parts : (well_formed head.own ≡ true) × (sound_bins held ≡ true)
      parts = both (well_formed head.own) (sound_bins held) (sound-bins head held ∙ well)

      each : (j : ℕ) → j < N → sound_bin (bin_in xs s.reals s.counts w j) (child_in G (get_or xs (w + 7 + j) 0)) ≡ true
      each j h = sound-each G xs s.reals s.counts w N 0 parts.1 j (omega arith) (omega arith)

      abbrev children : Outcome Memory
      children = children_turned (updated_in l xs bins_rate axes_rate) xs w 0 N s

      abbrev s₁ : Memory
      s₁ = children.after

      abbrev accounts : Outcome Memory
      accounts = accounts_updated xs w 0 N s₁

      abbrev s₂ : Memory
      s₂ = accounts.after

      abbrev hung : Outcome (List model.Child)
      hung = children_after (λ (at : ℕ). update_grid bins_rate axes_rate (G at)) xs w 0 N

      record Places : Type 0 where
        number : N ≡ b.bins
        reals : BR xs w ≡ y.reals
        counts : BC xs w ≡ y.counts
        ends : own.reals ≡ BR xs w + 14 + 15 * N
        stops : own.counts ≡ BC xs w + 7 + 7 * N
        up : own.reals ≤ end.reals
        on : own.counts ≤ end.counts

      laid : Places
      unfolding bins_row
      laid =
          let m = bins-record xs (suc l) b ts y st in
          let n : N ≡ b.bins = ap (λ (a : BinsPlan). a.bins) m.numbers in
          let r = taken-reals b y in
          let c = taken-counts b y in
          record { number = n; reals = m.reals; counts = m.counts; ends = omega (arith, r, m.reals, n); stops = omega (arith, c, m.counts, n); up = (below b ts y).reals; on = (below b ts y).counts }

      turned-children : Turned own.reals end.reals own.counts end.counts s children (λ (a : List Float) (z : List ℕ). fresh_children (grid_at l xs a z) xs w 0 N) hung
      unfolding sound
      turned-children =
          let p = laid in
          let formed : (at : ℕ) (g : model.Grid) → sound g ≡ true → formed_grid g ≡ true = λ at g e. (both (formed_grid g) (kept_grid g) e).0 in
          children-turned xs l (updated_in l xs bins_rate axes_rate) (λ (at : ℕ) (g : model.Grid). update_grid bins_rate axes_rate g) (λ (at : ℕ) (g : model.Grid). sound g ≡ true) formed deeper
          b ts y st G N 0 own s (omega (arith, p.number)) (before-none ts own) p.up p.on room places
          (λ j h k z. sound-hung G xs s.reals s.counts w (bin_in xs s.reals s.counts w j) (get_or xs (w + 7 + j) 0) z (each j (omega (arith, k, p.number)))) (λ j h k z. refl)

      abbrev R : ℕ
      R = BR xs w

      abbrev C : ℕ
      C = BC xs w

      size₁ : (length s₁.reals ≡ length s.reals) × (length s₁.counts ≡ length s.counts)
      size₁ = ((turned-children.within.low 0 0 (omega arith)).size, (turned-children.within.few 0 0 (omega arith)).size)

      turned-accounts : Accounts xs w B 0 N s₁ accounts
      unfolding bin_in
      turned-accounts =
          let p = laid in
          let c = turned-children in
          let e = p.ends in
          let f = p.stops in
          let g = p.up in
          let h = p.on in
          let n = size₁ in
          accounts-turned xs w B N 0 s₁ (omega arith) (omega (arith, n.0)) (omega (arith, n.1))
          (λ j x k. record_same (spot xs w j) (place xs w j) s₁.reals s.reals s₁.counts s.counts (c.within.low (spot xs w j) (spot xs w j + 14) (omega arith)) (c.within.few (place xs w j) (place xs w j + 7) (omega arith)))
          (λ j x k. sound-own G xs s.reals s.counts w (bin_in xs s.reals s.counts w j) (child_in G (get_or xs (w + 7 + j) 0)) (each j k))

      size₂ : (length s₂.reals ≡ length s.reals) × (length s₂.counts ≡ length s.counts)
      size₂ = ((turned-accounts.within.low 0 0 (omega arith)).size ∙ size₁.0, (turned-accounts.within.few 0 0 (omega arith)).size ∙ size₁.1)

      -- what lies below the bins' accumulators is as it was
      below-reals : (lo hi : ℕ) → hi ≤ R + 14 + N → Same nan lo hi s₂.reals s.reals
      below-reals lo hi h =
          let p = laid.ends in
          same-on nan lo hi s₂.reals s₁.reals s.reals (turned-accounts.within.low lo hi (omega arith)) (turned-children.within.low lo hi (omega arith))

      below-counts : (lo hi : ℕ) → hi ≤ C + 7 → Same 0 lo hi s₂.counts s.counts
      below-counts lo hi h =
          let p = laid.stops in
          same-on 0 lo hi s₂.counts s₁.counts s.counts (turned-accounts.within.few lo hi (omega arith)) (turned-children.within.few lo hi (omega arith))

      own-there : record_at s₂.reals s₂.counts R C ≡ head.own
      unfolding head_at
      own-there = record_same R C s₂.reals s.reals s₂.counts s.counts (below-reals R (R + 14) (omega arith)) (below-counts C (C + 7) (omega arith))

      within-all-of : (f : Memory) → Within R (R + 14 + N) C (C + 7) s₂ f → Within y.reals end.reals y.counts end.counts s f
      within-all-of f i =
          let p = laid in
          let e = p.ends in
          let g = p.stops in
          let u = p.up in
          let v = p.on in
          let rr = p.reals in
          let cc = p.counts in
          within_on y.reals end.reals y.counts end.counts R end.reals C end.counts R (R + 14 + N) C (C + 7) s s₂ f (omega arith) (omega arith) (omega arith) (omega arith) (omega arith) (omega arith) (omega arith) (omega arith)
          (within_on R end.reals C end.counts own.reals end.reals own.counts end.counts (spot xs w 0) (R + 14 + 15 * N) (place xs w 0) (C + 7 + 7 * N) s s₁ s₂ (omega arith) (omega arith) (omega arith) (omega arith)
          (omega arith) (omega arith) (omega arith) (omega arith) turned-children.within turned-accounts.within) i

      -- bins with these probabilities, updated, over what hangs there after its own update
      abbrev turned-bins : (ℕ → Float) → model.Bins
      turned-bins ps = overlaid (λ (j : ℕ). record { probability = ps j; own = updated_of false (B j) }) 0 hung.after

      module _ (f : Memory) (inside : Within R (R + 14 + N) C (C + 7) s₂ f) (a : List Float) (z : List ℕ) (p : Same nan y.reals end.reals f.reals a) (q : Same 0 y.counts end.counts f.counts z)
          (fine : hung.eight ≡ false) (good : bad_of B 0 N ≡ false) where
        children-there : fresh_children (grid_at l xs a z) xs w 0 N ≡ hung.after
        children-there =
            let e = laid.ends in
            let g = laid.stops in
            let rr = laid.reals in
            let cc = laid.counts in
            turned-children.reads fine a z
            (same-on nan own.reals end.reals s₁.reals s₂.reals a (same-sym nan own.reals end.reals s₂.reals s₁.reals (turned-accounts.within.high own.reals end.reals (omega arith)))
            (same-on nan own.reals end.reals s₂.reals f.reals a (same-sym nan own.reals end.reals f.reals s₂.reals (inside.high own.reals end.reals (omega arith)))
            (same-within nan y.reals end.reals own.reals end.reals f.reals a (omega arith) (omega arith) p)))
            (same-on 0 own.counts end.counts s₁.counts s₂.counts z (same-sym 0 own.counts end.counts s₂.counts s₁.counts (turned-accounts.within.many own.counts end.counts (omega arith)))
            (same-on 0 own.counts end.counts s₂.counts f.counts z (same-sym 0 own.counts end.counts f.counts s₂.counts (inside.many own.counts end.counts (omega arith)))
            (same-within 0 y.counts end.counts own.counts end.counts f.counts z (omega arith) (omega arith) q)))

        accounts-there : (j : ℕ) → j < N → record_at a z (spot xs w j) (place xs w j) ≡ updated_of false (B j)
        accounts-there j h =
            let e = laid.ends in
            let g = laid.stops in
            let u = laid.up in
            let v = laid.on in
            let rr = laid.reals in
            let cc = laid.counts in
            turned-accounts.reads good j (omega arith) h a z
            (same-on nan (spot xs w 0) (R + 14 + 15 * N) s₂.reals f.reals a (same-sym nan (spot xs w 0) (R + 14 + 15 * N) f.reals s₂.reals (inside.high (spot xs w 0) (R + 14 + 15 * N) (omega arith)))
            (same-within nan y.reals end.reals (spot xs w 0) (R + 14 + 15 * N) f.reals a (omega arith) (omega arith) p))
            (same-on 0 (place xs w 0) (C + 7 + 7 * N) s₂.counts f.counts z (same-sym 0 (place xs w 0) (C + 7 + 7 * N) f.counts s₂.counts (inside.many (place xs w 0) (C + 7 + 7 * N) (omega arith)))
            (same-within 0 y.counts end.counts (place xs w 0) (C + 7 + 7 * N) f.counts z (omega arith) (omega arith) q))

        bins-there : (ps : ℕ → Float) → ((j : ℕ) → j < N → get_or a (R + 14 + j) nan ≡ ps j) → bins_in (grid_at l xs a z) xs a z w 0 N ≡ turned-bins ps
        unfolding bin_in
        bins-there ps g =
            bins-overlaid (grid_at l xs a z) xs a z w 0 N ∙ ap (overlaid (bin_in xs a z w) 0) children-there
            ∙ overlaid-same (bin_in xs a z w) (λ (j : ℕ). record { probability = ps j; own = updated_of false (B j) }) 0 N hung.after (omega (arith, after-length G xs s.reals s.counts w bins_rate axes_rate 0 N))
            (λ j x k. ap₂ (λ (c : Float) (r : StatisticsAccumulator). record { probability = c; own = r }) (g j k) (accounts-there j k))

        node-there : (o : StatisticsAccumulator) (ps : ℕ → Float) → record_at a z R C ≡ o → ((j : ℕ) → j < N → get_or a (R + 14 + j) nan ≡ ps j)
            → grid_at (suc l) xs a z w ≡ model.bins (model.with_head head o) (turned-bins ps)
        unfolding grid_at node_at head_at model.with_head
        node-there o ps e g =
            let k : get_or xs w 0 ≡ 1 → ⊥ = λ x. absurd (omega (arith, (bins-record xs (suc l) b ts y st).kind)) in
            rw (ne_eqb (get_or xs w 0) 1 k, e, bins-there ps g)

      abbrev updated : Outcome model.Bins
      updated = update_bins bins_rate axes_rate held

      split : updated ≡ record { eight = hung.eight || bad_of B 0 N; nine = hung.nine; after = overlaid (after-bin G xs s.reals s.counts w bins_rate axes_rate) 0 hung.after }
      split = bins-updated G xs s.reals s.counts w bins_rate axes_rate 0 N

      eights : (children.eight || accounts.eight) ≡ updated.eight
      eights = ap₂ ◌||◌ turned-children.eight turned-accounts.eight ∙ sym (ap (λ (o : Outcome model.Bins). o.eight) split)

      abbrev model-after : Outcome model.Grid
      model-after = adapted_bins bins_rate head updated

      abbrev step_after : Outcome Memory
      step_after = followed (followed children (accounts_updated xs w 0 N)) (bins_adapted xs bins_rate w)

      abbrev Whole : Outcome Memory → Outcome model.Grid → Type 0
      Whole o m = Turned y.reals end.reals y.counts end.counts s o (λ (a : List Float) (z : List ℕ). grid_at (suc l) xs a z w) m

      -- the probabilities as they were
      abbrev chance-of : ℕ → Float
      chance-of j = (bin_in xs s.reals s.counts w j).probability

      own-step : Own xs w head.own (chances xs w s₂) s₂ (followed (chances_adapted xs w s₂) (account_updated R C))
      own-step =
          let e = laid.ends in
          let g = laid.stops in
          let u = laid.up in
          let v = laid.on in
          own-turned xs w head.own s₂ (omega (arith, size₂.0)) (omega (arith, size₂.1)) own-there parts.0

      -- an 8 was found below: the rest may come to what it will
      found_below : updated.eight ≡ true → Whole step_after model-after
      unfolding followed bins_adapted
      found_below e =
          let m : model-after.eight ≡ true = adapted-eight bins_rate head updated e in
          record {
            within = within-all-of _ (step-within (eq bins_rate zero64 || idle_in xs s₂ w 0 N));
            eight = ap (λ (x : Bool). x || (bins_adapted xs bins_rate w s₂).eight) (eights ∙ e) ∙ sym m;
            nine = λ q. absurd (true≢false (sym m ∙ q));
            reads = λ q. absurd (true≢false (sym m ∙ q));
          }
        where
          step-within : (b : Bool) → Within R (R + 14 + N) C (C + 7) s₂ (cond b (finding false false s₂) (followed (chances_adapted xs w s₂) (account_updated R C))).after
          step-within true = within_same R (R + 14 + N) C (C + 7) s₂
          step-within false = own-step.within

      module _ (none : updated.eight ≡ false) where
        clean : (hung.eight ≡ false) × (bad_of B 0 N ≡ false)
        clean = no-either hung.eight (bad_of B 0 N) (sym (ap (λ (o : Outcome model.Bins). o.eight) split) ∙ none)

        there : bins_in (grid_at l xs s₂.reals s₂.counts) xs s₂.reals s₂.counts w 0 N ≡ updated.after
        unfolding bin_in model.with_bin
        there =
            bins-there s₂ (within_same R (R + 14 + N) C (C + 7) s₂) s₂.reals s₂.counts (same_refl nan y.reals end.reals s₂.reals) (same_refl 0 y.counts end.counts s₂.counts) clean.0 clean.1
            chance-of (λ j h. (below-reals (R + 14 + j) (R + 14 + j + 1) (omega arith)).cells (R + 14 + j) (omega arith) (omega arith)) ∙ sym (ap (λ (o : Outcome model.Bins). o.after) split)

        early : (eq bins_rate zero64 || idle_in xs s₂ w 0 N) ≡ (eq bins_rate zero64 || all_idle head.averages updated.after)
        unfolding head_at
        early = ap (λ (b : Bool). eq bins_rate zero64 || b) (idle-read (grid_at l xs s₂.reals s₂.counts) xs s₂.reals s₂.counts w 0 N ∙ ap (all_idle (averages_at xs w)) there)

        shared : chances xs w s₂ ≡ adapted_to head.ratio (raws head.averages updated.after)
        unfolding head_at
        shared = ap (adapted_to head.ratio) (raws-read (grid_at l xs s₂.reals s₂.counts) xs s₂.reals s₂.counts w 0 N ∙ ap (raws (averages_at xs w)) there)

        nines : (children.nine || accounts.nine) ≡ updated.nine
        nines = ap₂ ◌||◌ (turned-children.nine clean.0) (turned-accounts.nine clean.1) ∙ or-false hung.nine ∙ sym (ap (λ (o : Outcome model.Bins). o.nine) split)

        -- an early return
        returned : (eq bins_rate zero64 || all_idle head.averages updated.after) ≡ true → Whole step_after model-after
        unfolding followed bins_adapted adapted_bins bin_in model.with_bin model.with_head
        returned e =
            rw (early, e) (record {
              within = within-all-of s₂ (within_same R (R + 14 + N) C (C + 7) s₂);
              eight = or-false (children.eight || accounts.eight) ∙ eights;
              nine = λ q. or-false (children.nine || accounts.nine) ∙ nines;
              reads = λ q a z x v.
                  let rr = laid.reals in
                  let cc = laid.counts in
                  let e₁ = laid.ends in
                  let e₂ = laid.stops in
                  let u₁ = laid.up in
                  let u₂ = laid.on in
                  node-there s₂ (within_same R (R + 14 + N) C (C + 7) s₂) a z x v clean.0 clean.1 head.own chance-of
                  (record_same R C a s₂.reals z s₂.counts (same-sym nan R (R + 14) s₂.reals a (same-within nan y.reals end.reals R (R + 14) s₂.reals a (omega arith) (omega arith) x))
                  (same-sym 0 C (C + 7) s₂.counts z (same-within 0 y.counts end.counts C (C + 7) s₂.counts z (omega arith) (omega arith) v)) ∙ own-there)
                  (λ j h. sym (x.cells (R + 14 + j) (omega arith) (omega arith)) ∙ (below-reals (R + 14 + j) (R + 14 + j + 1) (omega arith)).cells (R + 14 + j) (omega arith) (omega arith))
                  ∙ ap (model.bins head) (sym (ap (λ (o : Outcome model.Bins). o.after) split));
            })

        -- probabilities and own accumulator
        adapted : (eq bins_rate zero64 || all_idle head.averages updated.after) ≡ false → Whole step_after model-after
        unfolding followed bins_adapted adapted_bins bin_in model.with_bin
        adapted e =
            let f = (followed (chances_adapted xs w s₂) (account_updated R C)).after in
            let ps = chances xs w s₂ in
            rw (early, e) (record {
              within = within-all-of f own-step.within;
              eight = ap₂ ◌||◌ eights own-step.eight;
              nine = λ q. ap₂ ◌||◌ nines (own-step.nine (no-either updated.eight (not (well_formed (updated_of false head.own))) q).1 ∙ ap (λ (z : List Float). not (all_chances z)) shared);
              reads = λ q a z x v.
                  let rr = laid.reals in
                  let cc = laid.counts in
                  let e₁ = laid.ends in
                  let e₂ = laid.stops in
                  let u₁ = laid.up in
                  let u₂ = laid.on in
                  let low = same-within nan y.reals end.reals R (R + 14 + N) f.reals a (omega arith) (omega arith) x in
                  node-there f own-step.within a z x v clean.0 clean.1 (updated_of false head.own) (λ (j : ℕ). get_or ps j nan)
                  (own-step.reads (no-either updated.eight (not (well_formed (updated_of false head.own))) q).1 a z low (same-within 0 y.counts end.counts C (C + 7) f.counts z (omega arith) (omega arith) v))
                  (λ j h. own-step.shares a low j h)
                  ∙ ap (model.bins (model.with_head head (updated_of false head.own))) (chances-in ∙ ap₂ with_probabilities (sym (ap (λ (o : Outcome model.Bins). o.after) split)) shared);
            })
          where
            chances-in : turned-bins (λ (j : ℕ). get_or (chances xs w s₂) j nan) ≡ with_probabilities (overlaid (after-bin G xs s.reals s.counts w bins_rate axes_rate) 0 hung.after) (chances xs w s₂)
            chances-in =
                let ps = chances xs w s₂ in
                sym (overlaid-chances (after-bin G xs s.reals s.counts w bins_rate axes_rate) (λ (j : ℕ). record { probability = get_or ps j nan; own = updated_of false (B j) }) 0 hung.after ps
                (chances-length xs w s₂ ∙ sym (after-length G xs s.reals s.counts w bins_rate axes_rate 0 N))
                (λ q h. let z : 0 + q ≡ q = omega arith in ap (λ (m : ℕ). record { probability = get_or ps m nan; own = updated_of false (B (0 + q)) }) z))

      bins-whole : Whole step_after model-after
      bins-whole = pick updated.eight refl
        where
          chosen : updated.eight ≡ false → (b : Bool) → (eq bins_rate zero64 || all_idle head.averages updated.after) ≡ b → Whole step_after model-after
          chosen n true e = returned n e
          chosen n false e = adapted n e

          pick : (b : Bool) → updated.eight ≡ b → Whole step_after model-after
          pick true e = found_below e
          pick false e = chosen e (eq bins_rate zero64 || all_idle head.averages updated.after) refl

    bins-turned : sound (grid_at (suc l) xs s.reals s.counts w) ≡ true
        → Turned y.reals end.reals y.counts end.counts s (updated_in (suc l) xs bins_rate axes_rate w s) (λ (a : List Float) (z : List ℕ). grid_at (suc l) xs a z w)
        (update_grid bins_rate axes_rate (grid_at (suc l) xs s.reals s.counts w))
    unfolding updated_in node_updated update_grid
    bins-turned well =
        let k : get_or xs w 0 ≡ 1 → ⊥ = λ x. absurd (omega (arith, (bins-record xs (suc l) b ts y st).kind)) in
        let node = node-held k in
        let one = bins-whole (sym (ap sound node) ∙ well) in
        rw (ne_eqb (get_or xs w 0) 1 k) (subst (λ (g : model.Grid). Turned y.reals end.reals y.counts end.counts s
        (followed (followed (children_turned (updated_in l xs bins_rate axes_rate) xs w 0 N s) (accounts_updated xs w 0 N)) (bins_adapted xs bins_rate w)) (λ (a : List Float) (z : List ℕ). grid_at (suc l) xs a z w)
        (update_grid bins_rate axes_rate g)) (sym node) one)

  axes-updates : (l : ℕ) (a : planned.AxesPlan) (es : List ℕ) (y : Tally) (s : Memory) → Stands xs l (axes a es) y → (after (axes a es) y).reals ≤ length s.reals → (after (axes a es) y).counts ≤ length s.counts
      → sound (grid_at l xs s.reals s.counts y.words) ≡ true
      → Turned y.reals (after (axes a es) y).reals y.counts (after (axes a es) y).counts s (updated_in l xs bins_rate axes_rate y.words s) (λ (u : List Float) (v : List ℕ). grid_at l xs u v y.words)
      (update_grid bins_rate axes_rate (grid_at l xs s.reals s.counts y.words))
  unfolding after axes_taken axes_reals axes_counts axes_row update_grid
  axes-updates l a es y s st h k well =
      let w = y.words in
      let m = axes-record xs l a es y st in
      let lies = laid-axes l xs (length s.reals) (length s.counts) w (stands-laid xs (length s.reals) (length s.counts) l (axes a es) y (axes-differ a es) st h k) m.kind in
      let axs : get_or xs (w + 2) 0 ≡ a.axes = ap (λ (b : planned.AxesPlan). b.axes) m.numbers in
      let mst : get_or xs (w + 7) 0 ≡ a.most = ap (λ (b : planned.AxesPlan). b.most) m.numbers in
      let rr = m.reals in
      let cc = m.counts in
      let er : get_or xs (w + 9) 0 + 14 + get_or xs (w + 2) 0 * (6 * get_or xs (w + 7) 0 + 1) ≡ (after (axes a es) y).reals = rw (axs, mst, rr) (omega arith) in
      let ec : get_or xs (w + 10) 0 + 7 + get_or xs (w + 2) 0 * (3 * get_or xs (w + 7) 0 + 2) ≡ (after (axes a es) y).counts = rw (axs, mst, cc) (omega arith) in
      let t = axes-turned xs axes_rate w s lies (sym (ap sound (node-axes l xs s.reals s.counts w m.kind)) ∙ well) in
      turned-at rr er cc ec (grid-updated-axes l xs bins_rate axes_rate w s m.kind) (λ u v. node-axes l xs u v w m.kind) (ap (update_grid bins_rate axes_rate) (sym (node-axes l xs s.reals s.counts w m.kind))) t

  updates : (l : ℕ) → Deep l
  updates zero nothing y s g st h k w = absurd (g refl)
  updates zero (axes a es) y s g st h k w = axes-updates zero a es y s st h k w
  updates zero (bins b ts) y s g st h k w = absurd (omega (arith, (bins-record xs zero b ts y st).ranges.level))
  updates (suc l) nothing y s g st h k w = absurd (g refl)
  updates (suc l) (axes a es) y s g st h k w = axes-updates (suc l) a es y s st h k w
  updates (suc l) (bins b ts) y s g st h k w = bins-turned l (updates l) b ts y st s h k w

-- the root's grid, of a table that passed: what is found is the model's, and where there is no 8 what is read is the model's
pub root-updated : (xs : List ℕ) (n : Needs) (bins_rate axes_rate : Float) (s : Memory) → Words xs → sizes_of xs ≡ gives n → n.reals ≤ length s.reals → n.counts ≤ length s.counts
    → sound (root_of xs s.reals s.counts) ≡ true
    → Turned 0 n.reals 0 n.counts s (updated_in 4 xs bins_rate axes_rate 0 s) (λ (a : List Float) (z : List ℕ). root_of xs a z) (update_grid bins_rate axes_rate (root_of xs s.reals s.counts))
unfolding needs_of
root-updated xs n bins_rate axes_rate s large e h k well =
    let r = passed-stands xs n large e in
    let rr : n.reals ≡ (after r.tree untaken).reals = ap (λ (m : Needs). m.reals) r.needs in
    let cc : n.counts ≡ (after r.tree untaken).counts = ap (λ (m : Needs). m.counts) r.needs in
    turned-at refl (sym rr) refl (sym cc) refl (λ a z. refl) refl (updates xs bins_rate axes_rate 4 r.tree untaken s r.grid r.stands (omega arith) (omega arith) well)
