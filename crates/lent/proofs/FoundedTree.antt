-- A fresh tree, laid and read back: on a table in which a plan's tree stands, the memory that was laid holds the model's fresh grid.
use mathlib.Core.Path.{◌≡◌, refl, sym, ap, ap₂, ◌∙◌, subst}
use mathlib.Core.List.{List, ◌∷◌}
use Prim.Native.Nat.{ℕ, zero, suc, ◌+◌, ◌-◌, ◌*◌, ◌≤◌}
use native.Mathlib.Omega.{arith}
use borrow.Author.Tests.{ne_eqb}
use lib.ListN.{length, get_or}
use lib.Ieee.{Float, nan}
use Rattle.plan.specs.declared.Tally.{Tally}
use Rattle.plan.specs.declared.AxesPlan.{AxesPlan}
use Rattle.plan.specs.declared.BinsPlan.{BinsPlan}
use Rattle.plan.specs.declared.Needs.{Needs}
use Rattle.plan.specs.Plan.{Tree, Trees, nothing, axes, bins}
use Rattle.plan.specs.Needs.{axes_reals, axes_counts, axes_taken, bins_taken, after, child_at, before, untaken, needs_of}
use Rattle.plan.specs.Table.{link}
use Rattle.plan.specs.Walk.{axes_row, bins_row}
use Rattle.plan.specs.Paper.{gives}
use Rattle.plan.specs.Calls.{sizes_of}
use Rattle.plan.proofs.Tables.{Words}
use Rattle.plan.proofs.Rereads.{taken-words}
use Rattle.plan.proofs.Records.{Stands, axes-record, bins-record, Upto, upto-after, child-record, before-next, passed-stands}
use Rattle.model.specs.Axes.{AxesGrid, fresh_axes}
use Rattle.model.specs.Grid as model
use Rattle.lent.specs.Memory.{Memory}
use Rattle.lent.specs.Tree.{axes_plan_at, axes_grid_at, head_at, child_in, node_at, grid_at}
use Rattle.lent.specs.Founded.{laid_axes, laid_own, laid_child, laid_children, laid_node, laid_grid, fresh_children, fresh_node, fresh_at}
use Rattle.lent.proofs.Same.{Same, same_refl, same-on, same-sym, same-within}
use Rattle.lent.proofs.Laid.{stands-laid, laid-axes}
use Rattle.lent.proofs.Sounds.{node-axes}
use Rattle.lent.proofs.Founds.{grid-axes}
use Rattle.lent.proofs.Trees.{axes-differ, bins-differ, before-none, taken-reals, taken-counts, below}
use Rattle.lent.proofs.FoundedOwn.{Within, within_same, within_on, axes-within, axes-grid-read, own-within, own-bins-read, own-record-read}

-- what was laid from s on is t, which differs from s within these bounds only; where memory is t there, g is read
pub record Found {X : Type 0} (r e c d : ℕ) (s t : Memory) (read : List Float → List ℕ → X) (g : X) : Type 0 where
  pub within : Within r e c d s t
  pub reads : (reals' : List Float) (counts' : List ℕ) → Same nan r e t.reals reals' → Same 0 c d t.counts counts' → read reals' counts' ≡ g

-- the same bounds, memory and grid under other names
pub found_at : {X : Type 0} (r e c d r₁ e₁ c₁ d₁ : ℕ) (s t t₁ : Memory) (read read₁ : List Float → List ℕ → X) (g g₁ : X) → r ≡ r₁ → e ≡ e₁ → c ≡ c₁ → d ≡ d₁ → t ≡ t₁
    → ((reals : List Float) (counts : List ℕ) → read₁ reals counts ≡ read reals counts) → g ≡ g₁ → Found r e c d s t read g → Found r₁ e₁ c₁ d₁ s t₁ read₁ g₁
found_at r e c d r₁ e₁ c₁ d₁ s t t₁ read read₁ g g₁ i j k l m n o f =
    let w : Within r₁ e₁ c₁ d₁ s t =
    record {
      low = λ lo hi h. f.within.low lo hi (omega arith);
      high = λ lo hi h. f.within.high lo hi (omega arith);
      few = λ lo hi h. f.within.few lo hi (omega arith);
      many = λ lo hi h. f.within.many lo hi (omega arith);
    } in
    subst (λ (z : Memory). Found r₁ e₁ c₁ d₁ s z read₁ g₁) m (record {
      within = w;
      reads = λ a b p q. n a b ∙ f.reads a b (same-within nan r₁ e₁ r e t.reals a (omega arith) (omega arith) p) (same-within 0 c₁ d₁ c d t.counts b (omega arith) (omega arith) q) ∙ o;
    })

-- the model's fresh grid of a run, by its kind
fresh-axes : (l : ℕ) (table : List ℕ) (w : ℕ) → get_or table w 0 ≡ 1 → model.axes (fresh_axes (get_or table (w + 2) 0) (axes_plan_at table w)) ≡ fresh_at l table w
unfolding fresh_at fresh_node
fresh-axes zero table w e = refl
fresh-axes (suc l) table w e = rw e

length-children : (f : ℕ → model.Grid) (table : List ℕ) (w i n : ℕ) → length (fresh_children f table w i n) ≡ n
unfolding fresh_children
length-children f table w i zero = refl
length-children f table w i (suc n) = ap suc (length-children f table w (i + 1) n)

module _ (xs : List ℕ) where
  -- at a level: whatever stands there
  abbrev pub Founded : ℕ → Type 0
  Founded l = (t : Tree) (y : Tally) (s : Memory) → (t ≡ nothing → ⊥) → Stands xs l t y → (after t y).reals ≤ length s.reals → (after t y).counts ≤ length s.counts
      → Found y.reals (after t y).reals y.counts (after t y).counts s (laid_grid l xs y.words s) (λ (a : List Float) (b : List ℕ). grid_at l xs a b y.words) (fresh_at l xs y.words)

  axes-found : (l : ℕ) (a : AxesPlan) (es : List ℕ) (y : Tally) (s : Memory) → Stands xs l (axes a es) y → (after (axes a es) y).reals ≤ length s.reals → (after (axes a es) y).counts ≤ length s.counts
      → Found y.reals (after (axes a es) y).reals y.counts (after (axes a es) y).counts s (laid_grid l xs y.words s) (λ (a : List Float) (b : List ℕ). grid_at l xs a b y.words) (fresh_at l xs y.words)
  unfolding after axes_taken axes_reals axes_counts axes_row
  axes-found l a es y s st h k =
      let w = y.words in
      let m = axes-record xs l a es y st in
      let laid = laid-axes l xs (length s.reals) (length s.counts) w (stands-laid xs (length s.reals) (length s.counts) l (axes a es) y (axes-differ a es) st h k) m.kind in
      let axs : get_or xs (w + 2) 0 ≡ a.axes = ap (λ (b : AxesPlan). b.axes) m.numbers in
      let mst : get_or xs (w + 7) 0 ≡ a.most = ap (λ (b : AxesPlan). b.most) m.numbers in
      let rr = m.reals in
      let cc = m.counts in
      let er : get_or xs (w + 9) 0 + 14 + get_or xs (w + 2) 0 * (6 * get_or xs (w + 7) 0 + 1) ≡ (after (axes a es) y).reals = rw (axs, mst, rr) (omega arith) in
      let ec : get_or xs (w + 10) 0 + 7 + get_or xs (w + 2) 0 * (3 * get_or xs (w + 7) 0 + 2) ≡ (after (axes a es) y).counts = rw (axs, mst, cc) (omega arith) in
      found_at (get_or xs (w + 9) 0) (get_or xs (w + 9) 0 + 14 + get_or xs (w + 2) 0 * (6 * get_or xs (w + 7) 0 + 1)) (get_or xs (w + 10) 0) (get_or xs (w + 10) 0 + 7 + get_or xs (w + 2) 0 * (3 * get_or xs (w + 7) 0 + 2))
      y.reals (after (axes a es) y).reals y.counts (after (axes a es) y).counts s (laid_axes xs w s) (laid_grid l xs w s)
      (λ (u : List Float) (v : List ℕ). model.axes (axes_grid_at xs u v w)) (λ (u : List Float) (v : List ℕ). grid_at l xs u v w)
      (model.axes (fresh_axes (get_or xs (w + 2) 0) (axes_plan_at xs w))) (fresh_at l xs w)
      rr er cc ec (grid-axes l xs w s m.kind) (λ u v. node-axes l xs u v w m.kind) (fresh-axes l xs w m.kind)
      (record { within = axes-within xs w s laid; reads = λ u v p q. ap (λ (g : AxesGrid). model.axes g) (axes-grid-read xs w s laid u v p q) })

  -- ---- a bins grid's children

  module _ (l : ℕ) (deeper : Founded l) where
    -- what hangs at a link, or nothing
    child-found : (t : Tree) (u : Tally) (at : ℕ) (s : Memory) → at ≡ link t u → 1 ≤ u.words → Stands xs l t u → (after t u).reals ≤ length s.reals → (after t u).counts ≤ length s.counts
        → Found u.reals (after t u).reals u.counts (after t u).counts s (laid_child (laid_grid l xs) at s) (λ (a : List Float) (b : List ℕ). child_in (grid_at l xs a b) at) (child_in (fresh_at l xs) at)
    unfolding link laid_child child_in after
    child-found nothing u at s e n st h k = rw e (record { within = within_same u.reals u.reals u.counts u.counts s; reads = λ a b p q. refl })
    child-found (axes a es) u at s e n st h k =
        let z : at ≡ 0 → ⊥ = λ q. absurd (omega arith) in
        let f = deeper (axes a es) u s (axes-differ a es) st h k in
        rw (ne_eqb at 0 z, e) (record { within = f.within; reads = λ a b p q. ap model.grid (f.reads a b p q) })
    child-found (bins b ts) u at s e n st h k =
        let z : at ≡ 0 → ⊥ = λ q. absurd (omega arith) in
        let f = deeper (bins b ts) u s (bins-differ b ts) st h k in
        rw (ne_eqb at 0 z, e) (record { within = f.within; reads = λ a b p q. ap model.grid (f.reads a b p q) })

    module _ (b : BinsPlan) (ts : Trees) (y : Tally) (st : Stands xs (suc l) (bins b ts) y) where
      abbrev own : Tally
      own = bins_taken b y

      abbrev end : Tally
      end = after (bins b ts) y

      -- the last k children, from child i on, which begins where the tally u stands
      children-found : (k i : ℕ) (u : Tally) (s : Memory) → i + k ≡ b.bins → u ≡ before ts i own → u.reals ≤ end.reals → u.counts ≤ end.counts
          → end.reals ≤ length s.reals → end.counts ≤ length s.counts
          → Found u.reals end.reals u.counts end.counts s (laid_children (laid_grid l xs) xs y.words i k s)
          (λ (a : List Float) (b : List ℕ). fresh_children (grid_at l xs a b) xs y.words i k) (fresh_children (fresh_at l xs) xs y.words i k)
      unfolding laid_children fresh_children
      children-found zero i u s e o rr cc h g = record { within = within_same u.reals end.reals u.counts end.counts s; reads = λ a b p q. refl }
      children-found (suc k) i u s e o rr cc h g =
          let c = child-record xs (suc l) b ts y i st (omega arith) in
          let t = child_at ts i in
          let at = get_or xs (y.words + 7 + i) 0 in
          let level : suc l - 1 ≡ l = omega arith in
          let there : Stands xs l t u = subst (λ (v : Tally). Stands xs l t v) (sym o) (subst (λ (n : ℕ). Stands xs n t (before ts i own)) level c.stands) in
          let inside : Upto (after t u) end = subst (λ (v : Tally). Upto (after t v) end) (sym o) c.inside in
          let behind : Upto own u = subst (λ (v : Tally). Upto own v) (sym o) c.behind in
          let past = upto-after t u in
          let linked : at ≡ link t u = c.linked ∙ ap (link t) (sym o) in
          let large : 1 ≤ u.words = omega (arith, behind.words, taken-words b y) in
          let f = child-found t u at s linked large there (omega (arith, inside.reals)) (omega (arith, inside.counts)) in
          let s₁ = laid_child (laid_grid l xs) at s in
          let size : length s₁.reals ≡ length s.reals = (f.within.low 0 0 (omega arith)).size in
          let sizes : length s₁.counts ≡ length s.counts = (f.within.few 0 0 (omega arith)).size in
          let one : suc i ≡ i + 1 = omega arith in
          let next : after t u ≡ before ts (i + 1) own =
          ap (after t) o ∙ sym (before-next ts i own (omega (arith, (bins-record xs (suc l) b ts y st).number))) ∙ ap (λ (j : ℕ). before ts j own) one in
          let v = after t u in
          let last = laid_children (laid_grid l xs) xs y.words (i + 1) k s₁ in
          let r = children-found k (i + 1) v s₁ (omega arith) next inside.reals inside.counts (omega arith) (omega arith) in
          record {
            within = within_on u.reals end.reals u.counts end.counts u.reals v.reals u.counts v.counts v.reals end.reals v.counts end.counts s s₁ last
                (omega arith) inside.reals (omega arith) inside.counts past.reals (omega arith) past.counts (omega arith) f.within r.within;
            reads = λ a z p q.
                let near = f.reads a z
                (same-on nan u.reals v.reals s₁.reals last.reals a (same-sym nan u.reals v.reals last.reals s₁.reals (r.within.low u.reals v.reals (omega arith)))
                (same-within nan u.reals end.reals u.reals v.reals last.reals a (omega arith) inside.reals p))
                (same-on 0 u.counts v.counts s₁.counts last.counts z (same-sym 0 u.counts v.counts last.counts s₁.counts (r.within.few u.counts v.counts (omega arith)))
                (same-within 0 u.counts end.counts u.counts v.counts last.counts z (omega arith) inside.counts q)) in
                let far = r.reads a z (same-within nan u.reals end.reals v.reals end.reals last.reals a past.reals (omega arith) p)
                (same-within 0 u.counts end.counts v.counts end.counts last.counts z past.counts (omega arith) q) in
                ap₂ (λ (x : model.Child) (xs : List model.Child). x ∷ xs) near far;
          }

      -- the whole: its own, then its children
      bins-found : (s : Memory) → end.reals ≤ length s.reals → end.counts ≤ length s.counts
          → Found y.reals end.reals y.counts end.counts s (laid_grid (suc l) xs y.words s) (λ (a : List Float) (b : List ℕ). grid_at (suc l) xs a b y.words) (fresh_at (suc l) xs y.words)
      unfolding laid_grid laid_node grid_at node_at fresh_at fresh_node model.fresh_grid model.fresh_head head_at bins_row
      bins-found s h g =
          let w = y.words in
          let m = bins-record xs (suc l) b ts y st in
          let bns : get_or xs (w + 2) 0 ≡ b.bins = ap (λ (a : BinsPlan). a.bins) m.numbers in
          let rr : get_or xs (w + 5) 0 ≡ y.reals = m.reals in
          let cc : get_or xs (w + 6) 0 ≡ y.counts = m.counts in
          let er : own.reals ≡ y.reals + (14 + 15 * b.bins) = taken-reals b y in
          let ec : own.counts ≡ y.counts + (7 + 7 * b.bins) = taken-counts b y in
          let up = below b ts y in
          let s₁ = laid_own xs w s in
          let N = get_or xs (w + 2) 0 in
          let last = laid_children (laid_grid l xs) xs w 0 N s₁ in
          let room : get_or xs (w + 5) 0 + 14 + 15 * N ≤ length s.reals = omega (arith, up.reals) in
          let places : get_or xs (w + 6) 0 + 7 + 7 * N ≤ length s.counts = omega (arith, up.counts) in
          let o = own-within xs w s room places in
          let size : length s₁.reals ≡ length s.reals = (o.low 0 0 (omega arith)).size in
          let sizes : length s₁.counts ≡ length s.counts = (o.few 0 0 (omega arith)).size in
          let f = children-found N 0 own s₁ (omega arith) (before-none ts own) up.reals up.counts (omega arith) (omega arith) in
          let z : get_or xs w 0 ≡ 1 → ⊥ = λ e. absurd (omega (arith, m.kind)) in
          rw (ne_eqb (get_or xs w 0) 1 z) (record {
            within = within_on y.reals end.reals y.counts end.counts (get_or xs (w + 5) 0) (get_or xs (w + 5) 0 + 14 + 15 * N) (get_or xs (w + 6) 0) (get_or xs (w + 6) 0 + 7 + 7 * N)
                own.reals end.reals own.counts end.counts s s₁ last
                (omega arith) (omega (arith, up.reals)) (omega arith) (omega (arith, up.counts)) (omega arith) (omega arith) (omega arith) (omega arith) o f.within;
            reads = λ a c p q.
                let u : Same nan (get_or xs (w + 5) 0) (get_or xs (w + 5) 0 + 14 + 15 * N) s₁.reals a =
                same-on nan _ _ s₁.reals last.reals a (same-sym nan _ _ last.reals s₁.reals (f.within.low (get_or xs (w + 5) 0) (get_or xs (w + 5) 0 + 14 + 15 * N) (omega arith)))
                (same-within nan y.reals end.reals _ _ last.reals a (omega arith) (omega (arith, up.reals)) p) in
                let v : Same 0 (get_or xs (w + 6) 0) (get_or xs (w + 6) 0 + 7 + 7 * N) s₁.counts c =
                same-on 0 _ _ s₁.counts last.counts c (same-sym 0 _ _ last.counts s₁.counts (f.within.few (get_or xs (w + 6) 0) (get_or xs (w + 6) 0 + 7 + 7 * N) (omega arith)))
                (same-within 0 y.counts end.counts _ _ last.counts c (omega arith) (omega (arith, up.counts)) q) in
                let hung = f.reads a c (same-within nan y.reals end.reals own.reals end.reals last.reals a (omega arith) (omega arith) p)
                (same-within 0 y.counts end.counts own.counts end.counts last.counts c (omega arith) (omega arith) q) in
                let bs = own-bins-read xs w s room places a c u v (grid_at l xs a c) ∙ ap (model.fresh_bins N) hung in
                rw (own-record-read xs w s room places a c u v, bs, length-children (fresh_at l xs) xs w 0 N);
          })

  pub founded : (l : ℕ) → Founded l
  founded zero nothing y s g st h k = absurd (g refl)
  founded zero (axes a es) y s g st h k = axes-found zero a es y s st h k
  founded zero (bins b ts) y s g st h k = absurd (omega (arith, (bins-record xs zero b ts y st).ranges.level))
  founded (suc l) nothing y s g st h k = absurd (g refl)
  founded (suc l) (axes a es) y s g st h k = axes-found (suc l) a es y s st h k
  founded (suc l) (bins b ts) y s g st h k = bins-found l (founded l) b ts y st s h k

  -- what was laid, read back
  pub tree-founded : (l : ℕ) (t : Tree) (y : Tally) (s : Memory) → (t ≡ nothing → ⊥) → Stands xs l t y → (after t y).reals ≤ length s.reals → (after t y).counts ≤ length s.counts
      → grid_at l xs (laid_grid l xs y.words s).reals (laid_grid l xs y.words s).counts y.words ≡ fresh_at l xs y.words
  tree-founded l t y s g st h k =
      let e = laid_grid l xs y.words s in
      (founded l t y s g st h k).reads e.reals e.counts (same_refl nan y.reals (after t y).reals e.reals) (same_refl 0 y.counts (after t y).counts e.counts)

-- the root's grid, of a table that passed
pub root-founded : (xs : List ℕ) (n : Needs) (s : Memory) → Words xs → sizes_of xs ≡ gives n → n.reals ≤ length s.reals → n.counts ≤ length s.counts
    → grid_at 4 xs (laid_grid 4 xs 0 s).reals (laid_grid 4 xs 0 s).counts 0 ≡ fresh_at 4 xs 0
unfolding needs_of
root-founded xs n s large e h k =
    let r = passed-stands xs n large e in
    let rr : n.reals ≡ (after r.tree untaken).reals = ap (λ (m : Needs). m.reals) r.needs in
    let cc : n.counts ≡ (after r.tree untaken).counts = ap (λ (m : Needs). m.counts) r.needs in
    tree-founded xs 4 r.tree untaken s r.grid r.stands (omega arith) (omega arith)
