-- What a well-formed grid has at an address, and that every accepted call leaves a well-formed grid.
use mathlib.Core.Path.{◌≡◌, refl, sym, ap, ◌∙◌, subst}
use mathlib.Core.Bool.{true, false, not, ◌&&◌}
use mathlib.Core.List.{List, [], ◌∷◌, map}
use mathlib.Core.Option.{some}
use mathlib.Core.Option as option
use Prim.Native.Nat.{ℕ, zero, suc, ◌+◌}
use native.Mathlib.Omega.{arith}
use borrow.Author.Tests.{eqb-true, not-false}
use lib.Dec.{eqb}
use lib.ListN.{length, length-map}
use lib.Ieee.{Float}
use Rattle.doubles.specs.Finite.{finite_of}
use Rattle.doubles.specs.Total.{all_finite}
use Rattle.doubles.specs.Paper.{Paper, gives, refuses}
use Rattle.doubles.proofs.Truth.{both}
use Rattle.doubles.proofs.Ladder.{passes, given}
use Rattle.accumulator.specs.Record.{well_formed}
use Rattle.accumulator.specs.Steps.{cleared_of}
use Rattle.axis.specs.Edges as Edges
use Rattle.axis.specs.Scans.{all_bounded}
use Rattle.model.specs.Axes.{Axis, AxesPlan, cleared_axis, copy_axes}
use Rattle.model.specs.Grid.{Grid, Bins, Child, axes, bins, none, more, nothing, grid, with_head, with_bin, cleared_bins, copy_grid}
use Rattle.model.specs.Sound.{all_sound, kept_axis, kept_axis_list, kept_grid, kept_bins, kept_child, listed, formed_axis, formed_axis_list, formed_grid, formed_bins, formed_child, sound, chance}
use Rattle.model.specs.Draw.{Sample}
use Rattle.model.specs.Train as train
use Rattle.model.specs.Train.{fault_of, train_grid, train_of}
use Rattle.model.specs.Merge.{same_shape, merge_grid, merge_of}
use Rattle.model.specs.Update.{update_grid, rate_fits, update_of}
use Rattle.lent.proofs.Reformed.{all_two, cleared-sound, all-cleared, sound-updated}
use Rattle.lent.proofs.Formed.{sound-trained, sound-merged}
use Rattle.lent.proofs.UnitedTree.{given-merge}
use Rattle.grid.specs.Address.{Spot, nth, axis_at, axis_in, axis_under, chance_at, chance_of, chance_in, chance_under}
use Rattle.grid.specs.History.{Call, draws, probes, sums, estimates, estimates_bin, trains, updates, matches, merges, copies, lacks, Word, Told, telling, reading, leaving, numbered, matched, told, onward, after, run}
use Rattle.grid.proofs.Places.{never, same_spot}

-- ---- an axis of a well-formed grid

Good : Spot → Type 0
Good s = (formed_axis s.plan s.axis ≡ true) × (kept_axis s.axis ≡ true)

good-nth : (plan : AxesPlan) (axs : List Axis) (k : ℕ) (s : Spot) → formed_axis_list plan axs ≡ true → kept_axis_list axs ≡ true → nth plan axs k ≡ some s → Good s
unfolding nth formed_axis_list kept_axis_list Good
good-nth plan [] k s f h e = absurd (never e)
good-nth plan (a ∷ axs) zero s f h e = subst Good (same_spot e) ((both (formed_axis plan a) _ f).0, (both (kept_axis a) _ h).0)
good-nth plan (a ∷ axs) (suc k) s f h e = good-nth plan axs k s (both (formed_axis plan a) _ f).1 (both (kept_axis a) _ h).1 e

mutual
  unfolding formed_grid formed_bins formed_child kept_grid kept_bins kept_child axis_at axis_in axis_under

  good-at : (g : Grid) (p : List ℕ) (k : ℕ) (s : Spot) → formed_grid g ≡ true → kept_grid g ≡ true → axis_at g p k ≡ some s → Good s
  good-at (axes g) [] k s f h e = good-nth g.plan g.axes k s f (both (well_formed g.own) _ h).1 e
  good-at (axes g) (i ∷ p) k s f h e = absurd (never e)
  good-at (bins d bs) [] k s f h e = absurd (never e)
  good-at (bins d bs) (i ∷ p) k s f h e = good-in bs i p k s f (both (well_formed d.own) _ h).1 e

  good-in : (bs : Bins) (i : ℕ) (p : List ℕ) (k : ℕ) (s : Spot) → formed_bins bs ≡ true → kept_bins bs ≡ true → axis_in bs i p k ≡ some s → Good s
  good-in none i p k s f h e = absurd (never e)
  good-in (more b c bs) zero p k s f h e =
      good-under c p k s (both (formed_child c) _ (both (chance b.probability) _ f).1).0 (both (kept_child c) _ (both (well_formed b.own) _ h).1).0 e
  good-in (more b c bs) (suc i) p k s f h e =
      good-in bs i p k s (both (formed_child c) _ (both (chance b.probability) _ f).1).1 (both (kept_child c) _ (both (well_formed b.own) _ h).1).1 e

  good-under : (c : Child) (p : List ℕ) (k : ℕ) (s : Spot) → formed_child c ≡ true → kept_child c ≡ true → axis_under c p k ≡ some s → Good s
  good-under nothing p k s f h e = absurd (never e)
  good-under (grid g) p k s f h e = good-at g p k s f h e

pub record Parts (ax : Axis) : Type 0 where
  pub edges : length ax.edges ≡ length ax.bins + 1
  pub importances : length ax.importances ≡ length ax.bins
  pub counters : length ax.counters ≡ length ax.bins
  pub rising : Edges.well_formed ax.edges ≡ true
  pub sums : all_sound ax.bins ≡ true
  pub few : all_bounded ax.counters ≡ true

parts-of : (s : Spot) → Good s → Parts s.axis
unfolding Good formed_axis kept_axis
parts-of s g =
    let ax = s.axis in
    let n = length ax.bins in
    let p = both (listed n (s.plan.bins ∷ s.plan.evolution)) _ g.0 in
    let q = both (eqb (length ax.edges) (n + 1)) _ p.1 in
    let r = both (eqb (length ax.importances) n) _ q.1 in
    let u = both (eqb (length ax.counters) n) (Edges.well_formed ax.edges) r.1 in
    let v = both (all_sound ax.bins) _ g.1 in
    let w = both (all_finite ax.importances) _ v.1 in
    record {
      edges = eqb-true _ _ q.0;
      importances = eqb-true _ _ r.0;
      counters = eqb-true _ _ u.0;
      rising = u.1;
      sums = v.0;
      few = (both (all_bounded ax.counters) _ w.1).0;
    }

pub parts_at : (g : Grid) (p : List ℕ) (k : ℕ) (s : Spot) → sound g ≡ true → axis_at g p k ≡ some s → Parts s.axis
unfolding sound
parts_at g p k s w e = let b = both (formed_grid g) (kept_grid g) w in parts-of s (good-at g p k s b.0 b.1 e)

-- ---- a probability of a well-formed grid

gone : {q : Float} → option.none ≡ some q → ⊥
gone e = let z : ◌≡◌ {A = ℕ} 0 1 = cc in absurd (omega arith)

mutual
  unfolding formed_grid formed_bins formed_child chance_at chance_of chance_in chance_under

  chance-grid : (g : Grid) (p : List ℕ) (i : ℕ) (q : Float) → formed_grid g ≡ true → chance_at g p i ≡ some q → chance q ≡ true
  chance-grid (axes g) p i q f e = absurd (gone e)
  chance-grid (bins h bs) [] i q f e = chance-of bs i q f e
  chance-grid (bins h bs) (j ∷ p) i q f e = chance-in bs j p i q f e

  chance-of : (bs : Bins) (i : ℕ) (q : Float) → formed_bins bs ≡ true → chance_of bs i ≡ some q → chance q ≡ true
  chance-of none i q f e = absurd (gone e)
  chance-of (more b c bs) zero q f e = let z : b.probability ≡ q = cc in ap chance (sym z) ∙ (both (chance b.probability) _ f).0
  chance-of (more b c bs) (suc i) q f e = chance-of bs i q (both (formed_child c) _ (both (chance b.probability) _ f).1).1 e

  chance-in : (bs : Bins) (j : ℕ) (p : List ℕ) (i : ℕ) (q : Float) → formed_bins bs ≡ true → chance_in bs j p i ≡ some q → chance q ≡ true
  chance-in none j p i q f e = absurd (gone e)
  chance-in (more b c bs) zero p i q f e = chance-under c p i q (both (formed_child c) _ (both (chance b.probability) _ f).1).0 e
  chance-in (more b c bs) (suc j) p i q f e = chance-in bs j p i q (both (formed_child c) _ (both (chance b.probability) _ f).1).1 e

  chance-under : (c : Child) (p : List ℕ) (i : ℕ) (q : Float) → formed_child c ≡ true → chance_under c p i ≡ some q → chance q ≡ true
  chance-under nothing p i q f e = absurd (gone e)
  chance-under (grid g) p i q f e = chance-grid g p i q f e

pub chance-at : (g : Grid) (p : List ℕ) (i : ℕ) (q : Float) → sound g ≡ true → chance_at g p i ≡ some q → chance q ≡ true
unfolding sound
chance-at g p i q w e = chance-grid g p i q (both (formed_grid g) (kept_grid g) w).0 e

-- ---- a copy is well formed

copied-formed : (plan : AxesPlan) (axs : List Axis) → formed_axis_list plan (map cleared_axis axs) ≡ formed_axis_list plan axs
unfolding formed_axis_list formed_axis cleared_axis
copied-formed plan [] = refl
copied-formed plan (a ∷ axs) = rw (length-map a.bins cleared_of, copied-formed plan axs)

copied-kept : (axs : List Axis) → kept_axis_list axs ≡ true → kept_axis_list (map cleared_axis axs) ≡ true
unfolding kept_axis_list kept_axis cleared_axis
copied-kept [] e = refl
copied-kept (a ∷ axs) e =
    let p = both (kept_axis a) (kept_axis_list axs) e in
    let q = both (all_sound a.bins) _ p.0 in
    all_two (all_two (all-cleared a.bins q.0) q.1) (copied-kept axs p.1)

cleared-formed : (bs : Bins) → formed_bins (cleared_bins bs) ≡ formed_bins bs
unfolding formed_bins cleared_bins with_bin
cleared-formed none = refl
cleared-formed (more b c bs) = rw (cleared-formed bs)

cleared-kept : (bs : Bins) → kept_bins bs ≡ true → kept_bins (cleared_bins bs) ≡ true
unfolding kept_bins cleared_bins with_bin
cleared-kept none e = refl
cleared-kept (more b c bs) e =
    let p = both (well_formed b.own) _ e in
    let q = both (kept_child c) (kept_bins bs) p.1 in
    all_two (cleared-sound b.own p.0) (all_two q.0 (cleared-kept bs q.1))

pub sound-copied : (g : Grid) → sound g ≡ true → sound (copy_grid g) ≡ true
unfolding sound formed_grid kept_grid copy_grid copy_axes with_head
sound-copied (axes g) w =
    let b = both (formed_axis_list g.plan g.axes) _ w in
    let c = both (well_formed g.own) (kept_axis_list g.axes) b.1 in
    all_two (copied-formed g.plan g.axes ∙ b.0) (all_two (cleared-sound g.own c.0) (copied-kept g.axes c.1))
sound-copied (bins h bs) w =
    let b = both (formed_bins bs) _ w in
    let c = both (well_formed h.own) (kept_bins bs) b.1 in
    all_two (cleared-formed bs ∙ b.0) (all_two (cleared-sound h.own c.0) (cleared-kept bs c.1))

-- ---- what an accepted call has passed

pub record Trained (g : Grid) (s : Sample) (e : Float) (k : ℕ) (h : Grid) : Type 0 where
  pub form : fault_of g s.path s.weights s.coordinates ≡ 0
  pub kept : kept_grid (train_grid g s.path s.weights s.coordinates e k) ≡ true
  pub is : train_grid g s.path s.weights s.coordinates e k ≡ h

pub trained : (g : Grid) (s : Sample) (e : Float) (k : ℕ) (h : Grid) → train_of g s e k ≡ gives h → Trained g s e k h
unfolding train_of
trained g s e k h q =
    let fault = fault_of g s.path s.weights s.coordinates in
    let there = train_grid g s.path s.weights s.coordinates e k in
    let a = passes (not (train.numbered k)) 3 _ h q in
    let b = passes (not (eqb fault 0)) fault _ h a.1 in
    let c = passes (not (finite_of e && all_finite s.weights)) 7 _ h b.1 in
    let d = passes (not (kept_grid there)) 8 _ h c.1 in
    record { form = eqb-true fault 0 (not-false (eqb fault 0) b.0); kept = not-false (kept_grid there) d.0; is = given there h d.1 }

pub record Updated (bins_rate axes_rate : Float) (g h : Grid) : Type 0 where
  pub eight : (update_grid bins_rate axes_rate g).eight ≡ false
  pub nine : (update_grid bins_rate axes_rate g).nine ≡ false
  pub is : (update_grid bins_rate axes_rate g).after ≡ h

pub updated : (bins_rate axes_rate : Float) (g h : Grid) → update_of bins_rate axes_rate g ≡ gives h → Updated bins_rate axes_rate g h
unfolding update_of
updated bins_rate axes_rate g h q =
    let o = update_grid bins_rate axes_rate g in
    let a = passes (not (rate_fits bins_rate && rate_fits axes_rate)) 3 _ h q in
    let b = passes o.eight 8 _ h a.1 in
    let c = passes o.nine 9 _ h b.1 in
    record { eight = b.0; nine = c.0; is = given o.after h c.1 }

pub record Merged (g o h : Grid) : Type 0 where
  pub shape : same_shape g o ≡ true
  pub kept : kept_grid (merge_grid g o) ≡ true
  pub is : merge_grid g o ≡ h

pub merged : (g o h : Grid) → merge_of g o ≡ gives h → Merged g o h
merged g o h q = let m = given-merge g o h q in record { shape = m.0; kept = m.1; is = m.2 }

-- a call that reads leaves the grid, and one that leaves another leaves what it gives
pub reads : {A : Type 0} (f : A → Word) (g : Grid) (p : Paper A) (t : Told) → reading f g p ≡ gives t → g ≡ t.grid
unfolding reading
reads f g (gives x) t e = ap (λ (u : Told). u.grid) (given (telling (f x) g) t e)
reads f g (refuses n) t e = let z : ◌≡◌ {A = ℕ} 0 1 = cc in absurd (omega arith)

pub leaves : (p : Paper Grid) (t : Told) → leaving p ≡ gives t → p ≡ gives t.grid
unfolding leaving
leaves (gives h) t e = ap (λ (u : Told). gives u.grid) (given (telling Word.done h) t e)
leaves (refuses n) t e = let z : ◌≡◌ {A = ℕ} 0 1 = cc in absurd (omega arith)

pub says : (g : Grid) (p : Paper Word) (t : Told) → matched g p ≡ gives t → g ≡ t.grid
unfolding matched
says g (gives w) t e = ap (λ (u : Told). u.grid) (given (telling w g) t e)
says g (refuses n) t e = let z : ◌≡◌ {A = ℕ} 0 1 = cc in absurd (omega arith)

pub refused_none : {A : Type 0} (n : ℕ) (x : A) → ◌≡◌ {A = Paper A} (refuses n) (gives x) → ⊥
refused_none n x e = let z : ◌≡◌ {A = ℕ} 0 1 = cc in absurd (omega arith)

-- a number that is not 0 is a refusal
pub numbered-refuses : (n : ℕ) → (n ≡ 0 → ⊥) → numbered n ≡ refuses n
unfolding numbered
numbered-refuses zero z = absurd (z refl)
numbered-refuses (suc n) z = refl

-- ---- every accepted call leaves a well-formed grid

pub sound-told : (g : Grid) (c : Call) (t : Told) → sound g ≡ true → told g c ≡ gives t → sound t.grid ≡ true
unfolding told
sound-told g (draws s) t w e = sym (ap (λ (u : Told). sound u.grid) (given _ t e)) ∙ w
sound-told g (probes path xs) t w e = sym (ap sound (reads Word.weight g _ t e)) ∙ w
sound-told g sums t w e = sym (ap sound (reads Word.summary g _ t e)) ∙ w
sound-told g estimates t w e = sym (ap sound (reads Word.estimate g _ t e)) ∙ w
sound-told g (estimates_bin path) t w e = sym (ap sound (reads Word.estimate g _ t e)) ∙ w
sound-told g (trains s v k) t w e =
    let q = trained g s v k t.grid (leaves _ t e) in
    sym (ap sound q.is) ∙ sound-trained g s.path s.weights s.coordinates v k w q.kept
sound-told g (updates bins_rate axes_rate) t w e =
    let q = updated bins_rate axes_rate g t.grid (leaves _ t e) in
    sym (ap sound q.is) ∙ sound-updated bins_rate axes_rate g w q.eight q.nine
sound-told g (matches o) t w e = sym (ap sound (says g _ t (passes (not (sound o)) 12 _ t e).1)) ∙ w
sound-told g (merges o) t w e =
    let q = merged g o t.grid (leaves _ t (passes (not (sound o)) 12 _ t e).1) in
    sym (ap sound q.is) ∙ sound-merged g o w q.kept
sound-told g copies t w e = sym (ap (λ (u : Told). sound u.grid) (given _ t e)) ∙ sound-copied g w
sound-told g (lacks n) t w e = absurd (refused_none n t e)

pub sound-after : (g : Grid) (c : Call) → sound g ≡ true → sound (after g c) ≡ true
unfolding after onward
sound-after g c w = go (told g c) refl
  where
    go : (p : Paper Told) → told g c ≡ p → sound (onward g p) ≡ true
    go (gives t) e = sound-told g c t w e
    go (refuses n) e = w

pub sound-run : (g : Grid) (cs : List Call) → sound g ≡ true → sound (run g cs) ≡ true
unfolding run
sound-run g [] w = w
sound-run g (c ∷ cs) w = sound-run (after g c) cs (sound-after g c w)
