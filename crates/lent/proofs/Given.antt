-- What a sample leaves is read from the entries that it has: of two whose lists in the model are the same, each leaves what the other does,
-- whatever their arrays hold past them. Assumes nothing.
use mathlib.Core.Path.{◌≡◌, refl, sym, ap, ap₂, ◌∙◌, subst}
use mathlib.Core.Bool.{Bool, true, false, cond}
use mathlib.Core.List.{List, [], ◌∷◌}
use Prim.Native.Nat.{ℕ, zero, suc, ◌+◌, ◌-◌, ◌<◌}
use native.Mathlib.Omega.{arith}
use borrow.Author.Tests.{eqb-true, eqb-false}
use lib.Dec.{eqb}
use lib.ListN.{length, get_or}
use lib.Ieee.{Float, nan}
use Rattle.model.specs.Grid as model
use Rattle.model.specs.Draw as drawn
use Rattle.lent.specs.declared.Sample.{Sample}
use Rattle.lent.specs.Memory.{Memory}
use Rattle.lent.specs.Sampled.{entries, sample_of}
use Rattle.lent.specs.Tree.{axes_grid_at, head_at, child_in, bins_in, grid_at}
use Rattle.lent.specs.State.{root_of}
use Rattle.lent.specs.Absorbed.{path_left, weights_left, places_in, Takes, TakesChild, absorbed_axes, absorbed_child, absorbed_bin, absorbed_bins, absorbed}
use Rattle.lent.proofs.Sounds.{node-axes, node-bins}
use Rattle.lent.proofs.Fitting.{one_left, many-left}
use Rattle.lent.proofs.Accepts.{ended, formed, takes-below, takes-grid}
use Rattle.lent.proofs.Absorbs.{absorbed-axes, absorbed-bins}

-- ---- lists that are left, and what is left after one entry more

abbrev head : {A : Type 0} → A → List A → A
head z [] = z
head z (x ∷ xs) = x

abbrev tail : {A : Type 0} → List A → List A
tail [] = []
tail (x ∷ xs) = xs

pub record Onward {A : Type 0} (z : A) (xs ys : List A) (d n k : ℕ) : Type 0 where
  pub here : get_or xs d z ≡ get_or ys d z
  pub rest : entries z xs (d + 1) (n - (d + 1)) ≡ entries z ys (d + 1) (k - (d + 1))

onward : {A : Type 0} (z : A) (xs ys : List A) (d n k : ℕ) → d < n → entries z xs d (n - d) ≡ entries z ys d (k - d) → Onward z xs ys d n k
onward z xs ys d n k h q =
    let long : n - d ≡ k - d = sym (many-left z xs d (n - d)) ∙ ap length q ∙ many-left z ys d (k - d) in
    let r = sym (one_left z xs d n h) ∙ q ∙ one_left z ys d k (omega (arith, long)) in
    record { here = ap (head z) r; rest = ap tail r }

module _ (table : List ℕ) (reals : List Float) (counts : List ℕ) (e : Float) (k : ℕ) (s s' : Sample) where
  -- what is left of them below d bins grids
  record Left (d : ℕ) : Type 0 where
    pub path : path_left s d ≡ path_left s' d
    pub weights : weights_left s d ≡ weights_left s' d
    pub places : places_in s ≡ places_in s'

  abbrev Leaves : ℕ → Type 0
  Leaves l = (w d : ℕ) (m : Memory) → Takes (grid_at l table reals counts w) s d k → Left d → absorbed l table s e k w d m ≡ absorbed l table s' e k w d m

  axes-leave : (w d : ℕ) (m : Memory) → Takes (model.axes (axes_grid_at table reals counts w)) s d k → Left d → absorbed_axes table s e k w d m ≡ absorbed_axes table s' e k w d m
  unfolding absorbed_axes
  axes-leave w d m t h =
      let f = ended table reals counts w s d t.form in
      let v = onward nan s.weights s'.weights d s.given s'.given (omega (arith, f.weight)) h.weights in
      rw (v.here, h.places)

  module _ (l : ℕ) (deeper : Leaves l) where
    child-leaves : (link d : ℕ) (m : Memory) → TakesChild (child_in (grid_at l table reals counts) link) s d k → Left d → absorbed_child (absorbed l table s e k) link d m ≡ absorbed_child (absorbed l table s' e k) link d m
    unfolding absorbed_child
    child-leaves link d m t h = told (eqb link 0) refl
      where
        told : (b : Bool) → eqb link 0 ≡ b → cond b m (absorbed l table s e k link d m) ≡ cond b m (absorbed l table s' e k link d m)
        told true b = refl
        told false b = deeper link d m (takes-grid (grid_at l table reals counts) link s d k (eqb-false link 0 b) t) h

    bin-leaves : (v : Float) (w d i : ℕ) (m : Memory) → ((n : Memory) → absorbed_child (absorbed l table s e k) (get_or table (w + 7 + i) 0) (d + 1) n ≡ absorbed_child (absorbed l table s' e k) (get_or table (w + 7 + i) 0) (d + 1) n)
        → absorbed_bin (absorbed l table s e k) table v e k w d i m ≡ absorbed_bin (absorbed l table s' e k) table v e k w d i m
    unfolding absorbed_bin
    bin-leaves v w d i m below = below _

    bins-leave : (w d : ℕ) (m : Memory) → Takes (model.bins (head_at table reals counts w) (bins_in (grid_at l table reals counts) table reals counts w 0 (get_or table (w + 2) 0))) s d k → Left d
        → absorbed_bins (absorbed l table s e k) table s e k w d m ≡ absorbed_bins (absorbed l table s' e k) table s' e k w d m
    unfolding absorbed_bins
    bins-leave w d m t h =
        let F = grid_at l table reals counts in
        let n = get_or table (w + 2) 0 in
        let o = formed F table reals counts w n (head_at table reals counts w) s d k t in
        let p = onward 0 s.path s'.path d s.levels s'.levels o.deeper h.path in
        let v = onward nan s.weights s'.weights d s.given s'.given o.weight h.weights in
        bin-leaves (get_or s.weights d nan) w d (get_or s.path d 0) m
        (λ a. child-leaves (get_or table (w + 7 + get_or s.path d 0) 0) (d + 1) a (takes-below F table reals counts w n (head_at table reals counts w) s d k t) (record { path = p.rest; weights = v.rest; places = h.places }))
        ∙ ap₂ (λ (x : Float) (i : ℕ). absorbed_bin (absorbed l table s' e k) table x e k w d i m) v.here p.here

    node-leaves : Leaves (suc l)
    node-leaves w d m t h = told (eqb (get_or table w 0) 1) refl
      where
        told : (b : Bool) → eqb (get_or table w 0) 1 ≡ b → absorbed (suc l) table s e k w d m ≡ absorbed (suc l) table s' e k w d m
        told true b =
            let a = eqb-true (get_or table w 0) 1 b in
            let was = node-axes (suc l) table reals counts w a in
            sym (absorbed-axes table s e k w d m (suc l) a) ∙ axes-leave w d m (subst (λ (g : model.Grid). Takes g s d k) was t) h ∙ absorbed-axes table s' e k w d m (suc l) a
        told false b =
            let z = eqb-false (get_or table w 0) 1 b in
            let one : suc l - 1 ≡ l = omega arith in
            let was : grid_at (suc l) table reals counts w ≡ model.bins (head_at table reals counts w) (bins_in (grid_at l table reals counts) table reals counts w 0 (get_or table (w + 2) 0)) = node-bins (suc l) table reals counts w z (omega arith) ∙ rw one in
            sym (absorbed-bins table s e k w d m (suc l) z (omega arith)) ∙ rw one (bins-leave w d m (subst (λ (g : model.Grid). Takes g s d k) was t) h) ∙ absorbed-bins table s' e k w d m (suc l) z (omega arith)

  leaves : (l : ℕ) → Leaves l
  unfolding absorbed grid_at
  leaves zero w d m t h = axes-leave w d m t h
  leaves (suc l) w d m t h = node-leaves l (leaves l) w d m t h

-- the whole sample
module _ (table : List ℕ) (e : Float) (k : ℕ) (s s' : Sample) (m : Memory) where
  pub same_left : Takes (root_of table m.reals m.counts) s 0 k → sample_of s ≡ sample_of s' → absorbed 4 table s e k 0 0 m ≡ absorbed 4 table s' e k 0 0 m
  unfolding sample_of
  same_left t q =
      let a : s.levels - 0 ≡ s.levels = omega arith in
      let b : s.given - 0 ≡ s.given = omega arith in
      let a' : s'.levels - 0 ≡ s'.levels = omega arith in
      let b' : s'.given - 0 ≡ s'.given = omega arith in
      leaves table m.reals m.counts e k s s' 4 0 0 m t (record {
        path = rw (a, a') (ap (λ (o : drawn.Sample). o.path) q);
        weights = rw (b, b') (ap (λ (o : drawn.Sample). o.weights) q);
        places = ap (λ (o : drawn.Sample). o.coordinates) q;
      })
