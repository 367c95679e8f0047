-- What stands against a sample, in its order, against the model's answer; and the call on the whole state.
use mathlib.Core.Path.{◌≡◌, refl, sym, ap, ◌∙◌}
use mathlib.Core.Bool.{Bool, true, false, not, ◌&&◌, cond, and-false}
use mathlib.Core.List.{List, [], ◌∷◌}
use Prim.Native.Nat.{ℕ, zero, suc, ◌+◌, ◌-◌, ◌^◌, ◌≤◌, ◌<◌}
use native.Mathlib.Omega.{arith}
use borrow.Author.Tests.{ne_eqb, eqb-true, eqb-false, le-leb, lt-leb}
use lib.Dec.{leb, ltb, eqb}
use lib.ListN.{length, get_or}
use lib.Ieee.{Float, nan}
use Rattle.doubles.specs.Finite.{finite_of}
use Rattle.doubles.specs.Total.{all_finite}
use Rattle.doubles.specs.Paper.{Paper, gives, refuses}
use Rattle.model.specs.Grid.{Grid, Head, axes, bins, nothing, grid, many}
use Rattle.model.specs.Sound.{sound, kept_grid}
use Rattle.model.specs.Train.{fault_of, fault_of_bin, fault_of_child, train_grid, numbered, train_of}
use Rattle.lent.specs.declared.Sample.{Sample}
use Rattle.lent.specs.Memory.{Memory}
use Rattle.lent.specs.Tree.{axes_grid_at, head_at, child_in, bins_in, node_at, grid_at}
use Rattle.lent.specs.Sampled.{entries, sample_of}
use Rattle.lent.specs.Trained.{nothing_fault}
use Rattle.lent.specs.State.{root_of, state_fault}
use Rattle.lent.specs.Absorbed.{path_left, weights_left, places_in, Takes, absorbed, objection_of, admitted}
use Rattle.lent.specs.Calls.{state_end, trained_by, train_call_of}
use Rattle.lent.proofs.States.{refused-first, answered-last}
use Rattle.lent.proofs.Fitting.{many-left, axes-form, nothing-form}
use Rattle.lent.proofs.Absorbs.{admitted-none}
use Rattle.lent.proofs.Accepts.{form-is}

-- ---- a sample of a grid's form has a weight for each level at most, and one more

none-weighs : (path : List ℕ) (ws xs : List Float) → nothing_fault path ws xs ≡ 0 → length ws ≡ 0
unfolding nothing_fault
none-weighs (i ∷ path) ws xs e = absurd (omega (arith, e))
none-weighs [] (w ∷ ws) xs e = absurd (omega (arith, e))
none-weighs [] [] xs e = refl

module _ (f : ℕ → Grid) (most : ℕ) (deeper : (w : ℕ) (path : List ℕ) (ws xs : List Float) → fault_of (f w) path ws xs ≡ 0 → length ws ≤ most) where
  child-weighs : (link : ℕ) (path : List ℕ) (ws xs : List Float) → fault_of_child (child_in f link) path ws xs ≡ 0 → length ws ≤ most
  unfolding child_in fault_of_child
  child-weighs link path ws xs e = told (eqb link 0) e
    where
      told : (b : Bool) → fault_of_child (cond b nothing (grid (f link))) path ws xs ≡ 0 → length ws ≤ most
      told true q = omega (arith, none-weighs path ws xs (nothing-form path ws xs ∙ q))
      told false q = deeper link path ws xs q

  bin-weighs : (table : List ℕ) (reals : List Float) (counts : List ℕ) (w n j i : ℕ) (path : List ℕ) (ws xs : List Float) → fault_of_bin (bins_in f table reals counts w j n) i path ws xs ≡ 0 → length ws ≤ most
  unfolding bins_in fault_of_bin
  bin-weighs table reals counts w zero j i path ws xs e = absurd (omega (arith, e))
  bin-weighs table reals counts w (suc n) j zero path ws xs e = child-weighs (get_or table (w + 7 + j) 0) path ws xs e
  bin-weighs table reals counts w (suc n) j (suc i) path ws xs e = bin-weighs table reals counts w n (j + 1) i path ws xs e

  bins-weigh : (table : List ℕ) (reals : List Float) (counts : List ℕ) (w n : ℕ) (h : Head) (path : List ℕ) (ws xs : List Float)
      → fault_of (bins h (bins_in f table reals counts w 0 n)) path ws xs ≡ 0 → length ws ≤ suc most
  unfolding fault_of
  bins-weigh table reals counts w n h [] ws xs e = absurd (omega (arith, e))
  bins-weigh table reals counts w n h (i ∷ path) [] xs e = omega arith
  bins-weigh table reals counts w n h (i ∷ path) (v ∷ ws) xs e = told (ltb i (many (bins_in f table reals counts w 0 n))) e
    where
      told : (b : Bool) → cond b (fault_of_bin (bins_in f table reals counts w 0 n) i path ws xs) 6 ≡ 0 → suc (length ws) ≤ suc most
      told true q = let k = bin-weighs table reals counts w n 0 i path ws xs q in omega arith
      told false q = absurd (omega (arith, q))

axes-weigh : (table : List ℕ) (reals : List Float) (counts : List ℕ) (w : ℕ) (path : List ℕ) (ws xs : List Float) → fault_of (axes (axes_grid_at table reals counts w)) path ws xs ≡ 0 → length ws ≡ 1
axes-weigh table reals counts w path ws xs e = (form-is (get_or table (w + 2) 0) path ws xs (axes-form table reals counts w path ws xs ∙ e)).weight

few-weights : (l : ℕ) (table : List ℕ) (reals : List Float) (counts : List ℕ) (w : ℕ) (path : List ℕ) (ws xs : List Float) → fault_of (grid_at l table reals counts w) path ws xs ≡ 0 → length ws ≤ suc l
unfolding grid_at node_at
few-weights zero table reals counts w path ws xs e = omega (arith, axes-weigh table reals counts w path ws xs e)
few-weights (suc l) table reals counts w path ws xs e = told (eqb (get_or table w 0) 1) (λ v p us ys k. few-weights l table reals counts v p us ys k) e
  where
    told : (b : Bool) → ((v : ℕ) (p : List ℕ) (us ys : List Float) → fault_of (grid_at l table reals counts v) p us ys ≡ 0 → length us ≤ suc l) → fault_of (cond b (axes (axes_grid_at table reals counts w)) (bins (head_at table reals counts w) (bins_in (grid_at l table reals counts) table reals counts w 0 (get_or table (w + 2) 0)))) path ws xs ≡ 0
        → length ws ≤ suc (suc l)
    told true deeper q = omega (arith, axes-weigh table reals counts w path ws xs q)
    told false deeper q = bins-weigh (grid_at l table reals counts) (suc l) deeper table reals counts w (get_or table (w + 2) 0) (head_at table reals counts w) path ws xs q

pub five-weights : (table : List ℕ) (reals : List Float) (counts : List ℕ) (s : Sample) → fault_of (root_of table reals counts) (path_left s 0) (weights_left s 0) (places_in s) ≡ 0 → s.given ≤ 5
five-weights table reals counts s e = omega (arith, few-weights 4 table reals counts 0 (path_left s 0) (weights_left s 0) (places_in s) e, many-left nan s.weights 0 (s.given - 0))

-- ---- the order of the refusals

-- the whole sample is what is left of it at the top
pub whole : (g : Grid) (s : Sample) (e : Float) (k : ℕ) → train_grid g (path_left s 0) (weights_left s 0) (places_in s) e k ≡ train_grid g (sample_of s).path (sample_of s).weights (sample_of s).coordinates e k
unfolding sample_of
whole g s e k =
    let a : s.levels - 0 ≡ s.levels = omega arith in
    let b : s.given - 0 ≡ s.given = omega arith in
    rw (a, b)

pub number-low : (k : ℕ) → k ≡ 0 → numbered k ≡ false
unfolding numbered
number-low k e = rw e

pub number-high : (k : ℕ) → 2 ^ 53 < k → numbered k ≡ false
unfolding numbered
number-high k h = rw (lt-leb k (2 ^ 53) h) (and-false (leb 1 k))

pub number-good : (k : ℕ) → (k ≡ 0 → ⊥) → k ≤ 2 ^ 53 → numbered k ≡ true
unfolding numbered
number-good k z h = let one : 1 ≤ k = positive k z in rw (le-leb 1 k one, le-leb k (2 ^ 53) h)
  where
    positive : (j : ℕ) → (j ≡ 0 → ⊥) → 1 ≤ j
    positive zero q = absurd (q refl)
    positive (suc j) q = omega arith

module _ (g : Grid) (s : Sample) (e : Float) (k : ℕ) where
  abbrev fault : ℕ
  fault = fault_of g (path_left s 0) (weights_left s 0) (places_in s)

  abbrev finite : Bool
  finite = finite_of e && all_finite (entries nan s.weights 0 s.given)

  abbrev keeps : Bool
  keeps = kept_grid (train_grid g (path_left s 0) (weights_left s 0) (places_in s) e k)

  abbrev answer : Paper Grid
  answer = train_of g (sample_of s) e k

  abbrev ladder : Bool → ℕ → Bool → Bool → Grid → Paper Grid
  ladder n f t r a = cond (not n) (refuses 3) (cond (not (eqb f 0)) (refuses f) (cond (not t) (refuses 7) (cond (not r) (refuses 8) (gives a))))

  abbrev after : Grid
  after = train_grid g (sample_of s).path (sample_of s).weights (sample_of s).coordinates e k

  laddered : answer ≡ ladder (numbered k) fault finite keeps after
  unfolding train_of sample_of
  laddered =
      let a : s.levels - 0 ≡ s.levels = omega arith in
      let b : s.given - 0 ≡ s.given = omega arith in
      rw (a, b)

  pub object-number : numbered k ≡ false → 3 ≡ objection_of answer
  unfolding objection_of
  object-number n = rw (laddered, n)

  pub object-form : (j : ℕ) → numbered k ≡ true → j ≡ fault → (j ≡ 0 → ⊥) → j ≡ objection_of answer
  unfolding objection_of
  object-form j n q z = rw (laddered, n, sym q, ne_eqb j 0 z)

  pub object-finite : numbered k ≡ true → fault ≡ 0 → finite ≡ false → 7 ≡ objection_of answer
  unfolding objection_of
  object-finite n q t = rw (laddered, n, q, t)

  pub object-kept : numbered k ≡ true → fault ≡ 0 → finite ≡ true → keeps ≡ false → 8 ≡ objection_of answer
  unfolding objection_of
  object-kept n q t r = rw (laddered, n, q, t, r)

  pub object-none : numbered k ≡ true → fault ≡ 0 → finite ≡ true → keeps ≡ true → 0 ≡ objection_of answer
  unfolding objection_of
  object-none n q t r = rw (laddered, n, q, t, r)

  -- where nothing stands against it the model gives
  pub record Granted : Type 0 where
    pub number : numbered k ≡ true
    pub form : fault ≡ 0
    pub finite-all : finite ≡ true
    pub kept : keeps ≡ true
    pub gave : answer ≡ gives after

  granted : (n : Bool) (f : ℕ) (b : Bool) (t r : Bool) → numbered k ≡ n → fault ≡ f → eqb f 0 ≡ b → finite ≡ t → keeps ≡ r → objection_of (ladder n f t r after) ≡ 0 → Granted
  unfolding objection_of
  granted true f true true true n q z t r o =
      let y : f ≡ 0 = eqb-true f 0 z in
      record { number = n; form = q ∙ y; finite-all = t; kept = r; gave = laddered ∙ rw (n, q ∙ y, t, r) }
  granted false f b t r n q z y x o = absurd (omega (arith, o))
  granted true f false t r n q z y x o = absurd (eqb-false f 0 z (rw z at o))
  granted true f true false r n q z y x o = absurd (omega (arith, rw z at o))
  granted true f true true false n q z y x o = absurd (omega (arith, rw z at o))

  pub grants : objection_of answer ≡ 0 → Granted
  grants o = granted (numbered k) fault (eqb fault 0) finite keeps refl refl refl refl refl (sym (ap objection_of laddered) ∙ o)

  pub takes-root : sound g ≡ true → objection_of answer ≡ 0 → Takes g s 0 k
  takes-root w o = let q = grants o in record { well = w; form = q.form; number = q.number }

pub objected : (p : Paper Grid) (n : ℕ) → n ≡ objection_of p → (n ≡ 0 → ⊥) → p ≡ refuses n
unfolding objection_of
objected (gives g) n e z = absurd (z e)
objected (refuses k) n e z = ap refuses (sym e)

-- ---- the call

module _ (table : List ℕ) (m : Memory) (s : Sample) (e : Float) (k : ℕ) where
  abbrev told : Paper Grid
  told = train_of (root_of table m.reals m.counts) (sample_of s) e k

  pub train-state : (n : ℕ) → n ≡ state_fault table m.reals m.counts → (n ≡ 0 → ⊥) → state_end n m ≡ train_call_of table m s e k
  unfolding train_call_of trained_by
  train-state n q z = ap (λ (j : ℕ). state_end j m) q ∙ sym (ap (trained_by table m s e k) (refused-first (state_fault table m.reals m.counts) told (λ y. z (q ∙ y))))

  pub train-objection : (n : ℕ) → state_fault table m.reals m.counts ≡ 0 → n ≡ objection_of told → (n ≡ 0 → ⊥) → state_end n m ≡ train_call_of table m s e k
  unfolding train_call_of trained_by
  train-objection n c q z = sym (ap (trained_by table m s e k) (answered-last (state_fault table m.reals m.counts) told c ∙ objected told n q z))

  pub train-done : (m' : Memory) → state_fault table m.reals m.counts ≡ 0 → objection_of told ≡ 0 → m' ≡ absorbed 4 table s e k 0 0 m → state_end 0 m' ≡ train_call_of table m s e k
  unfolding train_call_of trained_by
  train-done m' c q h =
      ap (state_end 0) h
      ∙ sym (ap (trained_by table m s e k) (answered-last (state_fault table m.reals m.counts) told c ∙ (grants (root_of table m.reals m.counts) s e k q).gave))

  -- the sample is taken in where nothing stands against it
  pub train-admits : (n : ℕ) (m' : Memory) → state_fault table m.reals m.counts ≡ 0 → n ≡ objection_of told → m' ≡ admitted n table s e k m → state_end n m' ≡ train_call_of table m s e k
  unfolding admitted
  train-admits zero m' c q h = train-done m' c (sym q) h
  train-admits (suc n) m' c q h =
      let z : suc n ≡ 0 → ⊥ = λ f. omega (arith, f) in
      ap (state_end (suc n)) (h ∙ admitted-none (suc n) table s e k m z) ∙ train-objection (suc n) c q z
