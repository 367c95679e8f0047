-- What is drawn from a well-formed grid in lent memory has the grid's form: its run gives every axis at most 1,024 bins, and every bins grid one
-- at least. And as a struct it loses nothing.
use mathlib.Core.Path.{◌≡◌, refl, sym, ap, ◌∙◌, subst}
use mathlib.Core.Logic.{inl, inr}
use mathlib.Core.Bool.{true}
use mathlib.Core.List.{List, [], ◌∷◌, ◌++◌}
use Prim.Native.Nat.{ℕ, zero, suc, ◌+◌, ◌-◌, ◌≤◌, ◌<◌}
use native.Mathlib.Omega.{arith}
use borrow.Author.Tests.{ne_eqb}
use lib.ListN.{length, get_or, take, drop, replicate, length-append, length-replicate}
use lib.Seq.{length-take-le, take_at, sets, sets-eq, length-sets}
use lib.Ieee.{Float, nan}
use Rattle.doubles.specs.Numbers.{zero64}
use Rattle.plan.specs.Numbers.{words_at}
use Rattle.stream.specs.declared.MonteCarloRng.{MonteCarloRng}
use Rattle.model.specs.Grid.{Grid, bins}
use Rattle.model.specs.Sound.{sound}
use Rattle.model.specs.Draw.{Sample, draw_grid}
use Rattle.model.specs.Train.{fault_of}
use Rattle.model.proofs.Drawn.{FewBins, Sized, SizedBins, SizedChild, drawn-formed}
use Rattle.lent.specs.Drawn.{padded}
use Rattle.lent.specs.declared.Sample as given
use Rattle.lent.specs.Sampled.{entries, sample_of, laid_sample, Short, WrittenOver}
use Rattle.lent.specs.State.{root_of}
use Rattle.lent.specs.Absorbed.{form_of}
use Rattle.lent.specs.Tree.{axes_plan_at, axes_grid_at, head_at, child_in, bins_in, grid_at, AxesLaid, Laid}
use Rattle.lent.proofs.Judges.{listed-upto}
use Rattle.lent.proofs.Sounds.{numbers-upto, node-axes, node-bins}
use Rattle.lent.proofs.Paths.{many-bins}
use Rattle.lent.proofs.Trains.{entries-take}

plan-few : (table : List ℕ) (R C w : ℕ) → AxesLaid table R C w → FewBins (axes_plan_at table w)
unfolding FewBins axes_plan_at
plan-few table R C w a n e =
    omega (arith, (listed-upto (get_or table (w + 7) 0) n (get_or table (w + 3) 0 ∷ words_at table (w + 11) (get_or table (w + 8) 0)) (numbers-upto table R C w a) e).1, a.most)

module _ (f : ℕ → Grid) (table : List ℕ) (reals : List Float) (counts : List ℕ) (w : ℕ) where
  child-sized : (link : ℕ) → ((link ≡ 0 → ⊥) → Sized (f link)) → SizedChild (child_in f link)
  unfolding child_in SizedChild
  child-sized zero h = tt
  child-sized (suc n) h = let z : suc n ≡ 0 → ⊥ = λ e. absurd (omega (arith, e)) in rw (ne_eqb (suc n) 0 z) (h z)

  bins-sized : (n j : ℕ) → ((q : ℕ) → j ≤ q → q < j + n → (get_or table (w + 7 + q) 0 ≡ 0 → ⊥) → Sized (f (get_or table (w + 7 + q) 0))) → SizedBins (bins_in f table reals counts w j n)
  unfolding bins_in SizedBins
  bins-sized zero j h = tt
  bins-sized (suc n) j h = (child-sized (get_or table (w + 7 + j) 0) (h j (omega arith) (omega arith)), bins-sized n (j + 1) (λ q x y. h q (omega arith) (omega arith)))

axes-sized : (table : List ℕ) (reals : List Float) (counts : List ℕ) (R C w l : ℕ) → AxesLaid table R C w → Sized (grid_at l table reals counts w)
unfolding Sized axes_grid_at
axes-sized table reals counts R C w l a = subst Sized (sym (node-axes l table reals counts w a.kind)) (plan-few table R C w a)

pub laid-sized : (l : ℕ) (table : List ℕ) (reals : List Float) (counts : List ℕ) (R C w : ℕ) → Laid l table R C w → Sized (grid_at l table reals counts w)
unfolding Laid Sized
laid-sized zero table reals counts R C w a = axes-sized table reals counts R C w zero a
laid-sized (suc l) table reals counts R C w (inl a) = axes-sized table reals counts R C w (suc l) a
laid-sized (suc l) table reals counts R C w (inr b) =
    let z : get_or table w 0 ≡ 1 → ⊥ = λ e. absurd (omega (arith, b.kind, e)) in
    let same : suc l - 1 ≡ l = omega arith in
    let n = get_or table (w + 2) 0 in
    let f = grid_at l table reals counts in
    subst Sized (sym (node-bins (suc l) table reals counts w z (omega arith) ∙ ap (λ (k : ℕ). bins (head_at table reals counts w) (bins_in (grid_at k table reals counts) table reals counts w 0 n)) same))
    (subst (λ (k : ℕ). 1 ≤ k) (sym (many-bins f table reals counts w 0 n)) b.some, bins-sized f table reals counts w n 0 (λ q x y k. laid-sized l table reals counts R C (get_or table (w + 7 + q) 0) (b.children q (omega arith) k)))

pub laid-drawn : (l : ℕ) (table : List ℕ) (reals : List Float) (counts : List ℕ) (R C w : ℕ) (s : MonteCarloRng) → Laid l table R C w → sound (grid_at l table reals counts w) ≡ true
    → fault_of (grid_at l table reals counts w) (draw_grid (grid_at l table reals counts w) s).sample.path (draw_grid (grid_at l table reals counts w) s).sample.weights
    (draw_grid (grid_at l table reals counts w) s).sample.coordinates ≡ 0
laid-drawn l table reals counts R C w s a well = drawn-formed (grid_at l table reals counts w) s well (laid-sized l table reals counts R C w a)

-- ---- the struct and back

front-padded : {A : Type 0} (xs : List A) (n : ℕ) (ys : List A) → length xs ≤ n → take (length xs) (take n (xs ++ ys)) ≡ xs
front-padded {A} [] n ys h = refl
front-padded {A} (x ∷ xs) zero ys h = absurd (omega arith)
front-padded {A} (x ∷ xs) (suc n) ys h = ap (λ (l : List A). x ∷ l) (front-padded xs n ys (omega arith))

entries-back : {A : Type 0} (d z : A) (n : ℕ) (xs : List A) → length xs ≤ n → entries d (padded n z xs) 0 (length xs) ≡ xs
unfolding padded
entries-back d z n xs h =
    let long : n ≤ length (xs ++ replicate n z) = omega (arith, length-append xs (replicate n z), length-replicate n z) in
    entries-take d (take n (xs ++ replicate n z)) (length xs) (omega (arith, length-take-le n (xs ++ replicate n z) long)) ∙ front-padded xs n (replicate n z) h

pub sample-back : (m : Sample) → Short 4 m → sample_of (laid_sample m) ≡ m
unfolding sample_of laid_sample
sample-back m h = rw (entries-back 0 0 4 m.path h.levels, entries-back nan zero64 5 m.weights (omega (arith, h.given)), entries-back nan zero64 8 m.coordinates h.axes)

-- what is written over an array from its beginning is read back
written_back : {A : Type 0} (z : A) (xs vs : List A) → length vs ≤ length xs → entries z (sets xs 0 vs) 0 (length vs) ≡ vs
written_back {A} z xs vs h =
    let e : 0 + length vs ≤ length xs = omega arith in
    entries-take z (sets xs 0 vs) (length vs) (omega (arith, h, length-sets xs 0 vs)) ∙ ap (take (length vs)) (sets-eq vs xs 0 e) ∙ take_at vs (drop (0 + length vs) xs) (length vs) refl

-- a drawn sample, written over any other, is the model's
pub drawn-back : (m : Sample) (s s' : given.Sample) → length s.path ≡ 4 → length s.weights ≡ 5 → length s.coordinates ≡ 8 → WrittenOver s s' m → sample_of s' ≡ m
unfolding sample_of
drawn-back m s s' p w x q =
    rw (
      q.path,
      q.levels,
      q.weights,
      q.given,
      q.coordinates,
      q.axes,
      written_back 0 s.path m.path (omega (arith, q.short.levels, p)),
      written_back nan s.weights m.weights (omega (arith, q.short.given, w)),
      written_back nan s.coordinates m.coordinates (omega (arith, q.short.axes, x)),
    )

-- a struct that is a drawn sample has the form of the grid that it was drawn from
pub form-drawn : (table : List ℕ) (reals : List Float) (counts : List ℕ) (R C : ℕ) (s : MonteCarloRng) (t : given.Sample) → Laid 4 table R C 0 → sound (root_of table reals counts) ≡ true
    → sample_of t ≡ (draw_grid (root_of table reals counts) s).sample → form_of (root_of table reals counts) t ≡ 0
unfolding sample_of
form-drawn table reals counts R C s t a well q =
    let g = root_of table reals counts in
    let p : t.levels - 0 ≡ t.levels = omega arith in
    let w : t.given - 0 ≡ t.given = omega arith in
    rw (p, w) (ap (λ (x : Sample). fault_of g x.path x.weights x.coordinates) q ∙ laid-drawn 4 table reals counts R C 0 s a well)
