-- Sampling the tree: the bin that a draw reaches, what is put in front of a sample, and a draw from one of the bins.
use mathlib.Core.Path.{◌≡◌, refl, sym, ap, ap₂, ◌∙◌, subst}
use mathlib.Core.Bool.{Bool, true, false, not, cond, ◌&&◌, false≢true}
use mathlib.Core.Logic.{◌⊎◌, inl, inr}
use mathlib.Core.List.{List, [], ◌∷◌, ◌++◌}
use Prim.Native.Nat.{ℕ, zero, suc, ◌+◌, ◌-◌, ◌≤◌, ◌<◌}
use native.Mathlib.Numerals.{add-one}
use native.Mathlib.Omega.{arith}
use borrow.Author.Tests.{ne_eqb}
use lib.ListN.{length, take, drop, set, get_or, replicate, length-replicate, replicate-append-replicate, drop_of_length-le, length-drop}
use lib.Seq.{drop-cons, length-take-le, set_comm, sets, sets-eq, take_at, drop_at, take-append-add}
use lib.Dec.{T}
use lib.Ieee.{Float, nan, inf, fin, binary64, fits, add, mul, le, lt, of_bits}
use lib.Ieee.Fits.{add-fits}
use lib.Ieee.Bits.{of_bits-fits}
use Rattle.doubles.specs.Numbers.{zero64, one64}
use Rattle.doubles.specs.Inverse.{inv_of}
use Rattle.doubles.specs.Finite.{finite_of}
use Rattle.doubles.proofs.Truth.{both}
use Rattle.doubles.proofs.Order.{le-trans-float}
use Rattle.doubles.proofs.Monotone.{unsigned, upward, add-upward}
use Rattle.stream.specs.declared.MonteCarloRng.{MonteCarloRng}
use Rattle.stream.specs.declared.Next.{Next}
use Rattle.stream.specs.Xoshiro.{word_of, step_of}
use Rattle.stream.specs.Calls.{unit_of, unit_drawn_of}
use Rattle.accumulator.specs.Record as account
use Rattle.plan.specs.Numbers.{words_at}
use Rattle.model.specs.Grid.{Grid, Bins, Child, Head, Bin, axes, bins, none, more, probabilities}
use Rattle.recut.specs.Chances.{chance, all_chances}
use Rattle.model.specs.Sound.{sound, formed_grid, formed_bins, formed_child, kept_child}
use Rattle.model.specs.Draw.{Sample, Drawing, unit_at, Placed, placed_from, placed_of, draw_axes, weight_at, reached, over, draw_bin, draw_child, draw_nothing, draw_grid}
use Rattle.lent.specs.declared.Traced.{Traced}
use Rattle.lent.specs.declared.AxesAt.{AxesAt}
use Rattle.lent.specs.declared.Walked.{Walked}
use Rattle.lent.specs.Layout.{stretch}
use Rattle.lent.specs.Drawn.{Stands, axes_at, under_floor, padded, Places}
use Rattle.lent.specs.Tree.{axes_plan_at, axes_place, axes_grid_at, bin_in, child_in, bins_in, AxesLaid}
use Rattle.lent.specs.Judged.{sound_bin, sound_bins}
use Rattle.lent.specs.declared.Sample as given
use Rattle.lent.specs.Sampled.{empty, laid_sample, WrittenOver, Short, pushed, sound_child, traced_of, TracesAxes, Traces}
use Rattle.lent.proofs.Judges.{stretch-one, part, fit-stands}
use Rattle.lent.proofs.Sounds.{numbers-upto, sound-axes, sound_more, sound-bins}

-- ---- the bin that a draw reaches

reached-pass : (r sum : Float) (cs : List Float) (i : ℕ) → i + 1 < length cs → le r (add binary64 sum (get_or cs i nan)) ≡ true → reached r sum (drop i cs) ≡ 0
unfolding reached
reached-pass r sum cs i h e =
    let f : drop i cs ≡ get_or cs i nan ∷ (get_or cs (suc i) nan ∷ drop (suc (suc i)) cs) =
    drop-cons cs i nan (omega arith) ∙ ap (λ (l : List Float). get_or cs i nan ∷ l) (drop-cons cs (suc i) nan (omega arith)) in
    rw (f, e)

reached-on : (r sum : Float) (cs : List Float) (i : ℕ) → i + 1 < length cs → le r (add binary64 sum (get_or cs i nan)) ≡ false
    → reached r sum (drop i cs) ≡ suc (reached r (add binary64 sum (get_or cs i nan)) (drop (i + 1) cs))
unfolding reached
reached-on r sum cs i h e =
    let g : drop (i + 1) cs ≡ get_or cs (suc i) nan ∷ drop (suc (suc i)) cs = ap (λ (n : ℕ). drop n cs) (add-one i) ∙ drop-cons cs (suc i) nan (omega arith) in
    let f : drop i cs ≡ get_or cs i nan ∷ (get_or cs (suc i) nan ∷ drop (suc (suc i)) cs) =
    drop-cons cs i nan (omega arith) ∙ ap (λ (l : List Float). get_or cs i nan ∷ l) (drop-cons cs (suc i) nan (omega arith)) in
    rw (f, g, e)

reached-last : (r sum : Float) (cs : List Float) (i : ℕ) → i + 1 ≡ length cs → reached r sum (drop i cs) ≡ 0
unfolding reached
reached-last r sum cs i h =
    let past : length cs ≤ suc i = omega arith in
    let f : drop i cs ≡ get_or cs i nan ∷ [] = drop-cons cs i nan (omega arith) ∙ ap (λ (l : List Float). get_or cs i nan ∷ l) (drop_of_length-le cs past) in
    rw f

-- from bin i on, whose sum before it is known
reach-stop : (r sum : Float) (cs : List Float) (i : ℕ) → i + 1 < length cs → le r (add binary64 sum (get_or cs i nan)) ≡ true
    → (i + reached r sum (drop i cs) ≡ reached r zero64 cs) → i ≡ reached r zero64 cs
reach-stop r sum cs i h e k = let z = reached-pass r sum cs i h e in omega arith

reach-next : (r sum : Float) (cs : List Float) (i : ℕ) → i + 1 < length cs → le r (add binary64 sum (get_or cs i nan)) ≡ false
    → (i + reached r sum (drop i cs) ≡ reached r zero64 cs) → i + 1 + reached r (add binary64 sum (get_or cs i nan)) (drop (i + 1) cs) ≡ reached r zero64 cs
reach-next r sum cs i h e k = let z = reached-on r sum cs i h e in omega arith

reach-end : (r sum : Float) (cs : List Float) (i : ℕ) → i + 1 ≡ length cs → (i + reached r sum (drop i cs) ≡ reached r zero64 cs) → i ≡ reached r zero64 cs
reach-end r sum cs i h k = let z = reached-last r sum cs i h in omega arith

-- probabilities are above 0, so that their running sum goes up
chance-unsigned : (p : Float) → chance p ≡ true → T (unsigned p)
unfolding chance finite_of lt of_bits
chance-unsigned nan h = absurd (false≢true h)
chance-unsigned (inf s) h = absurd (false≢true h)
chance-unsigned (fin true m e) h = absurd (false≢true h)
chance-unsigned (fin false m e) h = tt

chance-at : (cs : List Float) (i : ℕ) → all_chances cs ≡ true → i < length cs → chance (get_or cs i nan) ≡ true
unfolding all_chances
chance-at [] i h l = absurd (omega arith)
chance-at (c ∷ cs) zero h l = (both (chance c) (all_chances cs) h).0
chance-at (c ∷ cs) (suc i) h l = chance-at cs i (both (chance c) (all_chances cs) h).1 (omega arith)

-- so many of the first i bins lie below the draw: all of them, or one was reached before, and the sums after it reach the draw too
pub record Counting (r sum : Float) (cs : List Float) (i bin : ℕ) : Type 0 where
  pub held : T (fits binary64 sum)
  pub rises : T (upward sum)
  pub counted : ((bin ≡ i) × (i + reached r sum (drop i cs) ≡ reached r zero64 cs)) ⊎ ((bin < i) × (bin ≡ reached r zero64 cs) × (le r sum ≡ true))

pub counting-first : (r : Float) (cs : List Float) → Counting r zero64 cs 0 0
unfolding of_bits
counting-first r cs = record { held = of_bits-fits binary64 0; rises = tt; counted = inl (refl, omega arith) }

pub counting-next : (r sum : Float) (cs : List Float) (i bin k : ℕ) → all_chances cs ≡ true → i + 1 < length cs → k ≡ cond (not (le r (add binary64 sum (get_or cs i nan)))) 1 0 → Counting r sum cs i bin
    → Counting r (add binary64 sum (get_or cs i nan)) cs (i + 1) (bin + k)
counting-next r sum cs i bin k all inside is c =
    let p = get_or cs i nan in
    let up = add-upward binary64 sum p c.held c.rises (chance-unsigned p (chance-at cs i all (omega arith))) in
    record { held = add-fits binary64 sum p; rises = up.1; counted = subst (λ (n : ℕ). Told (bin + n)) (sym is) (go (le r (add binary64 sum p)) refl up.0 c.counted) }
  where
    Told : ℕ → Type 0
    Told n = ((n ≡ i + 1) × (i + 1 + reached r (add binary64 sum (get_or cs i nan)) (drop (i + 1) cs) ≡ reached r zero64 cs)) ⊎ ((n < i + 1) × (n ≡ reached r zero64 cs) × (le r (add binary64 sum (get_or cs i nan)) ≡ true))

    go : (b : Bool) → le r (add binary64 sum (get_or cs i nan)) ≡ b → le sum (add binary64 sum (get_or cs i nan)) ≡ true
        → ((bin ≡ i) × (i + reached r sum (drop i cs) ≡ reached r zero64 cs)) ⊎ ((bin < i) × (bin ≡ reached r zero64 cs) × (le r sum ≡ true)) → Told (bin + cond (not b) 1 0)
    go true e up (inl o) = let z = reach-stop r sum cs i inside e o.1 in inr (omega (arith, o.0), omega (arith, o.0, z), e)
    go true e up (inr o) = inr (omega (arith, o.0), omega (arith, o.1), e)
    go false e up (inl o) = inl (omega (arith, o.0), reach-next r sum cs i inside e o.1)
    go false e up (inr o) = absurd (false≢true (sym e ∙ le-trans-float r sum (add binary64 sum (get_or cs i nan)) o.2 up))

-- where fewer than all were counted, and where there is but the last bin left
pub counted-before : (r sum : Float) (cs : List Float) (i bin : ℕ) → bin < i → Counting r sum cs i bin → bin ≡ reached r zero64 cs
counted-before r sum cs i bin h c = elim c.counted [
  | inl o ↦ absurd (omega (arith, o.0))
  | inr o ↦ o.1
]

pub counted-last : (r sum : Float) (cs : List Float) (i bin : ℕ) → i + 1 ≡ length cs → Counting r sum cs i bin → bin ≡ reached r zero64 cs
counted-last r sum cs i bin h c = elim c.counted [
  | inl o ↦ let z = reach-end r sum cs i h o.1 in omega (arith, o.0)
  | inr o ↦ o.1
]

pub counted-most : (r sum : Float) (cs : List Float) (i bin : ℕ) → Counting r sum cs i bin → bin ≤ i
counted-most r sum cs i bin c = elim c.counted [
  | inl o ↦ omega (arith, o.0)
  | inr o ↦ omega (arith, o.0)
]

-- ---- samples

-- a store before a run of stores
pub set_before : {A : Type 0} (xs : List A) (i : ℕ) (v : A) (d : ℕ) (vs : List A) → i < d → set (sets xs d vs) i v ≡ sets (set xs i v) d vs
set_before xs i v d [] h = refl
set_before xs i v d (x ∷ vs) h = set_before (set xs d x) i v (suc d) vs (omega arith) ∙ ap (λ (l : List _). sets l (suc d) vs) (set_comm xs d i x v (λ e. omega (arith, e)))

-- what is written over values that are all alike is padded with them
written-padded : {A : Type 0} (n : ℕ) (d : A) (vs : List A) → length vs ≤ n → sets (replicate n d) 0 vs ≡ padded n d vs
unfolding padded
written-padded {A} n d vs h =
    let k = n - length vs in
    let m : n ≡ length vs + k = omega arith in
    let z : 0 + length vs ≡ length vs = omega arith in
    let e : n ≡ k + length vs = omega arith in
    let r : length (replicate n d) ≡ n = length-replicate n d in
    let back : drop (length vs) (replicate n d) ≡ replicate k d =
    ap (λ (j : ℕ). drop (length vs) (replicate j d)) m ∙ ap (drop (length vs)) (sym (replicate-append-replicate (length vs) k d))
    ∙ drop_at (replicate (length vs) d) (replicate k d) (length vs) (length-replicate (length vs) d) in
    let front : take k (replicate n d) ≡ replicate k d =
    ap (λ (j : ℕ). take k (replicate j d)) e ∙ ap (take k) (sym (replicate-append-replicate k (length vs) d))
    ∙ take_at (replicate k d) (replicate (length vs) d) k (length-replicate k d) in
    sets-eq vs (replicate n d) 0 (omega (arith, r))
    ∙ ap (λ (j : ℕ). vs ++ drop j (replicate n d)) z
    ∙ ap (λ (l : List A). vs ++ l) (back ∙ sym front)
    ∙ sym (take-append-add vs (replicate n d) k)
    ∙ ap (λ (j : ℕ). take j (vs ++ replicate n d)) (sym m)

-- a draw below no level, with its numbers set
pub written-there : (m : Drawing) (t : Traced) (s s' : given.Sample) → Traces 4 0 m t s.path s'.path s.weights s'.weights s.coordinates s'.coordinates
    → (t.stream ≡ m.stream) × WrittenOver s (record { path = s'.path; levels = t.levels; weights = s'.weights; given = t.given; coordinates = s'.coordinates; axes = t.axes }) m.sample
unfolding traced_of
written-there m t s s' q =
    let e : 0 + length m.sample.path ≡ length m.sample.path = omega arith in
    let f : 0 + length m.sample.weights ≡ length m.sample.weights = omega arith in (
      ap (λ (u : Traced). u.stream) q.0,
      record {
        path = q.1;
        levels = ap (λ (u : Traced). u.levels) q.0 ∙ e;
        weights = q.2;
        given = ap (λ (u : Traced). u.given) q.0 ∙ f;
        coordinates = q.3;
        axes = ap (λ (u : Traced). u.axes) q.0;
        short = q.4;
      },
    )

-- written over a sample of nothing, it is the struct of the model's
pub written-laid : (m : Sample) (s s' : given.Sample) → s ≡ laid_sample empty → WrittenOver s s' m → s' ≡ laid_sample m
unfolding laid_sample padded
written-laid m s s' z q =
    let p : s'.path ≡ padded 4 0 m.path = q.path ∙ ap (λ (t : given.Sample). sets t.path 0 m.path) z ∙ written-padded 4 0 m.path q.short.levels in
    let w : s'.weights ≡ padded 5 zero64 m.weights = q.weights ∙ ap (λ (t : given.Sample). sets t.weights 0 m.weights) z ∙ written-padded 5 zero64 m.weights q.short.given in
    let x : s'.coordinates ≡ padded 8 zero64 m.coordinates = q.coordinates ∙ ap (λ (t : given.Sample). sets t.coordinates 0 m.coordinates) z ∙ written-padded 8 zero64 m.coordinates q.short.axes in
    same-sample p q.levels w q.given x q.axes
  where
    same-sample : {p p' : List ℕ} {l l' : ℕ} {w w' : List Float} {g g' : ℕ} {x x' : List Float} {a a' : ℕ} → p ≡ p' → l ≡ l' → w ≡ w' → g ≡ g' → x ≡ x' → a ≡ a'
        → ◌≡◌ {A = given.Sample} (record { path = p; levels = l; weights = w; given = g; coordinates = x; axes = a }) (record { path = p'; levels = l'; weights = w'; given = g'; coordinates = x'; axes = a' })
    same-sample p l w g x a = rw (p, l, w, g, x, a)

-- ---- a draw from a bin

module _ (f : ℕ → Grid) (table : List ℕ) (reals : List Float) (counts : List ℕ) (w : ℕ) where
  pub chances : (i n : ℕ) → get_or table (w + 5) 0 + 14 + i + n ≤ length reals → probabilities (bins_in f table reals counts w i n) ≡ stretch (get_or table (w + 5) 0 + 14 + i) n reals
  unfolding probabilities bins_in bin_in stretch
  chances i zero h = refl
  chances i (suc n) h =
      let e : get_or table (w + 5) 0 + 14 + i + 1 ≡ get_or table (w + 5) 0 + 14 + (i + 1) = omega arith in
      ap (λ (l : List Float). get_or reals (get_or table (w + 5) 0 + 14 + i) nan ∷ l) (chances (i + 1) n (omega arith) ∙ ap (λ (p : ℕ). stretch p n reals) (sym e))
      ∙ sym (stretch-one nan (get_or table (w + 5) 0 + 14 + i) n reals (omega arith))

  draw-bin-from : (n j i k : ℕ) (s : MonteCarloRng) → i < n
      → draw_bin (bins_in f table reals counts w j n) i k s ≡ over k (bin_in table reals counts w (j + i)) (draw_child (child_in f (get_or table (w + 7 + (j + i)) 0)) s)
  unfolding draw_bin bins_in
  draw-bin-from zero j i k s h = absurd (omega arith)
  draw-bin-from (suc n) j zero k s h = let e : j + 0 ≡ j = omega arith in rw e
  draw-bin-from (suc n) j (suc i) k s h = let e : j + suc i ≡ j + 1 + i = omega arith in rw e (draw-bin-from n (j + 1) i k s (omega arith))

  pub draw-bin : (n i : ℕ) (s : MonteCarloRng) → i < n
      → draw_bin (bins_in f table reals counts w 0 n) i i s ≡ over i (bin_in table reals counts w i) (draw_child (child_in f (get_or table (w + 7 + i) 0)) s)
  draw-bin n i s h =
      let e : 0 + i ≡ i = omega arith in
      draw-bin-from n 0 i i s h ∙ ap (λ (j : ℕ). over i (bin_in table reals counts w j) (draw_child (child_in f (get_or table (w + 7 + j) 0)) s)) e

  sound-bin-from : (n j i : ℕ) → i < n → sound_bins (bins_in f table reals counts w j n) ≡ true → sound_bin (bin_in table reals counts w (j + i)) (child_in f (get_or table (w + 7 + (j + i)) 0)) ≡ true
  unfolding bins_in
  sound-bin-from zero j i h e = absurd (omega arith)
  sound-bin-from (suc n) j zero h e =
      let z : j + 0 ≡ j = omega arith in
      rw z (both (sound_bin (bin_in table reals counts w j) (child_in f (get_or table (w + 7 + j) 0))) (sound_bins (bins_in f table reals counts w (j + 1) n)) (sym (sound_more (bin_in table reals counts w j) (child_in f (get_or table (w + 7 + j) 0)) (bins_in f table reals counts w (j + 1) n)) ∙ e)).0
  sound-bin-from (suc n) j (suc i) h e =
      let z : j + suc i ≡ j + 1 + i = omega arith in
      rw z (sound-bin-from n (j + 1) i (omega arith) (both (sound_bin (bin_in table reals counts w j) (child_in f (get_or table (w + 7 + j) 0))) (sound_bins (bins_in f table reals counts w (j + 1) n)) (sym (sound_more (bin_in table reals counts w j) (child_in f (get_or table (w + 7 + j) 0)) (bins_in f table reals counts w (j + 1) n)) ∙ e)).1)

  -- a bin of a sound grid, and what hangs there
  pub sound-in : (h : Head) (n i : ℕ) → i < n → sound (bins h (bins_in f table reals counts w 0 n)) ≡ true → sound_bin (bin_in table reals counts w i) (child_in f (get_or table (w + 7 + i) 0)) ≡ true
  sound-in h n i k e =
      let z : 0 + i ≡ i = omega arith in
      subst (λ (j : ℕ). sound_bin (bin_in table reals counts w j) (child_in f (get_or table (w + 7 + j) 0)) ≡ true) z
      (sound-bin-from n 0 i k (both (account.well_formed h.own) (sound_bins (bins_in f table reals counts w 0 n)) (sound-bins h (bins_in f table reals counts w 0 n) ∙ e)).1)

pub sound-below : (b : Bin) (c : Child) → sound_bin b c ≡ true → sound_child c ≡ true
unfolding sound_bin sound_child
sound-below b c e = (both (chance b.probability && account.well_formed b.own) (formed_child c && kept_child c) e).1

-- the grid at a link that is not 0
pub child-sound : (f : ℕ → Grid) (link : ℕ) → (link ≡ 0 → ⊥) → sound_child (child_in f link) ≡ true → sound (f link) ≡ true
unfolding sound_child child_in formed_child kept_child sound
child-sound f link n e = rw (ne_eqb link 0 n) at e

pub child-is : (f : ℕ → Grid) (link : ℕ) (s : MonteCarloRng) → (link ≡ 0 → ⊥) → draw_child (child_in f link) s ≡ draw_grid (f link) s
unfolding child_in draw_child
child-is f link s n = rw (ne_eqb link 0 n)

pub child-none : (f : ℕ → Grid) (link : ℕ) (s : MonteCarloRng) → link ≡ 0 → draw_child (child_in f link) s ≡ draw_nothing s
unfolding child_in draw_child
child-none f link s e = rw e

-- ---- the axes of a sound axes grid stand there

pub sound-stands : (table : List ℕ) (reals : List Float) (counts : List ℕ) (w : ℕ) → AxesLaid table (length reals) (length counts) w
    → sound (axes (axes_grid_at table reals counts w)) ≡ true → Stands reals counts (axes_place table w)
unfolding axes_place
sound-stands table reals counts w a e =
    let b = both _ _ (sound-axes table reals counts w a ∙ e) in (
      a.axes,
      a.most,
      fit-stands (get_or table (w + 7) 0) reals counts (get_or table (w + 3) 0 ∷ words_at table (w + 11) (get_or table (w + 8) 0)) (get_or table (w + 2) 0) (get_or table (w + 9) 0 + 14) (get_or table (w + 10) 0 + 7)
          (numbers-upto table (length reals) (length counts) w a) a.room a.places b.0,
    )

-- a draw from axes as a sample
unfoldable pub alone : Placed → Drawing
alone p = record { sample = record { path = []; weights = p.weight ∷ []; coordinates = p.coordinates }; stream = p.stream }

alone-short : (p : Placed) → length p.coordinates ≤ 8 → Short 0 (alone p).sample
unfolding alone
alone-short p h = record { levels = omega arith; given = omega arith; axes = h }

axes-drawn : (table : List ℕ) (reals : List Float) (counts : List ℕ) (w : ℕ) (start : MonteCarloRng) (p : Placed) (g : AxesAt) → g ≡ axes_place table w
    → p ≡ under_floor g.floor (placed_from g.floor (axes_at reals counts g) start) → alone p ≡ draw_axes (axes_grid_at table reals counts w) start
unfolding alone draw_axes placed_of axes_grid_at axes_plan_at axes_place under_floor
axes-drawn table reals counts w start p g e d = ap alone (d ∙ ap (λ (h : AxesAt). under_floor h.floor (placed_from h.floor (axes_at reals counts h) start)) e)

pub axes-made : (table : List ℕ) (reals : List Float) (counts : List ℕ) (w d : ℕ) (start : MonteCarloRng) (v : Walked) (g : AxesAt) (ws xs xs' : List Float) → g ≡ axes_place table w → g.axes ≤ 8
    → Places g.axes (under_floor g.floor (placed_from g.floor (axes_at reals counts g) start)) v xs xs'
    → TracesAxes d (draw_axes (axes_grid_at table reals counts w) start) (record { levels = d; given = d + 1; axes = g.axes; weight = v.weight; stream = v.stream }) ws (set ws d v.weight) xs xs'
unfolding alone traced_of weight_at
axes-made table reals counts w d start v g ws xs xs' e h q =
    let p = under_floor g.floor (placed_from g.floor (axes_at reals counts g) start) in
    let m = axes-drawn table reals counts w start p g e refl in
    let z : d + 0 ≡ d = omega arith in
    subst (λ (r : Drawing). TracesAxes d r (record { levels = d; given = d + 1; axes = g.axes; weight = v.weight; stream = v.stream }) ws (set ws d v.weight) xs xs') m (
      ap₂ (λ (n : ℕ) (a : Walked). record { levels = n; given = d + 1; axes = g.axes; weight = a.weight; stream = a.stream }) (sym z) q.0
          ∙ ap (λ (n : ℕ). record { levels = d + 0; given = d + 1; axes = n; weight = p.weight; stream = p.stream }) (sym q.2),
      ap (λ (a : Walked). set ws d a.weight) q.0,
      q.1,
      alone-short p (omega (arith, q.2)),
    )

-- ---- a draw from a bins grid, as the code makes it

pub length-chances : (at n : ℕ) (reals : List Float) → at + n ≤ length reals → length (take (at + n - at) (drop at reals)) ≡ n
length-chances at n reals h = let e : at + n - at ≡ n = omega arith in rw e (length-take-le n (drop at reals) (omega (arith, length-drop at reals)))

formed-chances : (bs : Bins) → formed_bins bs ≡ true → all_chances (probabilities bs) ≡ true
unfolding formed_bins probabilities all_chances
formed-chances none e = refl
formed-chances (more b c bs) e =
    let x = both (chance b.probability) (formed_child c && formed_bins bs) e in
    rw x.0 (formed-chances bs (both (formed_child c) (formed_bins bs) x.1).1)

module _ (f : ℕ → Grid) (table : List ℕ) (reals : List Float) (counts : List ℕ) (w : ℕ) (h : Head) where
  abbrev many : ℕ
  many = get_or table (w + 2) 0

  abbrev first : ℕ
  first = get_or table (w + 5) 0 + 14

  -- the probabilities are the stretch that the code hands on
  chances-part : first + many ≤ length reals → probabilities (bins_in f table reals counts w 0 many) ≡ take (first + many - first) (drop first reals)
  chances-part room =
      let z : first + 0 ≡ first = omega arith in
      chances f table reals counts w 0 many (omega arith) ∙ ap (λ (p : ℕ). stretch p many reals) z ∙ sym (part first many reals)

  pub chances-sound : first + many ≤ length reals → sound (bins h (bins_in f table reals counts w 0 many)) ≡ true → all_chances (take (first + many - first) (drop first reals)) ≡ true
  unfolding sound formed_grid
  chances-sound room e =
      ap all_chances (sym (chances-part room)) ∙ formed-chances (bins_in f table reals counts w 0 many) (both (formed_bins (bins_in f table reals counts w 0 many)) _ e).0

  pub bins-drawn : (start : MonteCarloRng) (u : Next Float) (i : ℕ) (below after : Drawing) (weight : Float)
      → first + many ≤ length reals → u ≡ unit_drawn_of start
      → i ≡ reached u.value zero64 (take (first + many - first) (drop first reals)) → i < many
      → below ≡ draw_child (child_in f (get_or table (w + 7 + i) 0)) u.stream
      → weight ≡ mul binary64 (inv_of (get_or reals (first + i) nan)) (weight_at below.sample.weights)
      → after ≡ record { sample = pushed i weight below.sample; stream = below.stream }
      → after ≡ draw_grid (bins h (bins_in f table reals counts w 0 many)) start
  unfolding draw_grid unit_at unit_drawn_of pushed bin_in
  bins-drawn start u i below after weight room drawn at inside hung weighs made =
      let c = chances-part room in
      let j : i ≡ reached (unit_of (word_of start)) zero64 (probabilities (bins_in f table reals counts w 0 many)) =
      at ∙ ap (λ (v : Next Float). reached v.value zero64 (take (first + many - first) (drop first reals))) drawn ∙ ap (reached (unit_of (word_of start)) zero64) (sym c) in
      let d : below ≡ draw_child (child_in f (get_or table (w + 7 + i) 0)) (step_of start) = hung ∙ ap (λ (v : Next Float). draw_child (child_in f (get_or table (w + 7 + i) 0)) v.stream) drawn in
      made
      ∙ ap (λ (x : Float). record { sample = record { path = i ∷ below.sample.path; weights = x ∷ below.sample.weights; coordinates = below.sample.coordinates }; stream = below.stream }) weighs
      ∙ ap (λ (b : Drawing). over i (bin_in table reals counts w i) b) d
      ∙ sym (draw-bin f table reals counts w many i (step_of start) inside)
      ∙ ap (λ (k : ℕ). draw_bin (bins_in f table reals counts w 0 many) k k (step_of start)) j

pub shorter : (k l : ℕ) (s : Sample) → k ≤ l → Short k s → Short l s
shorter k l s h q = record { levels = omega (arith, q.levels); given = omega (arith, q.given); axes = q.axes }

pushed_short : (l i : ℕ) (x : Float) (s : Sample) → Short l s → Short (l + 1) (pushed i x s)
unfolding pushed
pushed_short l i x s q = record { levels = omega (arith, q.levels); given = omega (arith, q.given); axes = q.axes }

module _ (f : ℕ → Grid) (table : List ℕ) (reals : List Float) (counts : List ℕ) (w : ℕ) (h : Head) where
  abbrev holds : ℕ
  holds = get_or table (w + 2) 0

  abbrev begins : ℕ
  begins = get_or table (w + 5) 0 + 14

  -- what was drawn below, with this bin and the weight before it
  pub bins-made : (l d : ℕ) (start : MonteCarloRng) (u : Next Float) (i : ℕ) (m : Drawing) (t : Traced) (inverse : Float) (ps ps' : List ℕ) (ws ws' xs xs' : List Float)
      → begins + holds ≤ length reals → u ≡ unit_drawn_of start
      → i ≡ reached u.value zero64 (take (begins + holds - begins) (drop begins reals)) → i < holds
      → m ≡ draw_child (child_in f (get_or table (w + 7 + i) 0)) u.stream → Traces l (d + 1) m t (set ps d i) ps' ws ws' xs xs'
      → inverse ≡ inv_of (get_or reals (begins + i) nan)
      → Traces (l + 1) d (draw_grid (bins h (bins_in f table reals counts w 0 holds)) start)
      (record { levels = t.levels; given = t.given; axes = t.axes; weight = mul binary64 inverse t.weight; stream = t.stream }) ps ps' ws (set ws' d (mul binary64 inverse t.weight)) xs xs'
  unfolding traced_of pushed weight_at
  bins-made l d start u i m t inverse ps ps' ws ws' xs xs' room taken at inside hung draws inv =
      let x = mul binary64 inverse t.weight in
      let after : Drawing = record { sample = pushed i x m.sample; stream = m.stream } in
      let weighs : t.weight ≡ weight_at m.sample.weights = ap (λ (a : Traced). a.weight) draws.0 in
      let e = bins-drawn f table reals counts w h start u i m after x room taken at inside hung (ap₂ (mul binary64) inv weighs) refl in
      let n : d + 1 ≡ suc d = omega arith in
      let a : d + 1 + length m.sample.path ≡ d + suc (length m.sample.path) = omega arith in
      let b : d + 1 + length m.sample.weights ≡ d + suc (length m.sample.weights) = omega arith in
      let told : record { levels = t.levels; given = t.given; axes = t.axes; weight = x; stream = t.stream } ≡ traced_of d after =
      ap (λ (a : Traced). record { levels = a.levels; given = a.given; axes = a.axes; weight = x; stream = a.stream }) draws.0
      ∙ ap₂ (λ (j k : ℕ). record { levels = j; given = k; axes = length m.sample.coordinates; weight = x; stream = m.stream }) a b in
      subst (λ (r : Drawing). Traces (l + 1) d r (record { levels = t.levels; given = t.given; axes = t.axes; weight = x; stream = t.stream }) ps ps' ws (set ws' d x) xs xs') e (
        told,
        draws.1 ∙ ap (λ (j : ℕ). sets (set ps d i) j m.sample.path) n,
        ap (λ (l : List Float). set l d x) draws.2 ∙ set_before ws d x (d + 1) m.sample.weights (omega arith) ∙ ap (λ (j : ℕ). sets (set ws d x) j m.sample.weights) n,
        draws.3,
        pushed_short l i x m.sample draws.4,
      )

-- nothing drawn: nothing is written
pub nothing-made : (l d : ℕ) (start : MonteCarloRng) (m : Drawing) (ps : List ℕ) (ws xs : List Float) → draw_nothing start ≡ m
    → Traces l d m (record { levels = d; given = d; axes = 0; weight = one64; stream = start }) ps ps ws ws xs xs
unfolding traced_of weight_at draw_nothing
nothing-made l d start m ps ws xs e =
    let z : d + 0 ≡ d = omega arith in
    subst (λ (r : Drawing). Traces l d r (record { levels = d; given = d; axes = 0; weight = one64; stream = start }) ps ps ws ws xs xs) e
    (rw z, refl, refl, refl, record { levels = omega arith; given = omega arith; axes = omega arith })
