-- Judging axes in lent memory: one value and one axis on, and that the scans tell exactly which axes are well formed.
use mathlib.Core.Path.{◌≡◌, refl, sym, ap, ap₂, ◌∙◌, subst}
use mathlib.Core.Bool.{Bool, true, false, ◌&&◌, ◌||◌, cond, and_assoc, and-true, or-false, or_assoc, and-false, and_comm, false≢true}
use mathlib.Core.List.{List, [], ◌∷◌}
use Prim.Native.Nat.{ℕ, zero, suc, ◌+◌, ◌-◌, ◌*◌, ◌^◌, ◌≤◌, ◌<◌}
use native.Mathlib.Nat.{suc-mul}
use native.Mathlib.Numerals.{add-one}
use native.Mathlib.Omega.{arith}
use borrow.Author.Tests.{eqb-true, eq-eqb}
use lib.Dec.{leb, eqb}
use lib.ListN.{length, take, drop, get_or, drop_of_length-le, length-drop}
use lib.Seq.{drop-cons, length-take-le}
use lib.Ieee.{Float, nan, of_bits}
use Rattle.doubles.specs.Numbers.{zero64}
use Rattle.doubles.specs.Finite.{finite_of}
use Rattle.doubles.specs.Total.{all_finite}
use Rattle.doubles.proofs.Truth.{both}
use Rattle.accumulator.specs.Record as record_of
use Rattle.axis.specs.Edges.{well_formed}
use Rattle.axis.specs.Scans.{all_bounded}
use Rattle.model.specs.Axes.{AxesPlan}
use Rattle.model.specs.Sound.{listed, all_sound, kept_axis, kept_axis_list, formed_axis, formed_axis_list}
use Rattle.lent.specs.Layout.{stretch, axis_reals, axis_counts, bin_record, bin_at, bins_from, axis_at, axes_from}
use Rattle.lent.specs.Drawn.{Standing}
use Rattle.lent.specs.Judged.{reals_fit, counts_fit, axis_fits, axes_fit, AllUpto}
use Rattle.lent.proofs.Reading.{length-bins}

-- ---- the plan's bin numbers

pub listed-on : (n : ℕ) (vs : List ℕ) (i : ℕ) (found : Bool) → i < length vs → ((found || eqb n (get_or vs i 0)) || listed n (drop (i + 1) vs)) ≡ (found || listed n (drop i vs))
unfolding listed
listed-on n vs i found h = rw (or_assoc, add-one, drop-cons vs i 0 h)

pub listed-out : (n : ℕ) (vs : List ℕ) (i : ℕ) (found : Bool) → length vs ≤ i → (found || listed n (drop i vs)) ≡ found
unfolding listed
listed-out n vs i found h = ap (λ (l : List ℕ). found || listed n l) (drop_of_length-le vs h) ∙ or-false found

-- a number that is listed is within the bounds of all
one_of : (m n k : ℕ) (rest : Bool) (b : Bool) → eqb n k ≡ b → (b || rest) ≡ true → (1 ≤ k) × (k ≤ m) → (rest ≡ true → (1 ≤ n) × (n ≤ m)) → (1 ≤ n) × (n ≤ m)
one_of m n k rest true q e h f = let s = eqb-true n k q in (omega (arith, h.0, s), omega (arith, h.1, s))
one_of m n k rest false q e h f = f e

pub listed-upto : (m n : ℕ) (ns : List ℕ) → AllUpto m ns → listed n ns ≡ true → (1 ≤ n) × (n ≤ m)
unfolding listed AllUpto
listed-upto m n [] a e = absurd (false≢true e)
listed-upto m n (k ∷ ns) a e = one_of m n k (listed n ns) (eqb n k) refl e (a 0 (omega arith)) (listed-upto m n ns (λ i h. a (suc i) (omega arith)))

-- ---- parts that are lent

pub part : {A : Type 0} (at n : ℕ) (xs : List A) → take (at + n - at) (drop at xs) ≡ stretch at n xs
unfolding stretch
part at n xs = let e : at + n - at ≡ n = omega arith in rw e

-- ---- axis after axis

-- k stretches of s places: the first lies there, and so do the others
pub room_next : (k d s r R : ℕ) → d < k → r + (k - d) * s ≤ R → (r + s ≤ R) × (r + s + (k - (d + 1)) * s ≤ R)
room_next k d s r R h i =
    let e : k - d ≡ suc (k - (d + 1)) = omega arith in
    let j : r + suc (k - (d + 1)) * s ≤ R = subst (λ (n : ℕ). r + n * s ≤ R) e i in
    let f : suc (k - (d + 1)) * s ≡ (k - (d + 1)) * s + s = suc-mul (k - (d + 1)) s in
    (omega arith, omega arith)

module _ (ns : List ℕ) (m : ℕ) (reals : List Float) (counts : List ℕ) where
  pub fit_on : (k d r c : ℕ) (ok : Bool) → d < k
      → ((ok && axis_fits ns m reals counts r c) && axes_fit ns m reals counts (k - (d + 1)) (r + (6 * m + 1)) (c + (3 * m + 2))) ≡ (ok && axes_fit ns m reals counts (k - d) r c)
  unfolding axes_fit axis_reals axis_counts
  fit_on k d r c ok h = let e : k - d ≡ suc (k - (d + 1)) = omega arith in rw (and_assoc, e)

  pub fit-out : (k d r c : ℕ) (ok : Bool) → k ≤ d → (ok && axes_fit ns m reals counts (k - d) r c) ≡ ok
  unfolding axes_fit
  fit-out k d r c ok h = let e : k - d ≡ 0 = omega arith in rw e (and-true ok)

-- ---- the scans tell exactly which axes are well formed

pub two-and-two : (a b c d : Bool) → ((a && b) && (c && d)) ≡ ((a && c) && (b && d))
two-and-two true true c d = refl
two-and-two true false c d = sym (and-false c)
two-and-two false b c d = refl

pub four-and-four : (a b c d A B C D : Bool) → (((a && b) && (c && d)) && ((A && B) && (C && D))) ≡ (((a && A) && (b && B)) && ((c && C) && (d && D)))
four-and-four a b c d A B C D = two-and-two (a && b) (c && d) (A && B) (C && D) ∙ ap₂ ◌&&◌ (two-and-two a b A B) (two-and-two c d C D)

pub zero-finite : finite_of zero64 ≡ true
unfolding finite_of of_bits
zero-finite = refl

-- a bin's record: two sums and two counts decide
pub sound-bin : (s q h l : Float) (n z : ℕ) → record_of.well_formed (bin_record s q h l n z) ≡ ((finite_of s && finite_of q) && (leb n (2 ^ 53) && leb z (2 ^ 53)))
unfolding record_of.well_formed record_of.finite_sums record_of.bounded_counts record_of.bounded bin_record record_of.with_extremes record_of.with_waiting record_of.fresh
sound-bin s q h l n z = rw (zero-finite, and-true (finite_of s && finite_of q), and-true (finite_of s && finite_of q)) (ap (λ (b : Bool). (finite_of s && finite_of q) && b) (and-true _ ∙ and-true _ ∙ and-true _))

pub stretch-one : {A : Type 0} (e : A) (at n : ℕ) (xs : List A) → at < length xs → stretch at (suc n) xs ≡ get_or xs at e ∷ stretch (at + 1) n xs
unfolding stretch
stretch-one e at n xs h = rw (drop-cons xs at e h, add-one)

finite-one : (at at' n : ℕ) (xs : List Float) → at < length xs → at' ≡ at + 1 → all_finite (stretch at (suc n) xs) ≡ (finite_of (get_or xs at nan) && all_finite (stretch at' n xs))
unfolding all_finite
finite-one at at' n xs h e = ap all_finite (stretch-one nan at n xs h) ∙ ap (λ (j : ℕ). finite_of (get_or xs at nan) && all_finite (stretch j n xs)) (sym e)

bounded-one : (at at' n : ℕ) (xs : List ℕ) → at < length xs → at' ≡ at + 1 → all_bounded (stretch at (suc n) xs) ≡ (leb (get_or xs at 0) (2 ^ 53) && all_bounded (stretch at' n xs))
unfolding all_bounded
bounded-one at at' n xs h e = ap all_bounded (stretch-one 0 at n xs h) ∙ ap (λ (j : ℕ). leb (get_or xs at 0) (2 ^ 53) && all_bounded (stretch j n xs)) (sym e)

nothing-there : (a b c d : ℕ) (reals : List Float) (counts : List ℕ) → true ≡ ((all_finite (stretch a 0 reals) && all_finite (stretch b 0 reals)) && (all_bounded (stretch c 0 counts) && all_bounded (stretch d 0 counts)))
unfolding stretch all_finite all_bounded
nothing-there a b c d reals counts = refl

-- the order in which the columns are scanned
spread : (e i s q w z k u : Bool) → (((e && i) && (s && q)) && ((w && z) && (k && u))) ≡ (e && (((s && q) && (w && z)) && (i && (k && u))))
spread true i s q w z k u = two-and-two i (s && q) (w && z) (k && u) ∙ ap (λ (b : Bool). b && ((s && q) && (k && u))) (and_comm i (w && z)) ∙ four i (s && q) (w && z) (k && u)
  where
    four : (a b c d : Bool) → ((c && a) && (b && d)) ≡ ((b && c) && (a && d))
    four true true true d = refl
    four true true false d = refl
    four true false c d = and-false (c && true)
    four false b true d = sym (and-false (b && true))
    four false b false d = sym (and-false (b && false))
spread false i s q w z k u = refl

module _ (m : ℕ) (reals : List Float) (counts : List ℕ) where
  pub sound-bins : (r c i n : ℕ) → i + n ≤ m → r + (6 * m + 1) ≤ length reals → c + (3 * m + 2) ≤ length counts
      → all_sound (bins_from m reals counts r c i n)
      ≡ ((all_finite (stretch (r + (2 * m + 1) + i) n reals) && all_finite (stretch (r + (3 * m + 1) + i) n reals))
      && (all_bounded (stretch (c + 2 + i) n counts) && all_bounded (stretch (c + (m + 2) + i) n counts)))
  unfolding all_sound bins_from bin_at
  sound-bins r c i zero h j k = nothing-there (r + (2 * m + 1) + i) (r + (3 * m + 1) + i) (c + 2 + i) (c + (m + 2) + i) reals counts
  sound-bins r c i (suc n) h j k =
      ap₂ ◌&&◌ (sound-bin (get_or reals (r + (2 * m + 1) + i) nan) (get_or reals (r + (3 * m + 1) + i) nan) (get_or reals (r + (4 * m + 1) + i) nan) (get_or reals (r + (5 * m + 1) + i) nan) (get_or counts (c + 2 + i) 0) (get_or counts (c + (m + 2) + i) 0))
      (sound-bins r c (i + 1) n (omega arith) j k)
      ∙ four-and-four (finite_of (get_or reals (r + (2 * m + 1) + i) nan)) (finite_of (get_or reals (r + (3 * m + 1) + i) nan)) (leb (get_or counts (c + 2 + i) 0) (2 ^ 53)) (leb (get_or counts (c + (m + 2) + i) 0) (2 ^ 53)) _ _ _ _
      ∙ sym (ap₂ ◌&&◌ (ap₂ ◌&&◌ (finite-one (r + (2 * m + 1) + i) (r + (2 * m + 1) + (i + 1)) n reals (omega arith) (omega arith)) (finite-one (r + (3 * m + 1) + i) (r + (3 * m + 1) + (i + 1)) n reals (omega arith) (omega arith)))
      (ap₂ ◌&&◌ (bounded-one (c + 2 + i) (c + 2 + (i + 1)) n counts (omega arith) (omega arith)) (bounded-one (c + (m + 2) + i) (c + (m + 2) + (i + 1)) n counts (omega arith) (omega arith))))

  sizes : (r c n : ℕ) → n ≤ m → r + (6 * m + 1) ≤ length reals → c + (3 * m + 2) ≤ length counts
      → (length (stretch r (n + 1) reals) ≡ n + 1) × (length (stretch (r + (m + 1)) n reals) ≡ n) × (length (stretch (c + (2 * m + 2)) n counts) ≡ n)
  unfolding stretch
  sizes r c n h j k = (
    length-take-le (n + 1) (drop r reals) (omega (arith, length-drop r reals)),
    length-take-le n (drop (r + (m + 1)) reals) (omega (arith, length-drop (r + (m + 1)) reals)),
    length-take-le n (drop (c + (2 * m + 2)) counts) (omega (arith, length-drop (c + (2 * m + 2)) counts)),
  )

  fit-listed : (plan : AxesPlan) (r c : ℕ) → get_or counts c 0 ≤ m → r + (6 * m + 1) ≤ length reals → c + (3 * m + 2) ≤ length counts
      → listed (get_or counts c 0) (plan.bins ∷ plan.evolution) ≡ true
      → axis_fits (plan.bins ∷ plan.evolution) m reals counts r c ≡ (formed_axis plan (axis_at m reals counts r c) && kept_axis (axis_at m reals counts r c))
  unfolding axis_fits formed_axis kept_axis axis_at reals_fit counts_fit record_of.bounded
  fit-listed plan r c h j k e =
      let n = get_or counts c 0 in
      let size = sizes r c n h j k in
      let bins = sound-bins r c 0 n (omega arith) j k in
      let z₁ : r + (2 * m + 1) + 0 ≡ r + (2 * m + 1) = omega arith in
      let z₂ : r + (3 * m + 1) + 0 ≡ r + (3 * m + 1) = omega arith in
      let z₃ : c + 2 + 0 ≡ c + 2 = omega arith in
      let z₄ : c + (m + 2) + 0 ≡ c + (m + 2) = omega arith in
      let held : length (bins_from m reals counts r c 0 n) ≡ n = length-bins m reals counts r c 0 n in
      rw (held, bins, z₁, z₂, z₃, z₄, e, size.0, size.1, size.2, eq-eqb (n + 1) (n + 1) refl, eq-eqb n n refl)
      (spread (well_formed (stretch r (n + 1) reals)) (all_finite (stretch (r + (m + 1)) n reals)) (all_finite (stretch (r + (2 * m + 1)) n reals)) (all_finite (stretch (r + (3 * m + 1)) n reals))
      (all_bounded (stretch (c + 2) n counts)) (all_bounded (stretch (c + (m + 2)) n counts)) (all_bounded (stretch (c + (2 * m + 2)) n counts)) (leb (get_or counts (c + 1) 0) (2 ^ 53)))

  fit-unlisted : (plan : AxesPlan) (r c : ℕ) → listed (get_or counts c 0) (plan.bins ∷ plan.evolution) ≡ false
      → axis_fits (plan.bins ∷ plan.evolution) m reals counts r c ≡ (formed_axis plan (axis_at m reals counts r c) && kept_axis (axis_at m reals counts r c))
  unfolding axis_fits formed_axis axis_at
  fit-unlisted plan r c e = rw (length-bins m reals counts r c 0 (get_or counts c 0), e)

  -- one axis: formed and kept
  fit-axis : (plan : AxesPlan) (r c : ℕ) → AllUpto m (plan.bins ∷ plan.evolution) → r + (6 * m + 1) ≤ length reals → c + (3 * m + 2) ≤ length counts
      → axis_fits (plan.bins ∷ plan.evolution) m reals counts r c ≡ (formed_axis plan (axis_at m reals counts r c) && kept_axis (axis_at m reals counts r c))
  fit-axis plan r c a j k = told (listed (get_or counts c 0) (plan.bins ∷ plan.evolution)) refl
    where
      told : (b : Bool) → listed (get_or counts c 0) (plan.bins ∷ plan.evolution) ≡ b
          → axis_fits (plan.bins ∷ plan.evolution) m reals counts r c ≡ (formed_axis plan (axis_at m reals counts r c) && kept_axis (axis_at m reals counts r c))
      told true e = fit-listed plan r c (listed-upto m (get_or counts c 0) (plan.bins ∷ plan.evolution) a e).1 j k e
      told false e = fit-unlisted plan r c e

  -- all axes
  pub fit-axes : (plan : AxesPlan) (k r c : ℕ) → AllUpto m (plan.bins ∷ plan.evolution) → r + k * (6 * m + 1) ≤ length reals → c + k * (3 * m + 2) ≤ length counts
      → axes_fit (plan.bins ∷ plan.evolution) m reals counts k r c ≡ (formed_axis_list plan (axes_from m reals counts k r c) && kept_axis_list (axes_from m reals counts k r c))
  unfolding axes_fit axes_from formed_axis_list kept_axis_list axis_reals axis_counts
  fit-axes plan zero r c a j i = refl
  fit-axes plan (suc k) r c a j i =
      let e : suc k * (6 * m + 1) ≡ k * (6 * m + 1) + (6 * m + 1) = suc-mul k (6 * m + 1) in
      let f : suc k * (3 * m + 2) ≡ k * (3 * m + 2) + (3 * m + 2) = suc-mul k (3 * m + 2) in
      let others = axes_from m reals counts k (r + (6 * m + 1)) (c + (3 * m + 2)) in
      let first = axis_at m reals counts r c in
      ap₂ ◌&&◌ (fit-axis plan r c a (omega arith) (omega arith)) (fit-axes plan k (r + (6 * m + 1)) (c + (3 * m + 2)) a (omega arith) (omega arith))
      ∙ two-and-two (formed_axis plan first) (kept_axis first) (formed_axis_list plan others) (kept_axis_list others)

  fit-held : (ns : List ℕ) (r c : ℕ) → AllUpto m ns → axis_fits ns m reals counts r c ≡ true → (get_or counts c 0 ≤ m) × (well_formed (stretch r (get_or counts c 0 + 1) reals) ≡ true)
  unfolding axis_fits reals_fit
  fit-held ns r c a e = told (listed (get_or counts c 0) ns) refl e
    where
      told : (b : Bool) → listed (get_or counts c 0) ns ≡ b → cond b (reals_fit m (get_or counts c 0) r reals && counts_fit m (get_or counts c 0) c counts) false ≡ true
          → (get_or counts c 0 ≤ m) × (well_formed (stretch r (get_or counts c 0 + 1) reals) ≡ true)
      told true q f = ((listed-upto m (get_or counts c 0) ns a q).1, (both _ _ (both _ _ (both _ _ f).0).0).0)
      told false q f = absurd (false≢true f)

  -- axes that fit stand there
  pub fit-stands : (ns : List ℕ) (k r c : ℕ) → AllUpto m ns → r + k * (6 * m + 1) ≤ length reals → c + k * (3 * m + 2) ≤ length counts → axes_fit ns m reals counts k r c ≡ true
      → Standing m reals counts k r c
  unfolding axes_fit Standing axis_reals axis_counts
  fit-stands ns zero r c a j i e = (omega arith, omega arith)
  fit-stands ns (suc k) r c a j i e =
      let u : suc k * (6 * m + 1) ≡ k * (6 * m + 1) + (6 * m + 1) = suc-mul k (6 * m + 1) in
      let v : suc k * (3 * m + 2) ≡ k * (3 * m + 2) + (3 * m + 2) = suc-mul k (3 * m + 2) in
      let q = both (axis_fits ns m reals counts r c) (axes_fit ns m reals counts k (r + (6 * m + 1)) (c + (3 * m + 2))) e in
      let h = fit-held ns r c a q.0 in
      (h.0, h.1, fit-stands ns k (r + (6 * m + 1)) (c + (3 * m + 2)) a (omega arith) (omega arith) q.1)
