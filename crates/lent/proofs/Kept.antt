-- Which bins may be kept, by their columns: of a bin's record only sums, squares, waiting samples and waiting zeros can fail, before a merge
-- and after it.
use mathlib.Core.Path.{◌≡◌, refl, sym, ap, ap₂, ◌∙◌}
use mathlib.Core.Bool.{Bool, true, false, cond, ◌&&◌, and-true}
use mathlib.Core.List.{List, ◌∷◌}
use Prim.Native.Nat.{ℕ, zero, suc, ◌+◌, ◌*◌, ◌^◌, ◌≤◌, ◌<◌}
use native.Mathlib.Omega.{arith}
use lib.Dec.{leb}
use lib.ListN.{length, get_or}
use lib.Ieee.{Float, nan, binary64, add, lt}
use Rattle.doubles.specs.Finite.{finite_of}
use Rattle.doubles.specs.Total.{all_finite}
use Rattle.doubles.proofs.Truth.{both}
use Rattle.accumulator.specs.Record.{fresh, with_waiting, with_extremes, bounded, well_formed}
use Rattle.accumulator.specs.Steps.{merged_of}
use Rattle.axis.specs.Scans.{all_bounded}
use Rattle.model.specs.Sound.{all_sound, kept_axis}
use Rattle.model.specs.Merge.{merge_bin_records, merge_axis}
use Rattle.lent.specs.Layout.{stretch, bin_record, bin_at, bins_from, axis_at}
use Rattle.lent.specs.Merged.{higher_of, lower_of}
use Rattle.lent.proofs.Judges.{four-and-four, sound-bin, stretch-one, sound-bins}
use Rattle.lent.proofs.Scans.{finite_with, all_finite_with, finite-none, finite-more, all_bounded_with, bounded-none, bounded-more, joined-sum}

-- ---- one record

either_way : (b : Bool) → ◌≡◌ {A = ℕ} (cond b 0 0) 0
either_way true = refl
either_way false = refl

-- a merge of two records: extremes without a sample stay without one
pub merged-record : (s q h l s' q' h' l' : Float) (n z n' z' : ℕ)
    → merged_of (bin_record s q h l n z) (bin_record s' q' h' l' n' z')
    ≡ bin_record (add binary64 s s') (add binary64 q q') (higher_of h h') (lower_of l l') (n + n') (z + z')
unfolding merged_of bin_record with_extremes with_waiting fresh higher_of lower_of
merged-record s q h l s' q' h' l' n z n' z' = rw (either_way (lt h h'), either_way (lt l' l))

-- ---- columns of records

stretch-next : {A : Type 0} (d : A) (x i n : ℕ) (xs : List A) → x + i < length xs → stretch (x + i) (suc n) xs ≡ get_or xs (x + i) d ∷ stretch (x + (i + 1)) n xs
stretch-next d x i n xs h =
    let e : x + i + 1 ≡ x + (i + 1) = omega arith in
    stretch-one d (x + i) n xs h ∙ ap (λ (j : ℕ). get_or xs (x + i) d ∷ stretch j n xs) e

module _ (m : ℕ) (reals : List Float) (counts : List ℕ) (r c : ℕ) (room : r + (6 * m + 1) ≤ length reals) (places : c + (3 * m + 2) ≤ length counts) where
  -- the counts of the first of n + 1 bins that are sound
  first-bounded : (i n : ℕ) → all_sound (bins_from m reals counts r c i (suc n)) ≡ true
      → (leb (get_or counts (c + 2 + i) 0) (2 ^ 53) ≡ true) × (leb (get_or counts (c + (m + 2) + i) 0) (2 ^ 53) ≡ true)
      × (all_sound (bins_from m reals counts r c (i + 1) n) ≡ true)
  unfolding all_sound bins_from bin_at
  first-bounded i n e =
      let x : Float = get_or reals (r + (2 * m + 1) + i) nan in
      let y : Float = get_or reals (r + (3 * m + 1) + i) nan in
      let a : ℕ = get_or counts (c + 2 + i) 0 in
      let b : ℕ = get_or counts (c + (m + 2) + i) 0 in
      let h : Float = get_or reals (r + (4 * m + 1) + i) nan in
      let l : Float = get_or reals (r + (5 * m + 1) + i) nan in
      let t = both (well_formed (bin_record x y h l a b)) (all_sound (bins_from m reals counts r c (i + 1) n)) e in
      let u = both (finite_of x && finite_of y) (leb a (2 ^ 53) && leb b (2 ^ 53)) (sym (sound-bin x y h l a b) ∙ t.0) in
      let w = both (leb a (2 ^ 53)) (leb b (2 ^ 53)) u.1 in
      (w.0, w.1, t.1)

  -- the counts of an axis that is kept
  pub kept-bounded : (n : ℕ) → n ≤ m → n ≡ get_or counts c 0 → kept_axis (axis_at m reals counts r c) ≡ true
      → (all_bounded (stretch (c + 2) n counts) ≡ true) × (all_bounded (stretch (c + (m + 2)) n counts) ≡ true)
  unfolding kept_axis axis_at
  kept-bounded n h e k =
      let start : (x : ℕ) → x + 0 ≡ x = λ x. omega arith in
      let t = both (all_sound (bins_from m reals counts r c 0 (get_or counts c 0))) _ k in
      let sound : all_sound (bins_from m reals counts r c 0 n) ≡ true = ap (λ (j : ℕ). all_sound (bins_from m reals counts r c 0 j)) e ∙ t.0 in
      let waiting : Bool = all_bounded (stretch (c + 2 + 0) n counts) && all_bounded (stretch (c + (m + 2) + 0) n counts) in
      let sums : Bool = all_finite (stretch (r + (2 * m + 1) + 0) n reals) in
      let squares : Bool = all_finite (stretch (r + (3 * m + 1) + 0) n reals) in
      let u = both (sums && squares) waiting (sym (sound-bins m reals counts r c 0 n (omega arith) room places) ∙ sound) in
      let w = both (all_bounded (stretch (c + 2 + 0) n counts)) (all_bounded (stretch (c + (m + 2) + 0) n counts)) u.1 in
      (rw (start (c + 2)) at w.0, rw (start (c + (m + 2))) at w.1)

module _ (m : ℕ) (reals : List Float) (counts : List ℕ) (r c : ℕ) (room : r + (6 * m + 1) ≤ length reals) (places : c + (3 * m + 2) ≤ length counts)
    (k : ℕ) (theirs : List Float) (tallies : List ℕ) (q d : ℕ) (room' : q + (6 * k + 1) ≤ length theirs) (places' : d + (3 * k + 2) ≤ length tallies) where
  -- two axes' bins merged: n of them, from bin i on
  merged-columns : (i n : ℕ) → i + n ≤ m → i + n ≤ k → all_sound (bins_from m reals counts r c i n) ≡ true → all_sound (bins_from k theirs tallies q d i n) ≡ true
      → all_sound (merge_bin_records (bins_from m reals counts r c i n) (bins_from k theirs tallies q d i n))
      ≡ ((all_finite_with (stretch (r + (2 * m + 1) + i) n reals) (stretch (q + (2 * k + 1) + i) n theirs)
      && all_finite_with (stretch (r + (3 * m + 1) + i) n reals) (stretch (q + (3 * k + 1) + i) n theirs))
      && (all_bounded_with (stretch (c + 2 + i) n counts) (stretch (d + 2 + i) n tallies)
      && all_bounded_with (stretch (c + (m + 2) + i) n counts) (stretch (d + (k + 2) + i) n tallies)))
  unfolding all_sound bins_from bin_at merge_bin_records stretch
  merged-columns i zero h j e f = rw (finite-none, bounded-none)
  merged-columns i (suc n) h j e f =
      let mine = first-bounded m reals counts r c room places i n e in
      let other = first-bounded k theirs tallies q d room' places' i n f in
      rw (
        stretch-next nan (r + (2 * m + 1)) i n reals (omega arith),
        stretch-next nan (r + (3 * m + 1)) i n reals (omega arith),
        stretch-next 0 (c + 2) i n counts (omega arith),
        stretch-next 0 (c + (m + 2)) i n counts (omega arith),
        stretch-next nan (q + (2 * k + 1)) i n theirs (omega arith),
        stretch-next nan (q + (3 * k + 1)) i n theirs (omega arith),
        stretch-next 0 (d + 2) i n tallies (omega arith),
        stretch-next 0 (d + (k + 2)) i n tallies (omega arith),
        finite-more,
        finite-more,
        bounded-more,
        bounded-more,
        joined-sum (get_or counts (c + 2 + i) 0) (get_or tallies (d + 2 + i) 0) mine.0 other.0,
        joined-sum (get_or counts (c + (m + 2) + i) 0) (get_or tallies (d + (k + 2) + i) 0) mine.1 other.1,
        merged-record,
        sound-bin,
        merged-columns (i + 1) n (omega arith) (omega arith) mine.2 other.2,
      ) (four-and-four
      (finite_with (get_or reals (r + (2 * m + 1) + i) nan) (get_or theirs (q + (2 * k + 1) + i) nan))
      (finite_with (get_or reals (r + (3 * m + 1) + i) nan) (get_or theirs (q + (3 * k + 1) + i) nan))
      (leb (get_or counts (c + 2 + i) 0 + get_or tallies (d + 2 + i) 0) (2 ^ 53))
      (leb (get_or counts (c + (m + 2) + i) 0 + get_or tallies (d + (k + 2) + i) 0) (2 ^ 53))
      (all_finite_with (stretch (r + (2 * m + 1) + (i + 1)) n reals) (stretch (q + (2 * k + 1) + (i + 1)) n theirs))
      (all_finite_with (stretch (r + (3 * m + 1) + (i + 1)) n reals) (stretch (q + (3 * k + 1) + (i + 1)) n theirs))
      (all_bounded_with (stretch (c + 2 + (i + 1)) n counts) (stretch (d + 2 + (i + 1)) n tallies))
      (all_bounded_with (stretch (c + (m + 2) + (i + 1)) n counts) (stretch (d + (k + 2) + (i + 1)) n tallies)))

  -- the axes themselves, from their first bins on
  module _ (few : get_or counts c 0 ≤ m) (few' : get_or counts c 0 ≤ k) (same : get_or counts c 0 ≡ get_or tallies d 0)
      (kept : kept_axis (axis_at m reals counts r c) ≡ true) (kept' : kept_axis (axis_at k theirs tallies q d) ≡ true) where
    pub fits-columns : kept_axis (merge_axis (axis_at m reals counts r c) (axis_at k theirs tallies q d))
        ≡ ((all_finite_with (stretch (r + (2 * m + 1)) (get_or counts c 0) reals) (stretch (q + (2 * k + 1)) (get_or counts c 0) theirs)
        && all_finite_with (stretch (r + (3 * m + 1)) (get_or counts c 0) reals) (stretch (q + (3 * k + 1)) (get_or counts c 0) theirs))
        && (all_bounded_with (stretch (c + 2) (get_or counts c 0) counts) (stretch (d + 2) (get_or counts c 0) tallies)
        && all_bounded_with (stretch (c + (m + 2)) (get_or counts c 0) counts) (stretch (d + (k + 2)) (get_or counts c 0) tallies)))
    unfolding kept_axis merge_axis axis_at
    fits-columns =
        let n : ℕ = get_or counts c 0 in
        let stay : Bool = all_finite (stretch (r + (m + 1)) n reals) && (all_bounded (stretch (c + (2 * m + 2)) n counts) && bounded (get_or counts (c + 1) 0)) in
        let mine = both (all_sound (bins_from m reals counts r c 0 n)) stay kept in
        let other = both (all_sound (bins_from k theirs tallies q d 0 (get_or tallies d 0))) _ kept' in
        let sound : all_sound (bins_from k theirs tallies q d 0 n) ≡ true = ap (λ (j : ℕ). all_sound (bins_from k theirs tallies q d 0 j)) same ∙ other.0 in
        let start : (x : ℕ) → x + 0 ≡ x = λ x. omega arith in
        ap₂ (λ (j : ℕ) (b : Bool). all_sound (merge_bin_records (bins_from m reals counts r c 0 n) (bins_from k theirs tallies q d 0 j)) && b) (sym same) mine.1
        ∙ and-true (all_sound (merge_bin_records (bins_from m reals counts r c 0 n) (bins_from k theirs tallies q d 0 n)))
        ∙ rw (
          start (r + (2 * m + 1)),
          start (r + (3 * m + 1)),
          start (q + (2 * k + 1)),
          start (q + (3 * k + 1)),
          start (c + 2),
          start (c + (m + 2)),
          start (d + 2),
          start (d + (k + 2)),
        ) at (merged-columns 0 n (omega arith) (omega arith) mine.0 sound)
