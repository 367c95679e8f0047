-- What laying a grid's own leaves: which cells it touches, and what is read of them then.
use mathlib.Core.Path.{◌≡◌, refl, sym, ap, ◌∙◌}
use mathlib.Core.List.{List}
use Prim.Native.Nat.{ℕ, zero, suc, ◌+◌, ◌*◌, ◌≤◌, ◌<◌}
use native.Mathlib.Omega.{arith}
use lib.ListN.{length, get_or, set, drop, replicate, length-replicate, length-set}
use lib.Seq.{get_or-set_same}
use lib.Ieee.{Float, nan}
use Rattle.doubles.specs.Count.{count_of}
use Rattle.doubles.specs.Inverse.{inv_of}
use Rattle.accumulator.specs.declared.StatisticsAccumulator.{StatisticsAccumulator}
use Rattle.accumulator.specs.Record.{fresh}
use Rattle.model.specs.Axes.{Axis, empty_axis, fresh_axis, fresh_axes}
use Rattle.model.specs.Grid.{Grid, fresh_bin, fresh_bins}
use Rattle.lent.specs.Layout.{axis_reals, axis_counts, axis_at, axes_from}
use Rattle.lent.specs.Memory.{Memory, memory, reals_of, counts_of, record_at, stored}
use Rattle.lent.specs.Tree.{axes_plan_at, axes_place, axes_grid_at, bin_in, bins_in, AxesLaid}
use Rattle.lent.specs.Founded.{laid_axes, laid_bin, laid_bins, laid_own, fresh_children}
use Rattle.lent.proofs.Same.{Same, same_refl, same-on, same-within, same-set-below, same-set-above, same-sets-below, same-sets-above}
use Rattle.lent.proofs.Reading.{record_same, record-stored, Holding, length-bins, axes-same}
use Rattle.lent.proofs.Empties.{laid-axes, lays-below, lays-above}

-- t is s but for the reals from r up to below e and the counts from c up to below d
pub record Within (r e c d : ℕ) (s t : Memory) : Type 0 where
  pub low : (lo hi : ℕ) → hi ≤ r → Same nan lo hi t.reals s.reals
  pub high : (lo hi : ℕ) → e ≤ lo → Same nan lo hi t.reals s.reals
  pub few : (lo hi : ℕ) → hi ≤ c → Same 0 lo hi t.counts s.counts
  pub many : (lo hi : ℕ) → d ≤ lo → Same 0 lo hi t.counts s.counts

pub within_same : (r e c d : ℕ) (s : Memory) → Within r e c d s s
within_same r e c d s =
    record {
      low = λ lo hi h. same_refl nan lo hi s.reals;
      high = λ lo hi h. same_refl nan lo hi s.reals;
      few = λ lo hi h. same_refl 0 lo hi s.counts;
      many = λ lo hi h. same_refl 0 lo hi s.counts;
    }

-- one after the other, each within a part
pub within_on : (r e c d r₁ e₁ c₁ d₁ r₂ e₂ c₂ d₂ : ℕ) (s t u : Memory) → r ≤ r₁ → e₁ ≤ e → c ≤ c₁ → d₁ ≤ d → r ≤ r₂ → e₂ ≤ e → c ≤ c₂ → d₂ ≤ d
    → Within r₁ e₁ c₁ d₁ s t → Within r₂ e₂ c₂ d₂ t u → Within r e c d s u
within_on r e c d r₁ e₁ c₁ d₁ r₂ e₂ c₂ d₂ s t u a₁ b₁ p₁ q₁ a₂ b₂ p₂ q₂ x y =
    record {
      low = λ lo hi h. same-on nan lo hi u.reals t.reals s.reals (y.low lo hi (omega arith)) (x.low lo hi (omega arith));
      high = λ lo hi h. same-on nan lo hi u.reals t.reals s.reals (y.high lo hi (omega arith)) (x.high lo hi (omega arith));
      few = λ lo hi h. same-on 0 lo hi u.counts t.counts s.counts (y.few lo hi (omega arith)) (x.few lo hi (omega arith));
      many = λ lo hi h. same-on 0 lo hi u.counts t.counts s.counts (y.many lo hi (omega arith)) (x.many lo hi (omega arith));
    }

pub stored-within : (r c : ℕ) (a : StatisticsAccumulator) (s : Memory) → Within r (r + 14) c (c + 7) s (stored r c a s)
unfolding stored reals_of counts_of
stored-within r c a s =
    record {
      low = λ lo hi h. same-sets-above nan lo hi r (reals_of a) s.reals h;
      high = λ lo hi h. same-sets-below nan lo hi r (reals_of a) s.reals h;
      few = λ lo hi h. same-sets-above 0 lo hi c (counts_of a) s.counts h;
      many = λ lo hi h. same-sets-below 0 lo hi c (counts_of a) s.counts h;
    }

-- ---- an axes grid

holding-fresh : (m n : ℕ) → n ≤ m → (reals : List Float) (counts : List ℕ) (k r c : ℕ) → axes_from m reals counts k r c ≡ replicate k (fresh_axis n) → Holding m counts k c
unfolding Holding axes_from axis_at fresh_axis empty_axis
holding-fresh m n N reals counts zero r c e = tt
holding-fresh m n N reals counts (suc k) r c e =
    let first : axis_at m reals counts r c ≡ fresh_axis n = ap (λ (xs : List Axis). get_or xs 0 (fresh_axis n)) e in
    let held : get_or counts c 0 ≡ n =
    sym (length-bins m reals counts r c 0 (get_or counts c 0)) ∙ ap (λ (a : Axis). length a.bins) first ∙ length-replicate n fresh in
    (omega arith, holding-fresh m n N reals counts k (r + axis_reals m) (c + axis_counts m) (ap (λ (xs : List Axis). drop 1 xs) e))

module _ (table : List ℕ) (w : ℕ) (s : Memory) (a : AxesLaid table (length s.reals) (length s.counts) w) where
  abbrev AR : ℕ
  AR = get_or table (w + 9) 0

  abbrev Ac : ℕ
  Ac = get_or table (w + 10) 0

  abbrev AK : ℕ
  AK = get_or table (w + 2) 0

  abbrev AM : ℕ
  AM = get_or table (w + 7) 0

  abbrev AN : ℕ
  AN = get_or table (w + 3) 0

  abbrev own : Memory
  own = stored AR Ac fresh s

  room : AR + 14 + AK * (6 * AM + 1) ≤ length own.reals
  room = omega (arith, a.room, ((stored-within AR Ac fresh s).low 0 0 (omega arith)).size)

  places : Ac + 7 + AK * (3 * AM + 2) ≤ length own.counts
  places = omega (arith, a.places, ((stored-within AR Ac fresh s).few 0 0 (omega arith)).size)

  axes-touch : Within (AR + 14) (AR + 14 + AK * (6 * AM + 1)) (Ac + 7) (Ac + 7 + AK * (3 * AM + 2)) own (laid_axes table w s)
  unfolding laid_axes axes_place
  axes-touch =
      record {
        low = λ lo hi h. (lays-below AM AN a.fits AK (AR + 14) (Ac + 7) own room places lo hi 0 0 h (omega arith)).0;
        high = λ lo hi h. (lays-above AM AN a.fits AK (AR + 14) (Ac + 7) own room places lo hi (Ac + 7 + AK * (3 * AM + 2)) 0 h (omega arith)).0;
        few = λ lo hi h. (lays-below AM AN a.fits AK (AR + 14) (Ac + 7) own room places 0 0 lo hi (omega arith) h).1;
        many = λ lo hi h. (lays-above AM AN a.fits AK (AR + 14) (Ac + 7) own room places (AR + 14 + AK * (6 * AM + 1)) 0 lo hi (omega arith) h).1;
      }

  pub axes-within : Within AR (AR + 14 + AK * (6 * AM + 1)) Ac (Ac + 7 + AK * (3 * AM + 2)) s (laid_axes table w s)
  axes-within =
      within_on AR (AR + 14 + AK * (6 * AM + 1)) Ac (Ac + 7 + AK * (3 * AM + 2)) AR (AR + 14) Ac (Ac + 7) (AR + 14) (AR + 14 + AK * (6 * AM + 1)) (Ac + 7) (Ac + 7 + AK * (3 * AM + 2)) s own
      (laid_axes table w s) (omega arith) (omega arith) (omega arith) (omega arith) (omega arith) (omega arith) (omega arith) (omega arith) (stored-within AR Ac fresh s) axes-touch

  module _ (reals' : List Float) (counts' : List ℕ) (u : Same nan AR (AR + 14 + AK * (6 * AM + 1)) (laid_axes table w s).reals reals')
      (v : Same 0 Ac (Ac + 7 + AK * (3 * AM + 2)) (laid_axes table w s).counts counts') where
    own_read : record_at reals' counts' AR Ac ≡ fresh
    unfolding stored
    own_read =
        let e = laid_axes table w s in
        sym (record_same AR Ac e.reals reals' e.counts counts' (same-within nan AR (AR + 14 + AK * (6 * AM + 1)) AR (AR + 14) e.reals reals' (omega arith) (omega arith) u)
        (same-within 0 Ac (Ac + 7 + AK * (3 * AM + 2)) Ac (Ac + 7) e.counts counts' (omega arith) (omega arith) v))
        ∙ record_same AR Ac e.reals own.reals e.counts own.counts (axes-touch.low AR (AR + 14) (omega arith)) (axes-touch.few Ac (Ac + 7) (omega arith))
        ∙ record-stored AR Ac s.reals s.counts fresh (omega (arith, a.room)) (omega (arith, a.places))

    axes-read : axes_from AM reals' counts' AK (AR + 14) (Ac + 7) ≡ replicate AK (fresh_axis AN)
    unfolding laid_axes axes_place axis_reals axis_counts
    axes-read =
        let e = laid_axes table w s in
        let there = laid-axes AM AN a.fits AK (AR + 14) (Ac + 7) own room places in
        let held = holding-fresh AM AN a.fits e.reals e.counts AK (AR + 14) (Ac + 7) there in
        sym (axes-same AM e.reals reals' e.counts counts' AK (AR + 14) (Ac + 7) held
        (same-within nan AR (AR + 14 + AK * (6 * AM + 1)) (AR + 14) (AR + 14 + AK * (6 * AM + 1)) e.reals reals' (omega arith) (omega arith) u)
        (same-within 0 Ac (Ac + 7 + AK * (3 * AM + 2)) (Ac + 7) (Ac + 7 + AK * (3 * AM + 2)) e.counts counts' (omega arith) (omega arith) v)) ∙ there

    pub axes-grid-read : axes_grid_at table reals' counts' w ≡ fresh_axes (get_or table (w + 2) 0) (axes_plan_at table w)
    unfolding axes_grid_at fresh_axes axes_place axes_plan_at
    axes-grid-read = rw (own_read, axes-read)

-- ---- a bins grid's own

module _ (table : List ℕ) (w : ℕ) where
  abbrev BR : ℕ
  BR = get_or table (w + 5) 0

  abbrev BC : ℕ
  BC = get_or table (w + 6) 0

  abbrev BN : ℕ
  BN = get_or table (w + 2) 0

  abbrev spot : ℕ → ℕ
  spot i = BR + 14 + BN + 14 * i

  -- a bin's probability and its accumulator: below, between and above
  module _ (i : ℕ) (s : Memory) where
    abbrev even : List Float
    even = set s.reals (BR + 14 + i) (inv_of (count_of BN))

    abbrev put-down : Within (spot i) (spot i + 14) (BC + 7 + 7 * i) (BC + 7 + 7 * i + 7) (memory even s.counts) (stored (spot i) (BC + 7 + 7 * i) fresh (memory even s.counts))
    put-down = stored-within (spot i) (BC + 7 + 7 * i) fresh (memory even s.counts)

    bin-low : (lo hi : ℕ) → i < BN → hi ≤ BR + 14 + i → Same nan lo hi (laid_bin table w i s).reals s.reals
    unfolding laid_bin
    bin-low lo hi j h = same-on nan lo hi _ even s.reals (put-down.low lo hi (omega arith)) (same-set-above nan lo hi (BR + 14 + i) (inv_of (count_of BN)) s.reals h)

    bin-between : (lo hi : ℕ) → BR + 14 + i < lo → hi ≤ spot i → Same nan lo hi (laid_bin table w i s).reals s.reals
    unfolding laid_bin
    bin-between lo hi j h = same-on nan lo hi _ even s.reals (put-down.low lo hi h) (same-set-below nan lo hi (BR + 14 + i) (inv_of (count_of BN)) s.reals j)

    bin_high : (lo hi : ℕ) → i < BN → spot i + 14 ≤ lo → Same nan lo hi (laid_bin table w i s).reals s.reals
    unfolding laid_bin
    bin_high lo hi j h = same-on nan lo hi _ even s.reals (put-down.high lo hi h) (same-set-below nan lo hi (BR + 14 + i) (inv_of (count_of BN)) s.reals (omega arith))

    bin-few : (lo hi : ℕ) → hi ≤ BC + 7 + 7 * i → Same 0 lo hi (laid_bin table w i s).counts s.counts
    unfolding laid_bin
    bin-few lo hi h = put-down.few lo hi h

    bin-many : (lo hi : ℕ) → BC + 7 + 7 * i + 7 ≤ lo → Same 0 lo hi (laid_bin table w i s).counts s.counts
    unfolding laid_bin
    bin-many lo hi h = put-down.many lo hi h

    bin-even : BR + 14 + i < spot i → BR + 14 + i < length s.reals → get_or (laid_bin table w i s).reals (BR + 14 + i) nan ≡ inv_of (count_of BN)
    unfolding laid_bin
    bin-even j h = (put-down.low (BR + 14 + i) (BR + 14 + i + 1) (omega arith)).cells (BR + 14 + i) (omega arith) (omega arith) ∙ get_or-set_same s.reals (BR + 14 + i) (inv_of (count_of BN)) nan h

    bin-fresh : spot i + 14 ≤ length s.reals → BC + 7 + 7 * i + 7 ≤ length s.counts → record_at (laid_bin table w i s).reals (laid_bin table w i s).counts (spot i) (BC + 7 + 7 * i) ≡ fresh
    unfolding laid_bin stored
    bin-fresh h k = record-stored (spot i) (BC + 7 + 7 * i) even s.counts fresh (omega (arith, length-set s.reals (BR + 14 + i) (inv_of (count_of BN)))) k

  -- the last k bins, from bin i on
  bins-low : (k i : ℕ) (s : Memory) → i + k ≡ BN → (lo hi : ℕ) → hi ≤ BR + 14 + i → Same nan lo hi (laid_bins table w i k s).reals s.reals
  unfolding laid_bins
  bins-low zero i s e lo hi h = same_refl nan lo hi s.reals
  bins-low (suc k) i s e lo hi h =
      same-on nan lo hi _ (laid_bin table w i s).reals s.reals (bins-low k (i + 1) (laid_bin table w i s) (omega arith) lo hi (omega arith)) (bin-low i s lo hi (omega arith) h)

  bins-between : (k i : ℕ) (s : Memory) → i + k ≡ BN → (lo hi : ℕ) → BR + 14 + BN ≤ lo → hi ≤ spot i → Same nan lo hi (laid_bins table w i k s).reals s.reals
  unfolding laid_bins
  bins-between zero i s e lo hi j h = same_refl nan lo hi s.reals
  bins-between (suc k) i s e lo hi j h =
      same-on nan lo hi _ (laid_bin table w i s).reals s.reals (bins-between k (i + 1) (laid_bin table w i s) (omega arith) lo hi j (omega arith)) (bin-between i s lo hi (omega arith) h)

  bins-high : (k i : ℕ) (s : Memory) → i + k ≡ BN → (lo hi : ℕ) → BR + 14 + 15 * BN ≤ lo → Same nan lo hi (laid_bins table w i k s).reals s.reals
  unfolding laid_bins
  bins-high zero i s e lo hi h = same_refl nan lo hi s.reals
  bins-high (suc k) i s e lo hi h =
      same-on nan lo hi _ (laid_bin table w i s).reals s.reals (bins-high k (i + 1) (laid_bin table w i s) (omega arith) lo hi h) (bin_high i s lo hi (omega arith) (omega arith))

  bins-few : (k i : ℕ) (s : Memory) → (lo hi : ℕ) → hi ≤ BC + 7 + 7 * i → Same 0 lo hi (laid_bins table w i k s).counts s.counts
  unfolding laid_bins
  bins-few zero i s lo hi h = same_refl 0 lo hi s.counts
  bins-few (suc k) i s lo hi h =
      same-on 0 lo hi _ (laid_bin table w i s).counts s.counts (bins-few k (i + 1) (laid_bin table w i s) lo hi (omega arith)) (bin-few i s lo hi h)

  bins-many : (k i : ℕ) (s : Memory) → i + k ≡ BN → (lo hi : ℕ) → BC + 7 + 7 * BN ≤ lo → Same 0 lo hi (laid_bins table w i k s).counts s.counts
  unfolding laid_bins
  bins-many zero i s e lo hi h = same_refl 0 lo hi s.counts
  bins-many (suc k) i s e lo hi h =
      same-on 0 lo hi _ (laid_bin table w i s).counts s.counts (bins-many k (i + 1) (laid_bin table w i s) (omega arith) lo hi h) (bin-many i s lo hi (omega arith))

  -- what is read of them, over whatever hangs there
  module _ (f : ℕ → Grid) (reals' : List Float) (counts' : List ℕ) where
    bins-read : (k i : ℕ) (s : Memory) → i + k ≡ BN → BR + 14 + 15 * BN ≤ length s.reals → BC + 7 + 7 * BN ≤ length s.counts
        → Same nan BR (BR + 14 + 15 * BN) (laid_bins table w i k s).reals reals' → Same 0 BC (BC + 7 + 7 * BN) (laid_bins table w i k s).counts counts'
        → bins_in f table reals' counts' w i k ≡ fresh_bins BN (fresh_children f table w i k)
    unfolding laid_bins bins_in fresh_bins fresh_children fresh_bin bin_in
    bins-read zero i s e h l u v = refl
    bins-read (suc k) i s e h l u v =
        let s₁ = laid_bin table w i s in
        let end = laid_bins table w (i + 1) k s₁ in
        let size : length s₁.reals ≡ length s.reals = (bin-low i s 0 0 (omega arith) (omega arith)).size in
        let sizes : length s₁.counts ≡ length s.counts = (bin-few i s 0 0 (omega arith)).size in
        let p : get_or reals' (BR + 14 + i) nan ≡ inv_of (count_of BN) =
        sym (u.cells (BR + 14 + i) (omega arith) (omega arith))
        ∙ (bins-low k (i + 1) s₁ (omega arith) (BR + 14 + i) (BR + 14 + i + 1) (omega arith)).cells (BR + 14 + i) (omega arith) (omega arith)
        ∙ bin-even i s (omega arith) (omega arith) in
        let a : record_at reals' counts' (spot i) (BC + 7 + 7 * i) ≡ fresh =
        sym (record_same (spot i) (BC + 7 + 7 * i) end.reals reals' end.counts counts'
        (same-within nan BR (BR + 14 + 15 * BN) (spot i) (spot i + 14) end.reals reals' (omega arith) (omega arith) u)
        (same-within 0 BC (BC + 7 + 7 * BN) (BC + 7 + 7 * i) (BC + 7 + 7 * i + 7) end.counts counts' (omega arith) (omega arith) v))
        ∙ record_same (spot i) (BC + 7 + 7 * i) end.reals s₁.reals end.counts s₁.counts
        (bins-between k (i + 1) s₁ (omega arith) (spot i) (spot i + 14) (omega arith) (omega arith)) (bins-few k (i + 1) s₁ (BC + 7 + 7 * i) (BC + 7 + 7 * i + 7) (omega arith))
        ∙ bin-fresh i s (omega arith) (omega arith) in
        let deeper = bins-read k (i + 1) s₁ (omega arith) (omega arith) (omega arith) u v in
        rw (p, a, deeper)

  -- all of its own
  module _ (s : Memory) (h : BR + 14 + 15 * BN ≤ length s.reals) (l : BC + 7 + 7 * BN ≤ length s.counts) where
    abbrev first : Memory
    first = stored BR BC fresh s

    abbrev touched : Within BR (BR + 14) BC (BC + 7) s first
    touched = stored-within BR BC fresh s

    pub own-within : Within BR (BR + 14 + 15 * BN) BC (BC + 7 + 7 * BN) s (laid_own table w s)
    unfolding laid_own
    own-within =
        record {
          low = λ lo hi j. same-on nan lo hi _ first.reals s.reals (bins-low BN 0 first (omega arith) lo hi (omega arith)) (touched.low lo hi j);
          high = λ lo hi j. same-on nan lo hi _ first.reals s.reals (bins-high BN 0 first (omega arith) lo hi j) (touched.high lo hi (omega arith));
          few = λ lo hi j. same-on 0 lo hi _ first.counts s.counts (bins-few BN 0 first lo hi (omega arith)) (touched.few lo hi j);
          many = λ lo hi j. same-on 0 lo hi _ first.counts s.counts (bins-many BN 0 first (omega arith) lo hi j) (touched.many lo hi (omega arith));
        }

    module _ (reals' : List Float) (counts' : List ℕ) (u : Same nan BR (BR + 14 + 15 * BN) (laid_own table w s).reals reals')
        (v : Same 0 BC (BC + 7 + 7 * BN) (laid_own table w s).counts counts') where
      pub own-bins-read : (f : ℕ → Grid) → bins_in f table reals' counts' w 0 BN ≡ fresh_bins BN (fresh_children f table w 0 BN)
      unfolding laid_own
      own-bins-read f =
          bins-read f reals' counts' BN 0 first (omega arith) (omega (arith, (touched.low 0 0 (omega arith)).size)) (omega (arith, (touched.few 0 0 (omega arith)).size)) u v

      pub own-record-read : record_at reals' counts' BR BC ≡ fresh
      unfolding laid_own stored
      own-record-read =
          let e = laid_own table w s in
          sym (record_same BR BC e.reals reals' e.counts counts' (same-within nan BR (BR + 14 + 15 * BN) BR (BR + 14) e.reals reals' (omega arith) (omega arith) u)
          (same-within 0 BC (BC + 7 + 7 * BN) BC (BC + 7) e.counts counts' (omega arith) (omega arith) v))
          ∙ record_same BR BC e.reals first.reals e.counts first.counts (bins-low BN 0 first (omega arith) BR (BR + 14) (omega arith)) (bins-few BN 0 first BC (BC + 7) (omega arith))
          ∙ record-stored BR BC s.reals s.counts fresh (omega arith) (omega arith)
