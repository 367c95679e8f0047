-- What taking a sample in leaves of a grid's own: which cells it touches, and what is read of them then.
use mathlib.Core.Path.{◌≡◌, refl, sym, ap, ◌∙◌, subst}
use mathlib.Core.Logic.{◌≢◌}
use mathlib.Core.Bool.{Bool, true, false}
use mathlib.Core.List.{List}
use Prim.Native.Nat.{ℕ, zero, suc, ◌+◌, ◌*◌, ◌≤◌, ◌<◌}
use native.Mathlib.Omega.{arith}
use borrow.Author.Tests.{ltb-true, ltb-false}
use lib.Dec.{ltb}
use lib.ListN.{length, get_or}
use lib.Ieee.{Float, nan, binary64, mul}
use Rattle.accumulator.specs.declared.StatisticsAccumulator.{StatisticsAccumulator}
use Rattle.accumulator.specs.Steps.{added_of}
use Rattle.model.specs.Grid.{Grid, axes, with_bin}
use Rattle.model.specs.Draw.{weight_at}
use Rattle.model.specs.Sound.{formed_grid, formed_axis_list}
use Rattle.model.specs.Train.{train_all, train_axes, train_grid, train_bin, train_child}
use Rattle.lent.specs.declared.Sample.{Sample}
use Rattle.lent.specs.declared.Gain.{Gain}
use Rattle.lent.specs.Layout.{axes_from}
use Rattle.lent.specs.Memory.{Memory, Asked, record_at}
use Rattle.lent.specs.Drawn.{axes_at}
use Rattle.lent.specs.Tree.{axes_plan_at, axes_place, axes_grid_at, bin_in, child_in, bins_in, AxesLaid}
use Rattle.lent.specs.Trained.{bins_on, trained_at, trained_over, Cell}
use Rattle.lent.specs.Absorbed.{path_left, weights_left, places_in, Takes, gain_at, gained, absorbed_axes}
use Rattle.lent.proofs.Same.{same-sym}
use Rattle.lent.proofs.Reading.{record_same, axes-same}
use Rattle.lent.proofs.Over.{over_below, over-above}
use Rattle.lent.proofs.Trains.{trained-frames, trained-local}
use Rattle.lent.proofs.Trained.{all-trained}
use Rattle.lent.proofs.Sounds.{numbers-upto}
use Rattle.lent.proofs.Alike.{holding-formed}
use Rattle.lent.proofs.FoundedOwn.{Within, within_on}
use Rattle.lent.proofs.Gains.{with_gain, gain-all, gained-within, gained-record}
use Rattle.lent.proofs.Accepts.{spots-asked, spots-many, spread, alone}
use Rattle.lent.proofs.Formed.{axes-formed, sound-formed}

-- ---- an axes grid

module _ (table : List ℕ) (m : Memory) (w : ℕ) (s : Sample) (d k : ℕ) (a : AxesLaid table (length m.reals) (length m.counts) w)
    (t : Takes (axes (axes_grid_at table m.reals m.counts w)) s d k) (e : Float) where
  abbrev AR : ℕ
  AR = get_or table (w + 9) 0

  abbrev Ac : ℕ
  Ac = get_or table (w + 10) 0

  abbrev AK : ℕ
  AK = get_or table (w + 2) 0

  abbrev AM : ℕ
  AM = get_or table (w + 7) 0

  abbrev weight : Float
  weight = get_or s.weights d nan

  abbrev v : Float
  v = mul binary64 weight e

  abbrev spots : List ℕ
  spots = bins_on (axes_at m.reals m.counts (axes_place table w)) (places_in s)

  abbrev mid : Memory
  mid = trained_over (axes_place table w) v spots m

  abbrev own : Gain
  own = gain_at AR Ac (mul binary64 e weight) k m

  abbrev done : Memory
  done = gained AR Ac own mid

  asked : Asked (Cell AM) AM spots (AR + 14) (Ac + 7) m
  unfolding axes_place
  asked = spots-asked table m.reals m.counts w s d k a t

  as_many : length spots ≡ AK
  unfolding axes_place
  as_many = spots-many table m.reals m.counts w s d k a t

  axes-touch : Within (AR + 14) (AR + 14 + AK * (6 * AM + 1)) (Ac + 7) (Ac + 7 + AK * (3 * AM + 2)) m mid
  unfolding axes_place
  axes-touch =
      let up : (lo : ℕ) → AR + 14 + AK * (6 * AM + 1) ≤ lo → AR + 14 + length spots * (6 * AM + 1) ≤ lo = λ lo h. subst (λ (n : ℕ). AR + 14 + n * (6 * AM + 1) ≤ lo) (sym as_many) h in
      let on : (lo : ℕ) → Ac + 7 + AK * (3 * AM + 2) ≤ lo → Ac + 7 + length spots * (3 * AM + 2) ≤ lo = λ lo h. subst (λ (n : ℕ). Ac + 7 + n * (3 * AM + 2) ≤ lo) (sym as_many) h in
      record {
        low = λ lo hi h. (over_below AM (trained_at AM v) (Cell AM) (trained-local AM v) (trained-frames AM v) spots (AR + 14) (Ac + 7) m asked lo hi 0 0 h (omega arith)).0;
        high = λ lo hi h. (over-above AM (trained_at AM v) (Cell AM) (trained-local AM v) (trained-frames AM v) spots (AR + 14) (Ac + 7) m asked lo hi (Ac + 7 + AK * (3 * AM + 2)) 0 (up lo h) (on (Ac + 7 + AK * (3 * AM + 2)) (omega arith))).0;
        few = λ lo hi h. (over_below AM (trained_at AM v) (Cell AM) (trained-local AM v) (trained-frames AM v) spots (AR + 14) (Ac + 7) m asked 0 0 lo hi (omega arith) h).1;
        many = λ lo hi h. (over-above AM (trained_at AM v) (Cell AM) (trained-local AM v) (trained-frames AM v) spots (AR + 14) (Ac + 7) m asked (AR + 14 + AK * (6 * AM + 1)) 0 lo hi (up (AR + 14 + AK * (6 * AM + 1)) (omega arith)) (on lo h)).1;
      }

  pub axes-within : Within AR (AR + 14 + AK * (6 * AM + 1)) Ac (Ac + 7 + AK * (3 * AM + 2)) m (absorbed_axes table s e k w d m)
  unfolding absorbed_axes
  axes-within =
      within_on AR (AR + 14 + AK * (6 * AM + 1)) Ac (Ac + 7 + AK * (3 * AM + 2)) (AR + 14) (AR + 14 + AK * (6 * AM + 1)) (Ac + 7) (Ac + 7 + AK * (3 * AM + 2)) AR (AR + 14) Ac (Ac + 7) m mid
      done (omega arith) (omega arith) (omega arith) (omega arith) (omega arith) (omega arith) (omega arith) (omega arith) axes-touch (gained-within AR Ac own mid)

  own_read : record_at done.reals done.counts AR Ac ≡ added_of (record_at m.reals m.counts AR Ac) (mul binary64 e weight) k
  unfolding gain_at
  own_read =
      gained-record AR Ac own mid (omega (arith, a.room, (axes-touch.low 0 0 (omega arith)).size)) (omega (arith, a.places, (axes-touch.few 0 0 (omega arith)).size))
      ∙ ap (λ (b : StatisticsAccumulator). with_gain b own)
      (record_same AR Ac mid.reals m.reals mid.counts m.counts (axes-touch.low AR (AR + 14) (omega arith)) (axes-touch.few Ac (Ac + 7) (omega arith)))
      ∙ gain-all (record_at m.reals m.counts AR Ac) (mul binary64 e weight) k

  form : formed_axis_list (axes_plan_at table w) (axes_from AM m.reals m.counts AK (AR + 14) (Ac + 7)) ≡ true
  unfolding formed_grid axes_grid_at axes_place
  form = sound-formed (axes (axes_grid_at table m.reals m.counts w)) t.well

  mid-read : axes_from AM mid.reals mid.counts AK (AR + 14) (Ac + 7) ≡ train_all (axes_from AM m.reals m.counts AK (AR + 14) (Ac + 7)) (places_in s) v
  unfolding axes_place axes_plan_at
  mid-read =
      all-trained AM v AK (AR + 14) (Ac + 7) (places_in s) m (spread table m.reals m.counts w s d k a t)
      (holding-formed (axes_plan_at table w) AM m.reals m.counts AK (AR + 14) (Ac + 7) (numbers-upto table (length m.reals) (length m.counts) w a) form) asked

  axes-read : axes_from AM done.reals done.counts AK (AR + 14) (Ac + 7) ≡ train_all (axes_from AM m.reals m.counts AK (AR + 14) (Ac + 7)) (places_in s) v
  unfolding axes_plan_at
  axes-read =
      let formed = ap (formed_axis_list (axes_plan_at table w)) mid-read ∙ axes-formed (axes_plan_at table w) (axes_from AM m.reals m.counts AK (AR + 14) (Ac + 7)) (places_in s) v ∙ form in
      let held = holding-formed (axes_plan_at table w) AM mid.reals mid.counts AK (AR + 14) (Ac + 7) (numbers-upto table (length m.reals) (length m.counts) w a) formed in
      let put = gained-within AR Ac own mid in
      sym (axes-same AM mid.reals done.reals mid.counts done.counts AK (AR + 14) (Ac + 7) held
      (same-sym nan _ _ done.reals mid.reals (put.high (AR + 14) (AR + 14 + AK * (6 * AM + 1)) (omega arith)))
      (same-sym 0 _ _ done.counts mid.counts (put.many (Ac + 7) (Ac + 7 + AK * (3 * AM + 2)) (omega arith)))) ∙ mid-read

  pub axes-grid-read : axes (axes_grid_at table (absorbed_axes table s e k w d m).reals (absorbed_axes table s e k w d m).counts w)
      ≡ train_grid (axes (axes_grid_at table m.reals m.counts w)) (path_left s d) (weights_left s d) (places_in s) e k
  unfolding absorbed_axes axes_grid_at axes_place train_grid train_axes weight_at
  axes-grid-read = rw (own_read, axes-read, alone table m.reals m.counts w s d k a t)

-- one of two different numbers is above the other
pub above : (j i : ℕ) → j ≢ i → i ≤ j → i < j
above zero zero n h = absurd (n refl)
above zero (suc i) n h = absurd (omega arith)
above (suc j) zero n h = omega arith
above (suc j) (suc i) n h = let q = above j i (λ e. n (ap suc e)) (omega arith) in omega arith

-- ---- a bins grid's own: its accumulator and that of bin i

module _ (table : List ℕ) (w i : ℕ) (m : Memory) (own inner : Gain) where
  abbrev BR : ℕ
  BR = get_or table (w + 5) 0

  abbrev BC : ℕ
  BC = get_or table (w + 6) 0

  abbrev BN : ℕ
  BN = get_or table (w + 2) 0

  abbrev spot : ℕ → ℕ
  spot j = BR + 14 + BN + 14 * j

  abbrev place : ℕ → ℕ
  place j = BC + 7 + 7 * j

  abbrev near : Memory
  near = gained (spot i) (place i) inner m

  abbrev put : Memory
  put = gained BR BC own near

  module _ (inside : i < BN) where
    abbrev first : Within (spot i) (spot i + 14) (place i) (place i + 7) m near
    first = gained-within (spot i) (place i) inner m

    abbrev second : Within BR (BR + 14) BC (BC + 7) near put
    second = gained-within BR BC own near

    pub own-within : Within BR (BR + 14 + 15 * BN) BC (BC + 7 + 7 * BN) m put
    own-within =
        within_on BR (BR + 14 + 15 * BN) BC (BC + 7 + 7 * BN) (spot i) (spot i + 14) (place i) (place i + 7) BR (BR + 14) BC (BC + 7) m near put (omega arith) (omega arith) (omega arith) (omega arith)
        (omega arith) (omega arith) (omega arith) (omega arith) first second

    -- read once what hangs below took the sample too
    module _ (last : Memory) (u u' c c' : ℕ) (room : BR + 14 + 15 * BN ≤ length m.reals) (places : BC + 7 + 7 * BN ≤ length m.counts)
        (past : BR + 14 + 15 * BN ≤ u) (after : BC + 7 + 7 * BN ≤ c) (deep : Within u u' c c' put last) where
      kept : (r k : ℕ) → r + 14 ≤ BR + 14 + 15 * BN → k + 7 ≤ BC + 7 + 7 * BN → record_at last.reals last.counts r k ≡ record_at put.reals put.counts r k
      kept r k h j = record_same r k last.reals put.reals last.counts put.counts (deep.low r (r + 14) (omega arith)) (deep.few k (k + 7) (omega arith))

      pub head_read : record_at last.reals last.counts BR BC ≡ with_gain (record_at m.reals m.counts BR BC) own
      head_read =
          kept BR BC (omega arith) (omega arith)
          ∙ gained-record BR BC own near (omega (arith, (first.low 0 0 (omega arith)).size)) (omega (arith, (first.few 0 0 (omega arith)).size))
          ∙ ap (λ (a : StatisticsAccumulator). with_gain a own)
          (record_same BR BC near.reals m.reals near.counts m.counts (first.low BR (BR + 14) (omega arith)) (first.few BC (BC + 7) (omega arith)))

      -- bin j's, as it was before the grid's own was put
      beside : (j : ℕ) → j < BN → record_at last.reals last.counts (spot j) (place j) ≡ record_at near.reals near.counts (spot j) (place j)
      beside j h =
          kept (spot j) (place j) (omega arith) (omega arith)
          ∙ record_same (spot j) (place j) put.reals near.reals put.counts near.counts (second.high (spot j) (spot j + 14) (omega arith)) (second.many (place j) (place j + 7) (omega arith))

      pub spot-read : record_at last.reals last.counts (spot i) (place i) ≡ with_gain (record_at m.reals m.counts (spot i) (place i)) inner
      spot-read = beside i inside ∙ gained-record (spot i) (place i) inner m (omega arith) (omega arith)

      pub chance-read : (j : ℕ) → j < BN → get_or last.reals (BR + 14 + j) nan ≡ get_or m.reals (BR + 14 + j) nan
      chance-read j h =
          (deep.low (BR + 14 + j) (BR + 14 + j + 1) (omega arith)).cells (BR + 14 + j) (omega arith) (omega arith)
          ∙ (second.high (BR + 14 + j) (BR + 14 + j + 1) (omega arith)).cells (BR + 14 + j) (omega arith) (omega arith)
          ∙ (first.low (BR + 14 + j) (BR + 14 + j + 1) (omega arith)).cells (BR + 14 + j) (omega arith) (omega arith)

      pub other-read : (j : ℕ) → j < BN → j ≢ i → record_at last.reals last.counts (spot j) (place j) ≡ record_at m.reals m.counts (spot j) (place j)
      other-read j h n = beside j h ∙ told (ltb j i) refl
        where
          told : (b : Bool) → ltb j i ≡ b → record_at near.reals near.counts (spot j) (place j) ≡ record_at m.reals m.counts (spot j) (place j)
          told true e =
              let q : j < i = ltb-true j i e in
              record_same (spot j) (place j) near.reals m.reals near.counts m.counts (first.low (spot j) (spot j + 14) (omega arith)) (first.few (place j) (place j + 7) (omega arith))
          told false e =
              let q : i < j = above j i n (ltb-false j i e) in
              record_same (spot j) (place j) near.reals m.reals near.counts m.counts (first.high (spot j) (spot j + 14) (omega arith)) (first.many (place j) (place j + 7) (omega arith))

-- ---- the bins, one by one

module _ (f f' : ℕ → Grid) (table : List ℕ) (m m' : Memory) (w : ℕ) where
  -- bin j and what hangs there are as they were
  pub record Still (j : ℕ) : Type 0 where
    pub bin : bin_in table m'.reals m'.counts w j ≡ bin_in table m.reals m.counts w j
    pub child : child_in f' (get_or table (w + 7 + j) 0) ≡ child_in f (get_or table (w + 7 + j) 0)

  bins-still : (n j : ℕ) → ((q : ℕ) → j ≤ q → q < j + n → Still q) → bins_in f' table m'.reals m'.counts w j n ≡ bins_in f table m.reals m.counts w j n
  unfolding bins_in
  bins-still zero j h = refl
  bins-still (suc n) j h = let o = h j (omega arith) (omega arith) in rw (o.bin, o.child, bins-still n (j + 1) (λ q a b. h q (omega arith) (omega arith)))

  pub bins-absorbed : (v : Float) (path : List ℕ) (ws xs : List Float) (e : Float) (k n j i p : ℕ) → p ≡ j + i → i < n
      → ((q : ℕ) → j ≤ q → q < j + n → q ≢ p → Still q)
      → bin_in table m'.reals m'.counts w p
      ≡ with_bin (bin_in table m.reals m.counts w p) (added_of (bin_in table m.reals m.counts w p).own (mul binary64 (mul binary64 v (bin_in table m.reals m.counts w p).probability) e) k)
      → child_in f' (get_or table (w + 7 + p) 0) ≡ train_child (child_in f (get_or table (w + 7 + p) 0)) path ws xs e k
      → bins_in f' table m'.reals m'.counts w j n ≡ train_bin (bins_in f table m.reals m.counts w j n) i v path ws xs e k
  unfolding bins_in train_bin
  bins-absorbed v path ws xs e k zero j i p z h o b c = absurd (omega arith)
  bins-absorbed v path ws xs e k (suc n) j zero p z h o b c =
      let y : p ≡ j = omega arith in
      let b' = subst (λ (q : ℕ). bin_in table m'.reals m'.counts w q
      ≡ with_bin (bin_in table m.reals m.counts w q) (added_of (bin_in table m.reals m.counts w q).own (mul binary64 (mul binary64 v (bin_in table m.reals m.counts w q).probability) e) k)) y b in
      let c' = subst (λ (q : ℕ). child_in f' (get_or table (w + 7 + q) 0) ≡ train_child (child_in f (get_or table (w + 7 + q) 0)) path ws xs e k) y c in
      rw (b', c', bins-still n (j + 1) (λ q x u. o q (omega arith) (omega arith) (λ r. absurd (omega arith))))
  bins-absorbed v path ws xs e k (suc n) j (suc i) p z h o b c =
      let one = o j (omega arith) (omega arith) (λ r. absurd (omega arith)) in
      rw (one.bin, one.child, bins-absorbed v path ws xs e k n (j + 1) i p (omega arith) (omega arith) (λ q x u r. o q (omega arith) (omega arith) r) b c)
