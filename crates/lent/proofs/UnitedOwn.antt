-- What merging leaves of a grid's own: which cells it touches, and what is read of them then.
use mathlib.Core.Path.{◌≡◌, refl, sym, ap, ap₂, ◌∙◌, subst}
use mathlib.Core.Logic.{inl, inr}
use mathlib.Core.Bool.{Bool, true, ◌&&◌, cond, true≢false}
use mathlib.Core.List.{List, [], ◌∷◌}
use Prim.Native.Nat.{ℕ, zero, suc, ◌+◌, ◌*◌, ◌≤◌, ◌<◌}
use native.Mathlib.Omega.{arith}
use borrow.Author.Tests.{eq-eqb, eqb-true, leb-true, leb-false}
use lib.Dec.{eqb, leb}
use lib.ListN.{length, get_or}
use lib.Ieee.{Float, nan}
use Rattle.doubles.proofs.Truth.{either, both}
use Rattle.accumulator.specs.declared.StatisticsAccumulator.{StatisticsAccumulator}
use Rattle.accumulator.specs.Record.{well_formed}
use Rattle.accumulator.specs.Steps.{merged_of}
use Rattle.accumulator.specs.Calls as account
use Rattle.model.specs.Axes.{Axis, AxesPlan}
use Rattle.model.specs.Grid.{axes, with_bin}
use Rattle.model.specs.Sound.{sound, formed_grid, formed_axis, formed_axis_list, kept_grid, kept_axis_list}
use Rattle.model.specs.Merge.{same_lengths, merge_bin_records, merge_axis, merge_all, merge_grid}
use Rattle.lent.specs.declared.AxesAt.{AxesAt}
use Rattle.lent.specs.Layout.{axes_from}
use Rattle.lent.specs.Memory.{Memory, record_at, stored}
use Rattle.lent.specs.Drawn.{axes_at, Stands}
use Rattle.lent.specs.Merged.{merged_memory}
use Rattle.lent.specs.Tree.{axes_plan_at, axes_place, axes_grid_at, bin_in, AxesLaid}
use Rattle.lent.specs.United.{stored_by, joined_record, united_axes, united_bin, united_bins, united_own}
use Rattle.lent.proofs.Same.{Same, same-sym, same-within}
use Rattle.lent.proofs.Reading.{Holding, record_same, record-stored, axes-same}
use Rattle.lent.proofs.Sounds.{numbers-upto}
use Rattle.lent.proofs.Alike.{holding-formed}
use Rattle.lent.proofs.FoundedOwn.{Within, within_same, within_on, stored-within}
use Rattle.lent.proofs.MergedAxes.{merged-axes, merged-below, merged-above}
use Rattle.lent.proofs.Merges.{as_many}
use Rattle.lent.proofs.Matches.{sound-kept, stands_at}

-- ---- one record

-- whose merge is kept: it is stored
pub record-taken : (r c q d : ℕ) (others s : Memory) (a b : StatisticsAccumulator) → a ≡ record_at s.reals s.counts r c → b ≡ record_at others.reals others.counts q d
    → well_formed a ≡ true → well_formed b ≡ true → well_formed (merged_of a b) ≡ true → joined_record r c q d others s ≡ stored r c (merged_of a b) s
unfolding joined_record stored_by account.merge_of account.kept_of
record-taken r c q d others s a b e f x y z =
    sym (ap₂ (λ (m n : StatisticsAccumulator). stored_by r c (account.merge_of m n) s) e f) ∙ rw (x, y, z)

-- ---- a merge keeps the form of axes

length_merged : (xs ys : List StatisticsAccumulator) → length (merge_bin_records xs ys) ≡ length xs
unfolding merge_bin_records
length_merged [] ys = refl
length_merged (x ∷ xs) [] = refl
length_merged (x ∷ xs) (y ∷ ys) = ap suc (length_merged xs ys)

formed-axis : (plan : AxesPlan) (x y : Axis) → formed_axis plan (merge_axis x y) ≡ formed_axis plan x
unfolding formed_axis merge_axis
formed-axis plan x y = rw (length_merged x.bins y.bins)

formed-axes : (plan : AxesPlan) (xs ys : List Axis) → formed_axis_list plan (merge_all xs ys) ≡ formed_axis_list plan xs
unfolding formed_axis_list merge_all
formed-axes plan [] ys = refl
formed-axes plan (x ∷ xs) [] = refl
formed-axes plan (x ∷ xs) (y ∷ ys) = ap₂ ◌&&◌ (formed-axis plan x y) (formed-axes plan xs ys)

-- ---- an axes grid

module _ (table other : List ℕ) (w v : ℕ) (others s : Memory) (a : AxesLaid table (length s.reals) (length s.counts) w) (b : AxesLaid other (length others.reals) (length others.counts) v)
    (mine : sound (axes (axes_grid_at table s.reals s.counts w)) ≡ true) (theirs : sound (axes (axes_grid_at other others.reals others.counts v)) ≡ true)
    (same : same_lengths (axes_grid_at table s.reals s.counts w).axes (axes_grid_at other others.reals others.counts v).axes ≡ true)
    (kept : well_formed (merged_of (axes_grid_at table s.reals s.counts w).own (axes_grid_at other others.reals others.counts v).own) ≡ true) where
  abbrev AR : ℕ
  AR = get_or table (w + 9) 0

  abbrev Ac : ℕ
  Ac = get_or table (w + 10) 0

  abbrev AK : ℕ
  AK = get_or table (w + 2) 0

  abbrev AM : ℕ
  AM = get_or table (w + 7) 0

  abbrev old : StatisticsAccumulator
  old = record_at s.reals s.counts AR Ac

  abbrev new : StatisticsAccumulator
  new = merged_of old (record_at others.reals others.counts (get_or other (v + 9) 0) (get_or other (v + 10) 0))

  abbrev own : Memory
  own = stored AR Ac new s

  abbrev G : AxesAt
  G = axes_place table w

  abbrev O : AxesAt
  O = axes_place other v

  well : well_formed new ≡ true
  unfolding axes_grid_at
  well = kept

  united : united_axes table other others w v s ≡ merged_memory G O others own
  unfolding united_axes axes_grid_at
  united =
      let many : G.axes ≡ O.axes = as_many s.reals s.counts others.reals others.counts G O same in
      let taken = record-taken AR Ac (get_or other (v + 9) 0) (get_or other (v + 10) 0) others s old (record_at others.reals others.counts (get_or other (v + 9) 0) (get_or other (v + 10) 0)) refl refl
      (sound-kept table s.reals s.counts w G refl mine).0 (sound-kept other others.reals others.counts v O refl theirs).0 well in
      ap (λ (x : Bool). cond x (merged_memory G O others (joined_record AR Ac (get_or other (v + 9) 0) (get_or other (v + 10) 0) others s)) s) (eq-eqb G.axes O.axes many) ∙ ap (merged_memory G O others) taken

  abbrev touched : Within AR (AR + 14) Ac (Ac + 7) s own
  touched = stored-within AR Ac new s

  size : length own.reals ≡ length s.reals
  size = (touched.low 0 0 (omega arith)).size

  sizes : length own.counts ≡ length s.counts
  sizes = (touched.few 0 0 (omega arith)).size

  formed : formed_axis_list (axes_plan_at table w) (axes_from AM s.reals s.counts AK (AR + 14) (Ac + 7)) ≡ true
  unfolding sound formed_grid axes_grid_at axes_place
  formed = (both (formed_axis_list (axes_plan_at table w) (axes_from AM s.reals s.counts AK (AR + 14) (Ac + 7))) (kept_grid (axes (axes_grid_at table s.reals s.counts w))) mine).0

  -- the axes stand as they did
  holds : Holding AM s.counts AK (Ac + 7)
  unfolding axes_plan_at
  holds = holding-formed (axes_plan_at table w) AM s.reals s.counts AK (AR + 14) (Ac + 7) (numbers-upto table (length s.reals) (length s.counts) w a) formed

  axes-kept : axes_from AM s.reals s.counts AK (AR + 14) (Ac + 7) ≡ axes_from AM own.reals own.counts AK (AR + 14) (Ac + 7)
  axes-kept =
      axes-same AM s.reals own.reals s.counts own.counts AK (AR + 14) (Ac + 7) holds
      (same-sym nan (AR + 14) (AR + 14 + AK * (6 * AM + 1)) own.reals s.reals (touched.high (AR + 14) (AR + 14 + AK * (6 * AM + 1)) (omega arith)))
      (same-sym 0 (Ac + 7) (Ac + 7 + AK * (3 * AM + 2)) own.counts s.counts (touched.many (Ac + 7) (Ac + 7 + AK * (3 * AM + 2)) (omega arith)))

  own_read : record_at own.reals own.counts AR Ac ≡ new
  unfolding stored
  own_read = record-stored AR Ac s.reals s.counts new (omega (arith, a.room)) (omega (arith, a.places))

  -- and the grid is well formed still
  still : sound (axes (axes_grid_at table own.reals own.counts w)) ≡ true
  unfolding sound formed_grid kept_grid axes_grid_at axes_place
  still = rw (sym axes-kept, own_read, formed, well) (sound-kept table s.reals s.counts w G refl mine).1

  laid-still : AxesLaid table (length own.reals) (length own.counts) w
  laid-still = subst (λ (n : ℕ). AxesLaid table n (length own.counts) w) (sym size) (subst (λ (n : ℕ). AxesLaid table (length s.reals) n w) (sym sizes) a)

  abbrev end : Memory
  end = merged_memory G O others own

  stands : Stands own.reals own.counts G
  stands = stands_at table own.reals own.counts w G refl laid-still still

  stand : Stands others.reals others.counts O
  stand = stands_at other others.reals others.counts v O refl b theirs

  alike : same_lengths (axes_at own.reals own.counts G) (axes_at others.reals others.counts O) ≡ true
  unfolding axes_grid_at axes_place
  alike = sym (ap (λ (l : List Axis). same_lengths l (axes_at others.reals others.counts O)) axes-kept) ∙ same

  kept_here : kept_axis_list (axes_at own.reals own.counts G) ≡ true
  kept_here = (sound-kept table own.reals own.counts w G refl still).1

  kept_there : kept_axis_list (axes_at others.reals others.counts O) ≡ true
  kept_there = (sound-kept other others.reals others.counts v O refl theirs).1

  abbrev merged : List Axis
  merged = merge_all (axes_from AM s.reals s.counts AK (AR + 14) (Ac + 7)) (axes_at others.reals others.counts O)

  axes-end : axes_from AM end.reals end.counts AK (AR + 14) (Ac + 7) ≡ merged
  unfolding axes_place
  axes-end =
      merged-axes G O others own stands stand alike kept_here kept_there
      ∙ ap (λ (l : List Axis). merge_all l (axes_at others.reals others.counts O)) (sym axes-kept)

  axes-touch : Within (AR + 14) (AR + 14 + AK * (6 * AM + 1)) (Ac + 7) (Ac + 7 + AK * (3 * AM + 2)) own end
  unfolding axes_place
  axes-touch =
      record {
        low = λ lo hi h. (merged-below G O others own stands stand alike kept_here kept_there lo hi 0 0 h (omega arith)).0;
        high = λ lo hi h. (merged-above G O others own stands stand alike kept_here kept_there lo hi (Ac + 7 + AK * (3 * AM + 2)) 0 h (omega arith)).0;
        few = λ lo hi h. (merged-below G O others own stands stand alike kept_here kept_there 0 0 lo hi (omega arith) h).1;
        many = λ lo hi h. (merged-above G O others own stands stand alike kept_here kept_there (AR + 14 + AK * (6 * AM + 1)) 0 lo hi (omega arith) h).1;
      }

  pub axes-within : Within AR (AR + 14 + AK * (6 * AM + 1)) Ac (Ac + 7 + AK * (3 * AM + 2)) s (united_axes table other others w v s)
  axes-within =
      subst (λ (t : Memory). Within AR (AR + 14 + AK * (6 * AM + 1)) Ac (Ac + 7 + AK * (3 * AM + 2)) s t) (sym united)
      (within_on AR (AR + 14 + AK * (6 * AM + 1)) Ac (Ac + 7 + AK * (3 * AM + 2)) AR (AR + 14) Ac (Ac + 7) (AR + 14) (AR + 14 + AK * (6 * AM + 1)) (Ac + 7) (Ac + 7 + AK * (3 * AM + 2)) s own end
      (omega arith) (omega arith) (omega arith) (omega arith) (omega arith) (omega arith) (omega arith) (omega arith) touched axes-touch)

  module _ (reals' : List Float) (counts' : List ℕ) (p : Same nan AR (AR + 14 + AK * (6 * AM + 1)) (united_axes table other others w v s).reals reals')
      (q : Same 0 Ac (Ac + 7 + AK * (3 * AM + 2)) (united_axes table other others w v s).counts counts') where
    abbrev there : Same nan AR (AR + 14 + AK * (6 * AM + 1)) end.reals reals'
    there = subst (λ (t : Memory). Same nan AR (AR + 14 + AK * (6 * AM + 1)) t.reals reals') united p

    abbrev counted : Same 0 Ac (Ac + 7 + AK * (3 * AM + 2)) end.counts counts'
    counted = subst (λ (t : Memory). Same 0 Ac (Ac + 7 + AK * (3 * AM + 2)) t.counts counts') united q

    record-read : record_at reals' counts' AR Ac ≡ new
    record-read =
        sym (record_same AR Ac end.reals reals' end.counts counts' (same-within nan AR (AR + 14 + AK * (6 * AM + 1)) AR (AR + 14) end.reals reals' (omega arith) (omega arith) there)
        (same-within 0 Ac (Ac + 7 + AK * (3 * AM + 2)) Ac (Ac + 7) end.counts counts' (omega arith) (omega arith) counted))
        ∙ record_same AR Ac end.reals own.reals end.counts own.counts (axes-touch.low AR (AR + 14) (omega arith)) (axes-touch.few Ac (Ac + 7) (omega arith))
        ∙ own_read

    holds-end : Holding AM end.counts AK (Ac + 7)
    unfolding axes_plan_at
    holds-end =
        holding-formed (axes_plan_at table w) AM end.reals end.counts AK (AR + 14) (Ac + 7) (numbers-upto table (length s.reals) (length s.counts) w a)
        (ap (formed_axis_list (axes_plan_at table w)) axes-end ∙ formed-axes (axes_plan_at table w) (axes_from AM s.reals s.counts AK (AR + 14) (Ac + 7)) (axes_at others.reals others.counts O) ∙ formed)

    axes-read : axes_from AM reals' counts' AK (AR + 14) (Ac + 7) ≡ merged
    axes-read =
        sym (axes-same AM end.reals reals' end.counts counts' AK (AR + 14) (Ac + 7) holds-end
        (same-within nan AR (AR + 14 + AK * (6 * AM + 1)) (AR + 14) (AR + 14 + AK * (6 * AM + 1)) end.reals reals' (omega arith) (omega arith) there)
        (same-within 0 Ac (Ac + 7 + AK * (3 * AM + 2)) (Ac + 7) (Ac + 7 + AK * (3 * AM + 2)) end.counts counts' (omega arith) (omega arith) counted)) ∙ axes-end

    pub axes-grid-read : axes (axes_grid_at table reals' counts' w) ≡ merge_grid (axes (axes_grid_at table s.reals s.counts w)) (axes (axes_grid_at other others.reals others.counts v))
    unfolding axes_grid_at merge_grid axes_place axes_plan_at
    axes-grid-read = rw (record-read, axes-read)

-- ---- a bins grid's own

apart : (i j : ℕ) → i ≤ j → (j ≡ i → ⊥) → i < j
apart i j h z = elim (either (leb j i)) [
  | inl x ↦ absurd (z (let k = leb-true j i x in omega arith))
  | inr x ↦ leb-false j i x
]

module _ (table other : List ℕ) (others : Memory) (w v : ℕ) where
  abbrev BR : ℕ
  BR = get_or table (w + 5) 0

  abbrev BC : ℕ
  BC = get_or table (w + 6) 0

  abbrev BN : ℕ
  BN = get_or table (w + 2) 0

  abbrev spot : ℕ → ℕ
  spot i = BR + 14 + BN + 14 * i

  abbrev here : Memory → ℕ → StatisticsAccumulator
  here s i = record_at s.reals s.counts (spot i) (BC + 7 + 7 * i)

  abbrev far : ℕ → StatisticsAccumulator
  far i = record_at others.reals others.counts (get_or other (v + 5) 0 + 14 + get_or other (v + 2) 0 + 14 * i) (get_or other (v + 6) 0 + 7 + 7 * i)

  -- two records and their merge are well formed
  abbrev pub Fine : StatisticsAccumulator → StatisticsAccumulator → Type 0
  Fine x y = (well_formed x ≡ true) × (well_formed y ≡ true) × (well_formed (merged_of x y) ≡ true)

  bin-is : (i : ℕ) (s : Memory) → Fine (here s i) (far i) → united_bin table other others w v i s ≡ stored (spot i) (BC + 7 + 7 * i) (merged_of (here s i) (far i)) s
  unfolding united_bin
  bin-is i s t =
      record-taken (spot i) (BC + 7 + 7 * i) (get_or other (v + 5) 0 + 14 + get_or other (v + 2) 0 + 14 * i) (get_or other (v + 6) 0 + 7 + 7 * i) others s (here s i) (far i) refl refl t.0 t.1 t.2

  bin-within : (i : ℕ) (s : Memory) → Fine (here s i) (far i) → Within (spot i) (spot i + 14) (BC + 7 + 7 * i) (BC + 7 + 7 * i + 7) s (united_bin table other others w v i s)
  bin-within i s t = subst (λ (m : Memory). Within (spot i) (spot i + 14) (BC + 7 + 7 * i) (BC + 7 + 7 * i + 7) s m) (sym (bin-is i s t)) (stored-within (spot i) (BC + 7 + 7 * i) (merged_of (here s i) (far i)) s)

  bin-stored : (i : ℕ) (s : Memory) → spot i + 14 ≤ length s.reals → BC + 7 + 7 * i + 7 ≤ length s.counts → here (stored (spot i) (BC + 7 + 7 * i) (merged_of (here s i) (far i)) s) i ≡ merged_of (here s i) (far i)
  unfolding stored
  bin-stored i s h k = record-stored (spot i) (BC + 7 + 7 * i) s.reals s.counts (merged_of (here s i) (far i)) h k

  -- a later bin stays
  here-still : (i j : ℕ) (s : Memory) → Fine (here s i) (far i) → i < j → here (united_bin table other others w v i s) j ≡ here s j
  here-still i j s t h =
      let q = bin-within i s t in
      let m = united_bin table other others w v i s in
      record_same (spot j) (BC + 7 + 7 * j) m.reals s.reals m.counts s.counts (q.high (spot j) (spot j + 14) (omega arith)) (q.many (BC + 7 + 7 * j) (BC + 7 + 7 * j + 7) (omega arith))

  fine-still : (i j : ℕ) (s : Memory) → Fine (here s i) (far i) → i < j → Fine (here s j) (far j) → Fine (here (united_bin table other others w v i s) j) (far j)
  fine-still i j s t h f = subst (λ (x : StatisticsAccumulator). Fine x (far j)) (sym (here-still i j s t h)) f

  -- the last k bins, from bin i on
  bins-touch : (k i : ℕ) (s : Memory) → i + k ≡ BN → ((j : ℕ) → i ≤ j → j < BN → Fine (here s j) (far j))
      → Within (spot i) (BR + 14 + 15 * BN) (BC + 7 + 7 * i) (BC + 7 + 7 * BN) s (united_bins table other others w v i k s)
  unfolding united_bins
  bins-touch zero i s e t = within_same (spot i) (BR + 14 + 15 * BN) (BC + 7 + 7 * i) (BC + 7 + 7 * BN) s
  bins-touch (suc k) i s e t =
      let now = t i (omega arith) (omega arith) in
      let s₁ = united_bin table other others w v i s in
      within_on (spot i) (BR + 14 + 15 * BN) (BC + 7 + 7 * i) (BC + 7 + 7 * BN) (spot i) (spot i + 14) (BC + 7 + 7 * i) (BC + 7 + 7 * i + 7) (spot (i + 1)) (BR + 14 + 15 * BN) (BC + 7 + 7 * (i + 1)) (BC + 7 + 7 * BN)
      s s₁ (united_bins table other others w v (i + 1) k s₁) (omega arith) (omega arith) (omega arith) (omega arith) (omega arith) (omega arith) (omega arith) (omega arith)
      (bin-within i s now) (bins-touch k (i + 1) s₁ (omega arith) (λ j x y. fine-still i j s now (omega arith) (t j (omega arith) y)))

  bins-at : (k i j : ℕ) (s : Memory) → i + k ≡ BN → i ≤ j → j < BN → BR + 14 + 15 * BN ≤ length s.reals → BC + 7 + 7 * BN ≤ length s.counts → ((j : ℕ) → i ≤ j → j < BN → Fine (here s j) (far j))
      → here (united_bins table other others w v i k s) j ≡ merged_of (here s j) (far j)
  unfolding united_bins
  bins-at zero i j s e h l p q t = absurd (omega arith)
  bins-at (suc k) i j s e h l p q t =
      let now = t i (omega arith) (omega arith) in
      let s₁ = united_bin table other others w v i s in
      let end = united_bins table other others w v (i + 1) k s₁ in
      let near = bin-within i s now in
      let on : (n : ℕ) → i + 1 ≤ n → n < BN → Fine (here s₁ n) (far n) = λ n x y. fine-still i n s now (omega arith) (t n (omega arith) y) in
      let first : here end i ≡ merged_of (here s i) (far i) =
      record_same (spot i) (BC + 7 + 7 * i) end.reals s₁.reals end.counts s₁.counts ((bins-touch k (i + 1) s₁ (omega arith) on).low (spot i) (spot i + 14) (omega arith))
      ((bins-touch k (i + 1) s₁ (omega arith) on).few (BC + 7 + 7 * i) (BC + 7 + 7 * i + 7) (omega arith))
      ∙ ap (λ (m : Memory). here m i) (bin-is i s now) ∙ bin-stored i s (omega arith) (omega arith) in
      elim (either (eqb j i)) [
        | inl x ↦ subst (λ (n : ℕ). here end n ≡ merged_of (here s n) (far n)) (sym (eqb-true j i x)) first
        | inr x ↦ let z : j ≡ i → ⊥ = λ y. absurd (true≢false (sym (eq-eqb j i y) ∙ x)) in
            bins-at k (i + 1) j s₁ (omega arith) (omega (arith, apart i j h z)) l (omega (arith, (near.low 0 0 (omega arith)).size)) (omega (arith, (near.few 0 0 (omega arith)).size)) on
            ∙ ap (λ (x : StatisticsAccumulator). merged_of x (far j)) (here-still i j s now (apart i j h z))
      ]

  module _ (s : Memory) (room : BR + 14 + 15 * BN ≤ length s.reals) (places : BC + 7 + 7 * BN ≤ length s.counts)
      (head : Fine (record_at s.reals s.counts BR BC) (record_at others.reals others.counts (get_or other (v + 5) 0) (get_or other (v + 6) 0)))
      (each : (j : ℕ) → j < BN → Fine (here s j) (far j)) where
    abbrev top : StatisticsAccumulator
    top = merged_of (record_at s.reals s.counts BR BC) (record_at others.reals others.counts (get_or other (v + 5) 0) (get_or other (v + 6) 0))

    abbrev begun : Memory
    begun = stored BR BC top s

    abbrev begins : Within BR (BR + 14) BC (BC + 7) s begun
    begins = stored-within BR BC top s

    own_is : united_own table other others w v s ≡ united_bins table other others w v 0 BN begun
    unfolding united_own
    own_is =
        ap (united_bins table other others w v 0 BN)
        (record-taken BR BC (get_or other (v + 5) 0) (get_or other (v + 6) 0) others s (record_at s.reals s.counts BR BC) (record_at others.reals others.counts (get_or other (v + 5) 0) (get_or other (v + 6) 0)) refl refl head.0 head.1 head.2)

    bin-kept : (j : ℕ) → here begun j ≡ here s j
    bin-kept j =
        record_same (spot j) (BC + 7 + 7 * j) begun.reals s.reals begun.counts s.counts (begins.high (spot j) (spot j + 14) (omega arith)) (begins.many (BC + 7 + 7 * j) (BC + 7 + 7 * j + 7) (omega arith))

    fine : (j : ℕ) → 0 ≤ j → j < BN → Fine (here begun j) (far j)
    fine j x y = subst (λ (m : StatisticsAccumulator). Fine m (far j)) (sym (bin-kept j)) (each j y)

    abbrev done : Memory
    done = united_bins table other others w v 0 BN begun

    abbrev rest : Within (spot 0) (BR + 14 + 15 * BN) (BC + 7 + 7 * 0) (BC + 7 + 7 * BN) begun done
    rest = bins-touch BN 0 begun (omega arith) fine

    pub own-within : Within BR (BR + 14 + 15 * BN) BC (BC + 7 + 7 * BN) s (united_own table other others w v s)
    own-within =
        subst (λ (m : Memory). Within BR (BR + 14 + 15 * BN) BC (BC + 7 + 7 * BN) s m) (sym own_is)
        (within_on BR (BR + 14 + 15 * BN) BC (BC + 7 + 7 * BN) BR (BR + 14) BC (BC + 7) (spot 0) (BR + 14 + 15 * BN) (BC + 7 + 7 * 0) (BC + 7 + 7 * BN) s begun done
        (omega arith) (omega arith) (omega arith) (omega arith) (omega arith) (omega arith) (omega arith) (omega arith) begins rest)

    module _ (reals' : List Float) (counts' : List ℕ) (p : Same nan BR (BR + 14 + 15 * BN) (united_own table other others w v s).reals reals')
        (q : Same 0 BC (BC + 7 + 7 * BN) (united_own table other others w v s).counts counts') where
      abbrev reals-there : Same nan BR (BR + 14 + 15 * BN) done.reals reals'
      reals-there = subst (λ (m : Memory). Same nan BR (BR + 14 + 15 * BN) m.reals reals') own_is p

      abbrev counts-there : Same 0 BC (BC + 7 + 7 * BN) done.counts counts'
      counts-there = subst (λ (m : Memory). Same 0 BC (BC + 7 + 7 * BN) m.counts counts') own_is q

      pub head_read : record_at reals' counts' BR BC ≡ top
      unfolding stored
      head_read =
          sym (record_same BR BC done.reals reals' done.counts counts' (same-within nan BR (BR + 14 + 15 * BN) BR (BR + 14) done.reals reals' (omega arith) (omega arith) reals-there)
          (same-within 0 BC (BC + 7 + 7 * BN) BC (BC + 7) done.counts counts' (omega arith) (omega arith) counts-there))
          ∙ record_same BR BC done.reals begun.reals done.counts begun.counts (rest.low BR (BR + 14) (omega arith)) (rest.few BC (BC + 7) (omega arith))
          ∙ record-stored BR BC s.reals s.counts top (omega arith) (omega arith)

      pub bin-read : (j : ℕ) → j < BN → bin_in table reals' counts' w j ≡ with_bin (bin_in table s.reals s.counts w j) (merged_of (here s j) (far j))
      unfolding bin_in with_bin
      bin-read j h =
          let chance : get_or reals' (BR + 14 + j) nan ≡ get_or s.reals (BR + 14 + j) nan =
          sym (reals-there.cells (BR + 14 + j) (omega arith) (omega arith)) ∙ (rest.low (BR + 14 + j) (BR + 14 + j + 1) (omega arith)).cells (BR + 14 + j) (omega arith) (omega arith)
          ∙ (begins.high (BR + 14 + j) (BR + 14 + j + 1) (omega arith)).cells (BR + 14 + j) (omega arith) (omega arith) in
          let own : record_at reals' counts' (spot j) (BC + 7 + 7 * j) ≡ merged_of (here s j) (far j) =
          sym (record_same (spot j) (BC + 7 + 7 * j) done.reals reals' done.counts counts'
          (same-within nan BR (BR + 14 + 15 * BN) (spot j) (spot j + 14) done.reals reals' (omega arith) (omega arith) reals-there)
          (same-within 0 BC (BC + 7 + 7 * BN) (BC + 7 + 7 * j) (BC + 7 + 7 * j + 7) done.counts counts' (omega arith) (omega arith) counts-there))
          ∙ bins-at BN 0 j begun (omega arith) (omega arith) h (omega (arith, (begins.low 0 0 (omega arith)).size)) (omega (arith, (begins.few 0 0 (omega arith)).size)) fine
          ∙ ap (λ (x : StatisticsAccumulator). merged_of x (far j)) (bin-kept j) in
          rw (chance, own)
