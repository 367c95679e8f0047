-- An update in lent memory is read as the model's: what is found, and each axis after it.
use mathlib.Core.Path.{◌≡◌, refl, sym, ap, ap₂, ◌∙◌}
use mathlib.Core.Bool.{Bool, true, false, not, cond, ◌&&◌, ◌||◌}
use mathlib.Core.List.{List, ◌∷◌, map}
use Prim.Native.Nat.{ℕ, zero, suc, ◌+◌, ◌*◌, ◌≤◌, ◌<◌}
use native.Mathlib.Omega.{arith}
use lib.ListN.{length, get_or, length-map}
use native.Mathlib.Numerals.{add-one}
use lib.Seq.{drop-cons}
use lib.Ieee.{Float, nan, eq}
use Rattle.doubles.specs.Numbers.{zero64}
use Rattle.doubles.specs.Total.{all_finite}
use Rattle.doubles.specs.Paper.{Paper, gives, refuses}
use Rattle.accumulator.specs.declared.StatisticsAccumulator.{StatisticsAccumulator}
use Rattle.accumulator.specs.Record.{with_waiting, with_extremes, bounded}
use Rattle.accumulator.specs.Steps.{cleared_of}
use Rattle.axis.specs.Scans.{all_bounded}
use Rattle.recut.specs.Gather.{gathered_of, joined_counts, reaches_of}
use Rattle.recut.specs.Renew.{renew_of}
use Rattle.recut.proofs.Laws.{renew-sound}
use Rattle.model.specs.Axes.{Axis, empty_axis}
use Rattle.model.specs.Update.{Outcome, trained, gathered_axis, bins_after, recut_to, adapted_axis, update_axis, outcome_of, update_all}
use Rattle.lent.specs.declared.Rule.{Rule}
use Rattle.lent.specs.Layout.{stretch, axis_reals, axis_counts, bin_record, bin_at, bins_from, axis_at, axes_from}
use Rattle.lent.specs.Memory.{Memory, memory, put}
use Rattle.lent.specs.Drawn.{Standing}
use Rattle.lent.specs.Laid.{waitless_at, empty_at}
use Rattle.lent.specs.Renewed.{plan_of, bins_to, Within, trained_from, importances_at, counters_at, finding, kept_at, recut_into, recut_at, adapted_at, update_at, update_all_at}
use Rattle.lent.proofs.Same.{Same, same_refl, same-sym, same-on, same-put-below, same-put-above, stretch-put, stretch-same}
use Rattle.lent.proofs.Reading.{Holding, length-bins, axis-same, axes-same}
use Rattle.lent.proofs.Inside.{Here, Inside, inside-reals, inside-counts, inside-edged}
use Rattle.lent.proofs.Changes.{importances-length, counters-length, inside-update}
use Rattle.lent.proofs.Empties.{waitless-is, axis-is, cleared-bins, emptied-axis, emptied-held, edged-axis}

-- ---- a column of the bins' records is a stretch of memory

stretch-cons : {A : Type 0} (d : A) (at n : ℕ) (xs : List A) → at < length xs → stretch at (suc n) xs ≡ get_or xs at d ∷ stretch (at + 1) n xs
unfolding stretch
stretch-cons d at n xs h = rw (drop-cons xs at d h, add-one)

module _ (m r c : ℕ) (reals : List Float) (counts : List ℕ) where
  column : {A : Type 0} (d : A) (f : StatisticsAccumulator → A) (at : ℕ) (xs : List A) → ((i : ℕ) → f (bin_at m reals counts r c i) ≡ get_or xs (at + i) d)
      → (i n : ℕ) → at + i + n ≤ length xs → map f (bins_from m reals counts r c i n) ≡ stretch (at + i) n xs
  unfolding bins_from stretch
  column d f at xs each i zero h = refl
  column d f at xs each i (suc n) h =
      let e : at + (i + 1) ≡ at + i + 1 = omega arith in
      ap₂ (λ (x : _) (l : List _). x ∷ l) (each i) (column d f at xs each (i + 1) n (omega arith) ∙ ap (λ (j : ℕ). stretch j n xs) e)
      ∙ sym (stretch-cons d (at + i) n xs (omega arith))

  whole-column : {A : Type 0} (d : A) (f : StatisticsAccumulator → A) (at : ℕ) (xs : List A) → ((i : ℕ) → f (bin_at m reals counts r c i) ≡ get_or xs (at + i) d)
      → (n : ℕ) → at + n ≤ length xs → map f (bins_from m reals counts r c 0 n) ≡ stretch at n xs
  whole-column d f at xs each n h = let e : at + 0 ≡ at = omega arith in column d f at xs each 0 n (omega arith) ∙ ap (λ (j : ℕ). stretch j n xs) e

  trained-column : (averages : Bool) (n : ℕ) → n ≤ m → r + (6 * m + 1) ≤ length reals → map (trained averages) (bins_from m reals counts r c 0 n) ≡ stretch (r + trained_from averages m) n reals
  unfolding trained trained_from bin_at bin_record with_extremes with_waiting
  trained-column true n N h = whole-column nan (trained true) (r + (2 * m + 1)) reals (λ i. refl) n (omega arith)
  trained-column false n N h = whole-column nan (trained false) (r + (3 * m + 1)) reals (λ i. refl) n (omega arith)

  waiting-column : (n : ℕ) → n ≤ m → c + (3 * m + 2) ≤ length counts
      → map (λ (a : StatisticsAccumulator). a.new_samples) (bins_from m reals counts r c 0 n) ≡ stretch (c + 2) n counts
  unfolding bin_at bin_record with_extremes with_waiting
  waiting-column n N h = whole-column 0 (λ (a : StatisticsAccumulator). a.new_samples) (c + 2) counts (λ i. refl) n (omega arith)

-- ---- what is kept

module _ (m r c : ℕ) (qs : List Float) (ns : List ℕ) (s : Memory) (Q : length qs ≤ m) (E : length ns ≡ length qs) (h : Here m r c s) where
  -- the axis with these importances and counters, and nothing waiting
  abbrev pub gathered : Axis
  gathered =
      record {
        edges = stretch r (length qs + 1) s.reals;
        bins = map cleared_of (bins_from m s.reals s.counts r c 0 (length qs));
        importances = qs;
        counters = ns;
        recuts = get_or s.counts (c + 1) 0;
      }

  abbrev R : List Float
  R = put (r + (m + 1)) (length qs) qs s.reals

  abbrev C : List ℕ
  C = put (c + (2 * m + 2)) (length ns) ns s.counts

  pub kept-axis : get_or s.counts c 0 ≡ length qs → axis_at m (kept_at m r c qs ns s).reals (kept_at m r c qs ns s).counts r c ≡ gathered
  unfolding kept_at
  kept-axis e =
      let n = length qs in
      let a = inside-reals m r c (r + (m + 1)) n qs s h refl (omega arith) (omega arith) in
      let b = inside-counts m r c (c + (2 * m + 2)) (length ns) ns (memory R s.counts) a.here refl (omega arith) (omega arith) in
      let w = waitless-is m r c n Q (memory R C) b.here in
      let S = waitless_at m r c n (memory R C) in
      let H : r + (m + 1) + n ≤ length s.reals = omega (arith, h.room) in
      let K : c + (2 * m + 2) + length ns ≤ length s.counts = omega (arith, h.places) in
      let head : (p : ℕ) → p < c + 2 → get_or S.counts p 0 ≡ get_or s.counts p 0 = λ p i.
      (w.head p (c + 2) (omega arith)).cells p (omega arith) i ∙ (same-put-above 0 p (c + 2) (c + (2 * m + 2)) (length ns) ns s.counts K refl (omega arith)).cells p (omega arith) i in
      let edges = stretch-same nan r (r + (m + 1)) r (n + 1) S.reals s.reals
      (same-on nan _ _ S.reals R s.reals (w.front _ _ (omega arith)) (same-put-above nan _ _ (r + (m + 1)) n qs s.reals H refl (omega arith))) (omega arith) (omega arith) in
      let extremes = same-on nan (r + (4 * m + 1)) (r + (6 * m + 1)) S.reals R s.reals (w.extremes _ _ (omega arith)) (same-put-below nan _ _ (r + (m + 1)) n qs s.reals H refl (omega arith)) in
      let bins = cleared-bins m r c n S.reals S.counts w.sums w.squares w.waiting w.zeros s.reals s.counts Q extremes in
      let importances = stretch-same nan (r + (m + 1)) (r + (2 * m + 1)) (r + (m + 1)) n S.reals R (w.front _ _ (omega arith)) (omega arith) (omega arith)
      ∙ stretch-put (r + (m + 1)) n qs s.reals (omega arith) refl in
      let counters = stretch-same 0 (c + (2 * m + 2)) (c + (3 * m + 2)) (c + (2 * m + 2)) n S.counts C (w.counters _ _ (omega arith)) (omega arith) (omega arith)
      ∙ ap (λ (j : ℕ). stretch (c + (2 * m + 2)) j C) (sym E) ∙ stretch-put (c + (2 * m + 2)) (length ns) ns s.counts (omega arith) refl in
      axis-is m r c n S.reals S.counts gathered (head c (omega arith) ∙ e) edges bins importances counters (head (c + 1) (omega arith))

-- the model's gathered axis is read so
gathered-is : (m r c : ℕ) (s : Memory) (h : Here m r c s) (rule : Rule) (values : List ℕ) (floor : Float) → get_or s.counts c 0 ≤ m
    → (Q : length (importances_at rule.averages m r (get_or s.counts c 0) s.reals) ≤ m)
    (E : length (counters_at m c (get_or s.counts c 0) s.counts) ≡ length (importances_at rule.averages m r (get_or s.counts c 0) s.reals))
    → length (importances_at rule.averages m r (get_or s.counts c 0) s.reals) ≡ get_or s.counts c 0
    → gathered_axis (plan_of rule values floor).averages (axis_at m s.reals s.counts r c)
    ≡ gathered m r c (importances_at rule.averages m r (get_or s.counts c 0) s.reals) (counters_at m c (get_or s.counts c 0) s.counts) s Q E h
unfolding gathered_axis axis_at plan_of importances_at counters_at
gathered-is m r c s h rule values floor N Q E q =
    let n = get_or s.counts c 0 in
    let bs = bins_from m s.reals s.counts r c 0 n in
    let imp = stretch (r + (m + 1)) n s.reals in
    let cnt = stretch (c + (2 * m + 2)) n s.counts in
    let t = trained-column m r c s.reals s.counts rule.averages n N h.room in
    let v = waiting-column m r c s.reals s.counts n N h.places in
    ap₂ (λ (x : List Float) (y : List ℕ). record {
      edges = stretch r (n + 1) s.reals;
      bins = map cleared_of bs;
      importances = gathered_of imp x;
      counters = joined_counts cnt y;
      recuts = get_or s.counts (c + 1) 0;
    }) t v
    ∙ ap (λ (j : ℕ). record {
      edges = stretch r (j + 1) s.reals;
      bins = map cleared_of (bins_from m s.reals s.counts r c 0 j);
      importances = gathered_of imp (stretch (r + trained_from rule.averages m) n s.reals);
      counters = joined_counts cnt (stretch (c + 2) n s.counts);
      recuts = get_or s.counts (c + 1) 0;
    }) (sym q)

-- ---- one axis

-- what was found, and the axis after it
unfoldable pub read_axis : ℕ → ℕ → ℕ → Outcome Memory → Outcome Axis
read_axis m r c o = record { eight = o.eight; nine = o.nine; after = axis_at m o.after.reals o.after.counts r c }

-- the code's cases beside the model's
cases : (m r c : ℕ) (a b z d : Bool) (o k e p : Outcome Memory) (ax g x : Axis) (q : Paper Axis) → read_axis m r c o ≡ outcome_of ax (refuses 8)
    → read_axis m r c k ≡ outcome_of ax (gives g) → read_axis m r c e ≡ outcome_of ax (gives x) → read_axis m r c p ≡ outcome_of ax q
    → read_axis m r c (cond (not a) o (cond (not b) k (cond z e (cond (not d) o p))))
    ≡ outcome_of ax (cond (not a) (refuses 8) (cond (not b) (gives g) (cond z (gives x) (cond (not d) (refuses 8) q))))
cases m r c false b z d o k e p ax g x q ho hk he hp = ho
cases m r c true false z d o k e p ax g x q ho hk he hp = hk
cases m r c true true true d o k e p ax g x q ho hk he hp = he
cases m r c true true false false o k e p ax g x q ho hk he hp = ho
cases m r c true true false true o k e p ax g x q ho hk he hp = hp

module _ (m r c : ℕ) (s : Memory) (h : Here m r c s) where
  abbrev ax : Axis
  ax = axis_at m s.reals s.counts r c

  recut-read : (n recuts : ℕ) (p : Paper (List Float)) → n ≤ m → ((es : List Float) → p ≡ gives es → length es ≡ n + 1)
      → read_axis m r c (recut_into m r c n (recuts + 1) p s) ≡ outcome_of ax (recut_to n recuts p)
  unfolding recut_into read_axis
  recut-read n recuts (gives es) N k = ap (λ (x : Axis). record { eight = false; nine = false; after = x }) (edged-axis m r c n (recuts + 1) es s N h (k es refl))
  recut-read n recuts (refuses j) N k = refl

  module _ (rule : Rule) (values : List ℕ) (rate floor : Float) (w : Within m rule values) where
    adapted-read : (qs : List Float) (ns : List ℕ) (Q : length qs ≤ m) (E : length ns ≡ length qs) → get_or s.counts c 0 ≡ length qs
        → read_axis m r c (adapted_at rule values rate m r c qs ns s) ≡ outcome_of ax (adapted_axis (plan_of rule values floor) rate (gathered m r c qs ns s Q E h))
    unfolding adapted_at recut_at adapted_axis plan_of bins_after bins_to Within read_axis
    adapted-read qs ns Q E e =
        let recuts = get_or s.counts (c + 1) 0 in
        let n = bins_to rule values recuts in
        let g = gathered m r c qs ns s Q E h in
        let es = stretch r (length qs + 1) s.reals in
        let p = renew_of es qs ns rate (n + 1) in
        let size : length qs ≡ length g.bins = sym (length-map (bins_from m s.reals s.counts r c 0 (length qs)) cleared_of ∙ length-bins m s.reals s.counts r c 0 (length qs)) in
        cases m r c (all_finite qs && all_bounded ns) (reaches_of rule.least ns) (eq rate zero64) (bounded (recuts + 1)) (finding true false s) (finding false false (kept_at m r c qs ns s))
        (finding false false (empty_at m r c (length qs) recuts s)) (recut_into m r c n (recuts + 1) p s) ax g (empty_axis es (length g.bins) recuts) (recut_to n recuts p) refl
        (ap (λ (x : Axis). record { eight = false; nine = false; after = x }) (kept-axis m r c qs ns s Q E h e))
        (ap (λ (x : Axis). record { eight = false; nine = false; after = x }) (emptied-axis m r c (length qs) recuts s Q h ∙ ap (λ (j : ℕ). empty_axis es j recuts) size))
        (recut-read n recuts p (w recuts) (λ l i. (renew-sound es qs ns rate (n + 1) l i).1))

    -- the tie: what is found and what the axis is then are the model's
    pub updated-axis : get_or s.counts c 0 ≤ m → read_axis m r c (update_at rule values rate m r c s) ≡ outcome_of ax (update_axis (plan_of rule values floor) rate ax)
    unfolding update_at update_axis
    updated-axis N =
        let n = get_or s.counts c 0 in
        let qs = importances_at rule.averages m r n s.reals in
        let ns = counters_at m c n s.counts in
        let q = importances-length m r c n s N h rule.averages in
        let k = counters-length m r c n s N h in
        let Q : length qs ≤ m = omega arith in
        adapted-read qs ns Q (k ∙ sym q) (sym q)
        ∙ ap (λ (g : Axis). outcome_of ax (adapted_axis (plan_of rule values floor) rate g)) (sym (gathered-is m r c s h rule values floor N Q (k ∙ sym q) q))

-- ---- an updated axis holds at most m bins still

module _ (m r c : ℕ) (s : Memory) (h : Here m r c s) (N : get_or s.counts c 0 ≤ m) where
  either : (b : Bool) (x y : Outcome Memory) → get_or x.after.counts c 0 ≤ m → get_or y.after.counts c 0 ≤ m → get_or (cond b x y).after.counts c 0 ≤ m
  either true x y u v = u
  either false x y u v = v

  held_kept : (qs : List Float) (ns : List ℕ) → length qs ≤ m → length ns ≡ length qs → get_or (kept_at m r c qs ns s).counts c 0 ≤ m
  unfolding kept_at
  held_kept qs ns Q E =
      let a = inside-reals m r c (r + (m + 1)) (length qs) qs s h refl (omega arith) (omega arith) in
      let b = inside-counts m r c (c + (2 * m + 2)) (length ns) ns _ a.here refl (omega arith) (omega arith) in
      let w = waitless-is m r c (length qs) Q _ b.here in
      let K : c + (2 * m + 2) + length ns ≤ length s.counts = omega (arith, h.places) in
      omega (
        arith,
        N,
        (w.head c (c + 2) (omega arith)).cells c (omega arith) (omega arith),
        (same-put-above 0 c (c + 2) (c + (2 * m + 2)) (length ns) ns s.counts K refl (omega arith)).cells c (omega arith) (omega arith),
      )

  held-empty : (n recuts : ℕ) (t : Memory) → n ≤ m → Here m r c t → get_or (empty_at m r c n recuts t).counts c 0 ≤ m
  held-empty n recuts t M i = omega (arith, emptied-held m r c n recuts t M i)

  held-into : (n recuts : ℕ) (p : Paper (List Float)) → n ≤ m → ((es : List Float) → p ≡ gives es → length es ≡ n + 1) → get_or (recut_into m r c n recuts p s).after.counts c 0 ≤ m
  unfolding recut_into
  held-into n recuts (gives es) M k = held-empty n recuts _ M (inside-edged m r c n M es s (k es refl) h).here
  held-into n recuts (refuses j) M k = N

  module _ (rule : Rule) (values : List ℕ) (rate : Float) (w : Within m rule values) where
    held-adapted : (qs : List Float) (ns : List ℕ) → length qs ≤ m → length ns ≡ length qs → get_or (adapted_at rule values rate m r c qs ns s).after.counts c 0 ≤ m
    unfolding adapted_at recut_at Within
    held-adapted qs ns Q E =
        let recuts = get_or s.counts (c + 1) 0 in
        let n = bins_to rule values recuts in
        let p = renew_of (stretch r (length qs + 1) s.reals) qs ns rate (n + 1) in
        let cut = held-into n (recuts + 1) p (w recuts) (λ es e. (renew-sound (stretch r (length qs + 1) s.reals) qs ns rate (n + 1) es e).1) in
        let recut = cond (not (bounded (recuts + 1))) (finding true false s) (recut_into m r c n (recuts + 1) p s) in
        let reset = cond (eq rate zero64) (finding false false (empty_at m r c (length qs) recuts s)) recut in
        let kept = cond (not (reaches_of rule.least ns)) (finding false false (kept_at m r c qs ns s)) reset in
        either (not (all_finite qs && all_bounded ns)) (finding true false s) kept N
        (either (not (reaches_of rule.least ns)) (finding false false (kept_at m r c qs ns s)) reset (held_kept qs ns Q E)
        (either (eq rate zero64) (finding false false (empty_at m r c (length qs) recuts s)) recut (held-empty (length qs) recuts s Q h)
        (either (not (bounded (recuts + 1))) (finding true false s) (recut_into m r c n (recuts + 1) p s) N cut)))

    updated-held : get_or (update_at rule values rate m r c s).after.counts c 0 ≤ m
    unfolding update_at
    updated-held =
        let n = get_or s.counts c 0 in
        let q = importances-length m r c n s N h rule.averages in
        let k = counters-length m r c n s N h in
        held-adapted (importances_at rule.averages m r n s.reals) (counters_at m c n s.counts) (omega arith) (k ∙ sym q)

-- ---- axis after axis

-- k axes lie in memory, each of at most m bins
pub record Ready (m k r c : ℕ) (s : Memory) : Type 0 where
  pub holding : Holding m s.counts k c
  pub room : r + k * (6 * m + 1) ≤ length s.reals
  pub places : c + k * (3 * m + 2) ≤ length s.counts

pub standing-ready : (m : ℕ) (reals : List Float) (counts : List ℕ) (k r c : ℕ) → Standing m reals counts k r c → Ready m k r c (memory reals counts)
unfolding Standing Holding axis_reals axis_counts
standing-ready m reals counts zero r c s = record { holding = tt; room = omega (arith, s.0); places = omega (arith, s.1) }
standing-ready m reals counts (suc k) r c s =
    let e : suc k * (6 * m + 1) ≡ (6 * m + 1) + k * (6 * m + 1) = omega arith in
    let f : suc k * (3 * m + 2) ≡ (3 * m + 2) + k * (3 * m + 2) = omega arith in
    let t = standing-ready m reals counts k (r + (6 * m + 1)) (c + (3 * m + 2)) s.2 in
    record { holding = (s.0, t.holding); room = omega (arith, t.room); places = omega (arith, t.places) }

holding-same : (m : ℕ) (counts counts' : List ℕ) (k c : ℕ) → ((lo hi : ℕ) → c ≤ lo → Same 0 lo hi counts' counts) → Holding m counts k c → Holding m counts' k c
unfolding Holding axis_counts
holding-same m counts counts' zero c v d = tt
holding-same m counts counts' (suc k) c v d = (
  omega (arith, (v c (c + 1) (omega arith)).cells c (omega arith) (omega arith), d.0),
  holding-same m counts counts' k (c + (3 * m + 2)) (λ lo hi i. v lo hi (omega arith)) d.1,
)

module _ (m k r c : ℕ) (s : Memory) (d : Ready m (suc k) r c s) where
  ready-here : Here m r c s
  ready-here =
      let e : suc k * (6 * m + 1) ≡ (6 * m + 1) + k * (6 * m + 1) = omega arith in
      let f : suc k * (3 * m + 2) ≡ (3 * m + 2) + k * (3 * m + 2) = omega arith in
      record { room = omega (arith, d.room); places = omega (arith, d.places) }

  ready_held : get_or s.counts c 0 ≤ m
  unfolding Holding
  ready_held = d.holding.0

  ready-next : (t : Memory) → Inside m r c t s → Ready m k (r + (6 * m + 1)) (c + (3 * m + 2)) t
  unfolding Holding axis_counts
  ready-next t i =
      let e : suc k * (6 * m + 1) ≡ (6 * m + 1) + k * (6 * m + 1) = omega arith in
      let f : suc k * (3 * m + 2) ≡ (3 * m + 2) + k * (3 * m + 2) = omega arith in
      record {
        holding = holding-same m s.counts t.counts k (c + (3 * m + 2)) (λ lo hi j. i.apart.counts-above lo hi j) d.holding.1;
        room = omega (arith, d.room, (i.apart.reals-below 0 0 (omega arith)).size);
        places = omega (arith, d.places, (i.apart.counts-below 0 0 (omega arith)).size);
      }

-- what was found, and the axes after it
unfoldable pub read_axes : ℕ → ℕ → ℕ → ℕ → Outcome Memory → Outcome (List Axis)
read_axes m k r c o = record { eight = o.eight; nine = o.nine; after = axes_from m o.after.reals o.after.counts k r c }

module _ (rule : Rule) (values : List ℕ) (rate : Float) (m : ℕ) (w : Within m rule values) where
  -- nothing below the first axis is touched
  pub updates-below : (k r c : ℕ) (s : Memory) → Ready m k r c s → (lo hi lo' hi' : ℕ) → hi ≤ r → hi' ≤ c
      → Same nan lo hi (update_all_at rule values rate m k r c s).after.reals s.reals × Same 0 lo' hi' (update_all_at rule values rate m k r c s).after.counts s.counts
  unfolding update_all_at axis_reals axis_counts
  updates-below zero r c s d lo hi lo' hi' h l = (same_refl nan lo hi s.reals, same_refl 0 lo' hi' s.counts)
  updates-below (suc k) r c s d lo hi lo' hi' h l =
      let i = inside-update m r c s (ready-here m k r c s d) rule values rate w (ready_held m k r c s d) in
      let s₁ = (update_at rule values rate m r c s).after in
      let t = updates-below k (r + (6 * m + 1)) (c + (3 * m + 2)) s₁ (ready-next m k r c s d s₁ i) lo hi lo' hi' (omega arith) (omega arith) in
      (same-on nan lo hi _ _ _ t.0 (i.apart.reals-below lo hi h), same-on 0 lo' hi' _ _ _ t.1 (i.apart.counts-below lo' hi' l))

  -- the tie: findings and axes are the model's
  pub updated-axes : (floor : Float) (k r c : ℕ) (s : Memory) → Ready m k r c s
      → read_axes m k r c (update_all_at rule values rate m k r c s) ≡ update_all (plan_of rule values floor) rate (axes_from m s.reals s.counts k r c)
  unfolding read_axis read_axes update_all_at update_all axes_from axis_reals axis_counts
  updated-axes floor zero r c s d = refl
  updated-axes floor (suc k) r c s d =
      let here = ready-here m k r c s d in
      let held = ready_held m k r c s d in
      let r₁ = r + (6 * m + 1) in
      let c₁ = c + (3 * m + 2) in
      let u = update_at rule values rate m r c s in
      let s₁ = u.after in
      let i = inside-update m r c s here rule values rate w held in
      let next = ready-next m k r c s d s₁ i in
      let q = update_all_at rule values rate m k r₁ c₁ s₁ in
      let low = updates-below k r₁ c₁ s₁ next r r₁ c c₁ (omega arith) (omega arith) in
      let first = axis-same m s₁.reals q.after.reals s₁.counts q.after.counts r c (updated-held m r c s here held rule values rate w) (same-sym nan r r₁ _ _ low.0) (same-sym 0 c c₁ _ _ low.1) in
      let others = axes-same m s₁.reals s.reals s₁.counts s.counts k r₁ c₁ next.holding (i.apart.reals-above r₁ _ (omega arith)) (i.apart.counts-above c₁ _ (omega arith)) in
      let one = updated-axis m r c s here rule values rate floor w held in
      let rest = updated-axes floor k r₁ c₁ s₁ next ∙ ap (update_all (plan_of rule values floor) rate) others in
      ap (λ (x : Axis). record { eight = u.eight || q.eight; nine = u.nine || q.nine; after = x ∷ axes_from m q.after.reals q.after.counts k r₁ c₁ }) (sym first)
      ∙ ap₂ (λ (o : Outcome Axis) (p : Outcome (List Axis)). record { eight = o.eight || p.eight; nine = o.nine || p.nine; after = o.after ∷ p.after }) one rest

  -- nor is anything above the last
  pub updates-above : (k r c : ℕ) (s : Memory) → Ready m k r c s → (lo hi lo' hi' : ℕ) → r + k * (6 * m + 1) ≤ lo → c + k * (3 * m + 2) ≤ lo'
      → Same nan lo hi (update_all_at rule values rate m k r c s).after.reals s.reals × Same 0 lo' hi' (update_all_at rule values rate m k r c s).after.counts s.counts
  unfolding update_all_at axis_reals axis_counts
  updates-above zero r c s d lo hi lo' hi' h l = (same_refl nan lo hi s.reals, same_refl 0 lo' hi' s.counts)
  updates-above (suc k) r c s d lo hi lo' hi' h l =
      let e : suc k * (6 * m + 1) ≡ (6 * m + 1) + k * (6 * m + 1) = omega arith in
      let f : suc k * (3 * m + 2) ≡ (3 * m + 2) + k * (3 * m + 2) = omega arith in
      let i = inside-update m r c s (ready-here m k r c s d) rule values rate w (ready_held m k r c s d) in
      let s₁ = (update_at rule values rate m r c s).after in
      let t = updates-above k (r + (6 * m + 1)) (c + (3 * m + 2)) s₁ (ready-next m k r c s d s₁ i) lo hi lo' hi' (omega arith) (omega arith) in
      (same-on nan lo hi _ _ _ t.0 (i.apart.reals-above lo hi (omega arith)), same-on 0 lo' hi' _ _ _ t.1 (i.apart.counts-above lo' hi' (omega arith)))

  -- of a grid whose axes stand in lent memory
  pub updates-tied : (floor : Float) (reals : List Float) (counts : List ℕ) (k r c : ℕ) → Standing m reals counts k r c
      → read_axes m k r c (update_all_at rule values rate m k r c (memory reals counts)) ≡ update_all (plan_of rule values floor) rate (axes_from m reals counts k r c)
  updates-tied floor reals counts k r c s = updated-axes floor k r c (memory reals counts) (standing-ready m reals counts k r c s)

  -- each axis holds no more bins than it has room for
  pub updates-holding : (k r c : ℕ) (s : Memory) → Ready m k r c s → Holding m (update_all_at rule values rate m k r c s).after.counts k c
  unfolding Holding update_all_at axis_reals axis_counts
  updates-holding zero r c s d = tt
  updates-holding (suc k) r c s d =
      let here = ready-here m k r c s d in
      let held = ready_held m k r c s d in
      let i = inside-update m r c s here rule values rate w held in
      let s₁ = (update_at rule values rate m r c s).after in
      let next = ready-next m k r c s d s₁ i in
      let low = (updates-below k (r + (6 * m + 1)) (c + (3 * m + 2)) s₁ next 0 0 c (c + 1) (omega arith) (omega arith)).1.cells c (omega arith) (omega arith) in
      let first = updated-held m r c s here held rule values rate w in
      (omega (arith, low, first), updates-holding k (r + (6 * m + 1)) (c + (3 * m + 2)) s₁ next)
