-- An axis laid down is read as the model's: empty on the edges that stand there, or fresh.
use mathlib.Core.Path.{◌≡◌, refl, sym, ap, ap₂, ◌∙◌, subst}
use mathlib.Core.List.{List, ◌∷◌, map}
use Prim.Native.Nat.{ℕ, zero, suc, ◌+◌, ◌*◌, ◌≤◌, ◌<◌}
use native.Mathlib.Omega.{arith}
use lib.ListN.{length, get_or, set, replicate, length-set, length-replicate, get_or-replicate, length-map, get_or-map}
use lib.Seq.{ext_get_or, get_or-set_same, get_or-set_other}
use lib.Ieee.{Float, nan}
use Rattle.doubles.specs.Numbers.{zero64}
use Rattle.accumulator.specs.Record.{fresh, with_waiting, with_extremes}
use Rattle.accumulator.specs.Steps.{cleared_of}
use Rattle.axis.specs.Edges.{even_edges}
use Rattle.axis.proofs.Fresh.{length-even}
use Rattle.model.specs.Axes.{Axis, empty_axis, fresh_axis}
use Rattle.lent.specs.Layout.{stretch, axis_reals, axis_counts, bin_record, bin_at, bins_from, axis_at, axes_from}
use Rattle.lent.specs.Memory.{Memory, memory, put, over_axes, Asked}
use Rattle.lent.specs.Laid.{cleared_reals, cleared_counts, waitless_at, forgotten_at, headed_at, empty_at, edged_at, lay_at}
use Rattle.lent.proofs.Same.{Same, same-sym, same-on, same-set-below, same-put-below, same-put-above, get_d-put-in, stretch-put, get_d-stretch, stretch-same}
use Rattle.lent.proofs.Reading.{length-bins, get_d-all, axis-same}
use Rattle.lent.proofs.Over.{Local, Frames, over_below, over-above}
use Rattle.lent.proofs.Inside.{Here, Inside, inside_on, inside-waitless, inside-forgotten, inside-empty, inside-edged}
use Rattle.lent.proofs.Changes.{stretch-length}

-- ---- columns of one number

module _ {A : Type 0} where
  -- the n entries from a place on are all z
  abbrev pub Filled : A → A → ℕ → ℕ → List A → Type 0
  Filled d z at n xs = (i : ℕ) → i < n → get_or xs (at + i) d ≡ z

  filled_put : (d z : A) (at n : ℕ) (xs : List A) → at + n ≤ length xs → Filled d z at n (put at n (replicate n z) xs)
  filled_put d z at n xs h i k =
      get_d-put-in d at n i (replicate n z) xs (omega arith) (omega (arith, length-replicate n z)) ∙ get_or-replicate n i z d k

  pub filled-same : (d z : A) (at n : ℕ) (ys xs : List A) → Same d at (at + n) ys xs → Filled d z at n xs → Filled d z at n ys
  filled-same d z at n ys xs s f i k = s.cells (at + i) (omega arith) (omega arith) ∙ f i k

  filled-stretch : (d z : A) (at n : ℕ) (xs : List A) → at + n ≤ length xs → Filled d z at n xs → stretch at n xs ≡ replicate n z
  filled-stretch d z at n xs h f =
      ext_get_or d (stretch at n xs) (replicate n z) (stretch-length at n xs h ∙ sym (length-replicate n z)) (λ i k.
      let j : i < n = omega (arith, stretch-length at n xs h) in
      get_d-stretch d at n i xs j ∙ f i j ∙ sym (get_or-replicate n i z d j))

-- zeros from a place on: there, and nowhere else
module _ (at n : ℕ) (xs : List Float) (h : at + n ≤ length xs) where
  zeros-there : Filled nan zero64 at n (cleared_reals at n xs)
  unfolding cleared_reals
  zeros-there = filled_put nan zero64 at n xs h

  zeros-below : (lo hi : ℕ) → hi ≤ at → Same nan lo hi (cleared_reals at n xs) xs
  unfolding cleared_reals
  zeros-below lo hi k = same-put-above nan lo hi at n (replicate n zero64) xs h (length-replicate n zero64) k

  zeros-above : (lo hi : ℕ) → at + n ≤ lo → Same nan lo hi (cleared_reals at n xs) xs
  unfolding cleared_reals
  zeros-above lo hi k = same-put-below nan lo hi at n (replicate n zero64) xs h (length-replicate n zero64) k

module _ (at n : ℕ) (xs : List ℕ) (h : at + n ≤ length xs) where
  none-there : Filled 0 0 at n (cleared_counts at n xs)
  unfolding cleared_counts
  none-there = filled_put 0 0 at n xs h

  none_below : (lo hi : ℕ) → hi ≤ at → Same 0 lo hi (cleared_counts at n xs) xs
  unfolding cleared_counts
  none_below lo hi k = same-put-above 0 lo hi at n (replicate n 0) xs h (length-replicate n 0) k

  none_above : (lo hi : ℕ) → at + n ≤ lo → Same 0 lo hi (cleared_counts at n xs) xs
  unfolding cleared_counts
  none_above lo hi k = same-put-below 0 lo hi at n (replicate n 0) xs h (length-replicate n 0) k

-- ---- nothing waits

module _ (m r c n : ℕ) (N : n ≤ m) where
  -- s' is s without what waits in n bins
  pub record Waitless (s' s : Memory) : Type 0 where
    pub sums : Filled nan zero64 (r + (2 * m + 1)) n s'.reals
    pub squares : Filled nan zero64 (r + (3 * m + 1)) n s'.reals
    pub waiting : Filled 0 0 (c + 2) n s'.counts
    pub zeros : Filled 0 0 (c + (m + 2)) n s'.counts
    pub front : (lo hi : ℕ) → hi ≤ r + (2 * m + 1) → Same nan lo hi s'.reals s.reals
    pub extremes : (lo hi : ℕ) → r + (4 * m + 1) ≤ lo → Same nan lo hi s'.reals s.reals
    pub head : (lo hi : ℕ) → hi ≤ c + 2 → Same 0 lo hi s'.counts s.counts
    pub counters : (lo hi : ℕ) → c + (2 * m + 2) ≤ lo → Same 0 lo hi s'.counts s.counts

  pub waitless-is : (s : Memory) → Here m r c s → Waitless (waitless_at m r c n s) s
  unfolding waitless_at
  waitless-is s h =
      let R₁ = cleared_reals (r + (2 * m + 1)) n s.reals in
      let R₂ = cleared_reals (r + (3 * m + 1)) n R₁ in
      let C₁ = cleared_counts (c + 2) n s.counts in
      let C₂ = cleared_counts (c + (m + 2)) n C₁ in
      let h₁ : r + (2 * m + 1) + n ≤ length s.reals = omega (arith, h.room) in
      let k₁ : c + 2 + n ≤ length s.counts = omega (arith, h.places) in
      let h₂ : r + (3 * m + 1) + n ≤ length R₁ = omega (arith, h.room, (zeros-below (r + (2 * m + 1)) n s.reals h₁ 0 0 (omega arith)).size) in
      let k₂ : c + (m + 2) + n ≤ length C₁ = omega (arith, h.places, (none_below (c + 2) n s.counts k₁ 0 0 (omega arith)).size) in
      record {
        sums =
            filled-same nan zero64 (r + (2 * m + 1)) n R₂ R₁ (zeros-below (r + (3 * m + 1)) n R₁ h₂ _ _ (omega arith)) (zeros-there (r + (2 * m + 1)) n s.reals h₁);
        squares = zeros-there (r + (3 * m + 1)) n R₁ h₂;
        waiting = filled-same 0 0 (c + 2) n C₂ C₁ (none_below (c + (m + 2)) n C₁ k₂ _ _ (omega arith)) (none-there (c + 2) n s.counts k₁);
        zeros = none-there (c + (m + 2)) n C₁ k₂;
        front = λ lo hi i. same-on nan lo hi R₂ R₁ s.reals (zeros-below (r + (3 * m + 1)) n R₁ h₂ lo hi (omega arith)) (zeros-below (r + (2 * m + 1)) n s.reals h₁ lo hi i);
        extremes = λ lo hi i. same-on nan lo hi R₂ R₁ s.reals (zeros-above (r + (3 * m + 1)) n R₁ h₂ lo hi (omega arith)) (zeros-above (r + (2 * m + 1)) n s.reals h₁ lo hi (omega arith));
        head = λ lo hi i. same-on 0 lo hi C₂ C₁ s.counts (none_below (c + (m + 2)) n C₁ k₂ lo hi (omega arith)) (none_below (c + 2) n s.counts k₁ lo hi i);
        counters = λ lo hi i. same-on 0 lo hi C₂ C₁ s.counts (none_above (c + (m + 2)) n C₁ k₂ lo hi (omega arith)) (none_above (c + 2) n s.counts k₁ lo hi (omega arith));
      }

  -- ---- nothing is remembered

  record Forgotten (s' s : Memory) : Type 0 where
    pub importances : Filled nan zero64 (r + (m + 1)) n s'.reals
    pub highest : Filled nan zero64 (r + (4 * m + 1)) n s'.reals
    pub lowest : Filled nan zero64 (r + (5 * m + 1)) n s'.reals
    pub counters : Filled 0 0 (c + (2 * m + 2)) n s'.counts
    pub edges : (lo hi : ℕ) → hi ≤ r + (m + 1) → Same nan lo hi s'.reals s.reals
    pub sums : (lo hi : ℕ) → r + (2 * m + 1) ≤ lo → hi ≤ r + (4 * m + 1) → Same nan lo hi s'.reals s.reals
    pub front : (lo hi : ℕ) → hi ≤ c + (2 * m + 2) → Same 0 lo hi s'.counts s.counts

  forgotten-is : (s : Memory) → Here m r c s → Forgotten (forgotten_at m r c n s) s
  unfolding forgotten_at
  forgotten-is s h =
      let R₁ = cleared_reals (r + (m + 1)) n s.reals in
      let R₂ = cleared_reals (r + (4 * m + 1)) n R₁ in
      let R₃ = cleared_reals (r + (5 * m + 1)) n R₂ in
      let h₁ : r + (m + 1) + n ≤ length s.reals = omega (arith, h.room) in
      let e₁ = (zeros-below (r + (m + 1)) n s.reals h₁ 0 0 (omega arith)).size in
      let h₂ : r + (4 * m + 1) + n ≤ length R₁ = omega (arith, h.room, e₁) in
      let e₂ = (zeros-below (r + (4 * m + 1)) n R₁ h₂ 0 0 (omega arith)).size in
      let h₃ : r + (5 * m + 1) + n ≤ length R₂ = omega (arith, h.room, e₁, e₂) in
      let k : c + (2 * m + 2) + n ≤ length s.counts = omega (arith, h.places) in
      let up₂ = zeros-below (r + (4 * m + 1)) n R₁ h₂ in
      let up₃ = zeros-below (r + (5 * m + 1)) n R₂ h₃ in
      record {
        importances =
            filled-same nan zero64 (r + (m + 1)) n R₃ R₁ (same-on nan _ _ R₃ R₂ R₁ (up₃ _ _ (omega arith)) (up₂ _ _ (omega arith))) (zeros-there (r + (m + 1)) n s.reals h₁);
        highest = filled-same nan zero64 (r + (4 * m + 1)) n R₃ R₂ (up₃ _ _ (omega arith)) (zeros-there (r + (4 * m + 1)) n R₁ h₂);
        lowest = zeros-there (r + (5 * m + 1)) n R₂ h₃;
        counters = none-there (c + (2 * m + 2)) n s.counts k;
        edges = λ lo hi i. same-on nan lo hi R₃ R₂ s.reals (up₃ lo hi (omega arith)) (same-on nan lo hi R₂ R₁ s.reals (up₂ lo hi (omega arith)) (zeros-below (r + (m + 1)) n s.reals h₁ lo hi i));
        sums = λ lo hi i j. same-on nan lo hi R₃ R₂ s.reals (up₃ lo hi (omega arith)) (same-on nan lo hi R₂ R₁ s.reals (up₂ lo hi j) (zeros-above (r + (m + 1)) n s.reals h₁ lo hi (omega arith)));
        front = λ lo hi i. none_below (c + (2 * m + 2)) n s.counts k lo hi i;
      }

-- ---- an axis out of its columns

pub axis-is : (m r c n : ℕ) (reals : List Float) (counts : List ℕ) (ax : Axis) → get_or counts c 0 ≡ n → stretch r (n + 1) reals ≡ ax.edges
    → bins_from m reals counts r c 0 n ≡ ax.bins → stretch (r + (m + 1)) n reals ≡ ax.importances → stretch (c + (2 * m + 2)) n counts ≡ ax.counters
    → get_or counts (c + 1) 0 ≡ ax.recuts → axis_at m reals counts r c ≡ ax
unfolding axis_at
axis-is m r c n reals counts ax h e b q k u =
    ap (λ (j : ℕ). record {
      edges = stretch r (j + 1) reals;
      bins = bins_from m reals counts r c 0 j;
      importances = stretch (r + (m + 1)) j reals;
      counters = stretch (c + (2 * m + 2)) j counts;
      recuts = get_or counts (c + 1) 0;
    }) h
    ∙ rw (e, b, q, k, u)

-- six columns of zeros are fresh records
fresh-record : bin_record zero64 zero64 zero64 zero64 0 0 ≡ fresh
unfolding bin_record with_extremes with_waiting fresh
fresh-record = refl

module _ (m r c n : ℕ) (reals : List Float) (counts : List ℕ) (sums : Filled nan zero64 (r + (2 * m + 1)) n reals) (squares : Filled nan zero64 (r + (3 * m + 1)) n reals)
    (waiting : Filled 0 0 (c + 2) n counts) (zeros : Filled 0 0 (c + (m + 2)) n counts) where
  fresh-bins : Filled nan zero64 (r + (4 * m + 1)) n reals → Filled nan zero64 (r + (5 * m + 1)) n reals → bins_from m reals counts r c 0 n ≡ replicate n fresh
  unfolding bin_at
  fresh-bins highest lowest =
      ext_get_or fresh (bins_from m reals counts r c 0 n) (replicate n fresh) (length-bins m reals counts r c 0 n ∙ sym (length-replicate n fresh)) (λ i k.
      let j : i < n = omega (arith, length-bins m reals counts r c 0 n) in
      let here : bin_at m reals counts r c i ≡ fresh = rw (sums i j, squares i j, highest i j, lowest i j, waiting i j, zeros i j) fresh-record in
      get_d-all m reals counts fresh r c n i j ∙ here ∙ sym (get_or-replicate n i fresh fresh j))

  cleared-record : (s q h l : Float) (w z : ℕ) → bin_record zero64 zero64 h l 0 0 ≡ cleared_of (bin_record s q h l w z)
  unfolding bin_record with_extremes with_waiting fresh cleared_of
  cleared-record s q h l w z = refl

  -- with the extremes that stood there they are cleared records
  pub cleared-bins : (reals' : List Float) (counts' : List ℕ) → n ≤ m → Same nan (r + (4 * m + 1)) (r + (6 * m + 1)) reals reals'
      → bins_from m reals counts r c 0 n ≡ map cleared_of (bins_from m reals' counts' r c 0 n)
  unfolding bin_at
  cleared-bins reals' counts' N extremes =
      ext_get_or (cleared_of fresh) (bins_from m reals counts r c 0 n) (map cleared_of (bins_from m reals' counts' r c 0 n))
      (length-bins m reals counts r c 0 n ∙ sym (length-map (bins_from m reals' counts' r c 0 n) cleared_of ∙ length-bins m reals' counts' r c 0 n)) (λ i k.
      let j : i < n = omega (arith, length-bins m reals counts r c 0 n) in
      let highest = extremes.cells (r + (4 * m + 1) + i) (omega arith) (omega arith) in
      let lowest = extremes.cells (r + (5 * m + 1) + i) (omega arith) (omega arith) in
      let here : bin_at m reals counts r c i ≡ cleared_of (bin_at m reals' counts' r c i) = rw (sums i j, squares i j, highest, lowest, waiting i j, zeros i j) (cleared-record _ _ _ _ _ _) in
      get_d-all m reals counts (cleared_of fresh) r c n i j
      ∙ here
      ∙ sym (get_or-map cleared_of (bins_from m reals' counts' r c 0 n) i fresh ∙ ap cleared_of (get_d-all m reals' counts' fresh r c n i j)))

-- ---- an empty axis

module _ (m r c n recuts : ℕ) (s : Memory) (N : n ≤ m) (h : Here m r c s) where
  abbrev S₁ : Memory
  S₁ = waitless_at m r c n s

  abbrev S₂ : Memory
  S₂ = forgotten_at m r c n S₁

  abbrev C : List ℕ
  C = set (set S₂.counts c n) (c + 1) recuts

  in₁ : Here m r c S₁
  in₁ = (inside-waitless m r c n N s h).here

  in₂ : Here m r c S₂
  in₂ = (inside-forgotten m r c n N S₁ in₁).here

  -- the numbers at the head of the counts leave what follows them
  headed : (lo hi : ℕ) → c + 2 ≤ lo → Same 0 lo hi C S₂.counts
  headed lo hi i =
      same-on 0 lo hi C (set S₂.counts c n) S₂.counts (same-set-below 0 lo hi (c + 1) recuts (set S₂.counts c n) (omega arith)) (same-set-below 0 lo hi c n S₂.counts (omega arith))

  held : get_or C c 0 ≡ n
  held =
      get_or-set_other (set S₂.counts c n) (c + 1) c recuts 0 (λ (e : c ≡ c + 1). absurd (omega arith)) ∙ get_or-set_same S₂.counts c n 0 (omega (arith, in₂.places))

  counted : get_or C (c + 1) 0 ≡ recuts
  counted = get_or-set_same (set S₂.counts c n) (c + 1) recuts 0 (omega (arith, in₂.places, length-set S₂.counts c n))

  pub emptied-axis : axis_at m (empty_at m r c n recuts s).reals (empty_at m r c n recuts s).counts r c ≡ empty_axis (stretch r (n + 1) s.reals) n recuts
  unfolding empty_at headed_at empty_axis
  emptied-axis =
      let w = waitless-is m r c n N s h in
      let f = forgotten-is m r c n N S₁ in₁ in
      let R₁ = S₁.reals in
      let R = S₂.reals in
      let sums = filled-same nan zero64 (r + (2 * m + 1)) n R R₁ (f.sums _ _ (omega arith) (omega arith)) w.sums in
      let squares = filled-same nan zero64 (r + (3 * m + 1)) n R R₁ (f.sums _ _ (omega arith) (omega arith)) w.squares in
      let waiting = filled-same 0 0 (c + 2) n C S₂.counts (headed _ _ (omega arith)) (filled-same 0 0 (c + 2) n S₂.counts S₁.counts (f.front _ _ (omega arith)) w.waiting) in
      let zeros = filled-same 0 0 (c + (m + 2)) n C S₂.counts (headed _ _ (omega arith)) (filled-same 0 0 (c + (m + 2)) n S₂.counts S₁.counts (f.front _ _ (omega arith)) w.zeros) in
      let counters = filled-same 0 0 (c + (2 * m + 2)) n C S₂.counts (headed _ _ (omega arith)) f.counters in
      let size = (headed (c + 2) (c + 2) (omega arith)).size in
      let edges = stretch-same nan r (r + (m + 1)) r (n + 1) R s.reals
      (same-on nan _ _ R R₁ s.reals (f.edges _ _ (omega arith)) (w.front _ _ (omega arith))) (omega arith) (omega arith) in
      axis-is m r c n R C (empty_axis (stretch r (n + 1) s.reals) n recuts) held edges (fresh-bins m r c n R C sums squares waiting zeros f.highest f.lowest)
      (filled-stretch nan zero64 (r + (m + 1)) n R (omega (arith, in₂.room)) f.importances) (filled-stretch 0 0 (c + (2 * m + 2)) n C (omega (arith, in₂.places, size)) counters)
      counted

  pub emptied-held : get_or (empty_at m r c n recuts s).counts c 0 ≡ n
  unfolding empty_at headed_at
  emptied-held = held

-- on other edges
pub edged-axis : (m r c n recuts : ℕ) (es : List Float) (s : Memory) → n ≤ m → Here m r c s → length es ≡ n + 1
    → axis_at m (empty_at m r c n recuts (edged_at r (n + 1) es s)).reals (empty_at m r c n recuts (edged_at r (n + 1) es s)).counts r c ≡ empty_axis es n recuts
unfolding edged_at
edged-axis m r c n recuts es s N h e =
    emptied-axis m r c n recuts (memory (put r (n + 1) es s.reals) s.counts) N (inside-edged m r c n N es s e h).here
    ∙ ap (λ (l : List Float). empty_axis l n recuts) (stretch-put r (n + 1) es s.reals (omega (arith, h.room)) e)

-- ---- a fresh axis

pub laid-axis : (m r c n : ℕ) (s : Memory) → n ≤ m → Here m r c s → axis_at m (lay_at m r c n s).reals (lay_at m r c n s).counts r c ≡ fresh_axis n
unfolding lay_at fresh_axis even_edges
laid-axis m r c n s N h = edged-axis m r c n 0 (even_edges n) s N h (length-even (n + 1) 0 n)

laid-inside : (m r c n : ℕ) (s : Memory) → n ≤ m → Here m r c s → Inside m r c (lay_at m r c n s) s
unfolding lay_at even_edges
laid-inside m r c n s N h =
    let a = inside-edged m r c n N (even_edges n) s (length-even (n + 1) 0 n) h in
    inside_on m r c s _ _ (inside-empty m r c n N 0 _ a.here) a

laid-held : (m r c n : ℕ) (s : Memory) → n ≤ m → Here m r c s → get_or (lay_at m r c n s).counts c 0 ≡ n
unfolding lay_at even_edges
laid-held m r c n s N h = emptied-held m r c n 0 _ N (inside-edged m r c n N (even_edges n) s (length-even (n + 1) 0 n) h).here

-- ---- fresh axes one after the other

module _ (m n : ℕ) (N : n ≤ m) where
  -- what laying an axis asks, of lengths alone
  abbrev Fits : ℕ → ℕ → ℕ → Memory → Type 0
  Fits r c x s = (x ≤ m) × Here m r c s

  fits-local : Local m (lay_at m) Fits
  fits-local r c x s s' u v p = (p.0, record { room = omega (arith, u.size, p.1.room); places = omega (arith, v.size, p.1.places) })

  fits-frames : Frames m (lay_at m) Fits
  fits-frames r c x s p = (laid-inside m r c x s p.0 p.1).apart

  fits_all : (k r c : ℕ) (s : Memory) → r + k * (6 * m + 1) ≤ length s.reals → c + k * (3 * m + 2) ≤ length s.counts → Asked Fits m (replicate k n) r c s
  unfolding Asked axis_reals axis_counts
  fits_all zero r c s h l = tt
  fits_all (suc k) r c s h l =
      let e : suc k * (6 * m + 1) ≡ (6 * m + 1) + k * (6 * m + 1) = omega arith in
      let f : suc k * (3 * m + 2) ≡ (3 * m + 2) + k * (3 * m + 2) = omega arith in
      ((N, record { room = omega arith; places = omega arith }), fits_all k (r + (6 * m + 1)) (c + (3 * m + 2)) s (omega arith) (omega arith))

  pub laid-axes : (k r c : ℕ) (s : Memory) → r + k * axis_reals m ≤ length s.reals → c + k * axis_counts m ≤ length s.counts
      → axes_from m (over_axes (lay_at m) m (replicate k n) r c s).reals (over_axes (lay_at m) m (replicate k n) r c s).counts k r c ≡ replicate k (fresh_axis n)
  unfolding over_axes axes_from axis_reals axis_counts
  laid-axes zero r c s h l = refl
  laid-axes (suc k) r c s h l =
      let e : suc k * (6 * m + 1) ≡ (6 * m + 1) + k * (6 * m + 1) = omega arith in
      let f : suc k * (3 * m + 2) ≡ (3 * m + 2) + k * (3 * m + 2) = omega arith in
      let here : Here m r c s = record { room = omega arith; places = omega arith } in
      let s₁ = lay_at m r c n s in
      let r₁ = r + (6 * m + 1) in
      let c₁ = c + (3 * m + 2) in
      let i = laid-inside m r c n s N here in
      let h₁ : r₁ + k * (6 * m + 1) ≤ length s₁.reals = omega (arith, (i.apart.reals-below 0 0 (omega arith)).size) in
      let l₁ : c₁ + k * (3 * m + 2) ≤ length s₁.counts = omega (arith, (i.apart.counts-below 0 0 (omega arith)).size) in
      let end = over_axes (lay_at m) m (replicate k n) r₁ c₁ s₁ in
      let low = over_below m (lay_at m) Fits fits-local fits-frames (replicate k n) r₁ c₁ s₁ (fits_all k r₁ c₁ s₁ h₁ l₁) r r₁ c c₁ (omega arith) (omega arith) in
      let held : get_or s₁.counts c 0 ≤ m = omega (arith, laid-held m r c n s N here) in
      let first = sym (axis-same m s₁.reals end.reals s₁.counts end.counts r c held (same-sym nan r r₁ _ _ low.0) (same-sym 0 c c₁ _ _ low.1)) ∙ laid-axis m r c n s N here in
      ap₂ (λ (b : Axis) (bs : List Axis). b ∷ bs) first (laid-axes k r₁ c₁ s₁ h₁ l₁)

  -- nothing below the first axis is touched, nor above the last
  pub lays-below : (k r c : ℕ) (s : Memory) → r + k * (6 * m + 1) ≤ length s.reals → c + k * (3 * m + 2) ≤ length s.counts → (lo hi lo' hi' : ℕ) → hi ≤ r → hi' ≤ c
      → Same nan lo hi (over_axes (lay_at m) m (replicate k n) r c s).reals s.reals × Same 0 lo' hi' (over_axes (lay_at m) m (replicate k n) r c s).counts s.counts
  lays-below k r c s h l = over_below m (lay_at m) Fits fits-local fits-frames (replicate k n) r c s (fits_all k r c s h l)

  pub lays-above : (k r c : ℕ) (s : Memory) → r + k * (6 * m + 1) ≤ length s.reals → c + k * (3 * m + 2) ≤ length s.counts
      → (lo hi lo' hi' : ℕ) → r + k * (6 * m + 1) ≤ lo → c + k * (3 * m + 2) ≤ lo'
      → Same nan lo hi (over_axes (lay_at m) m (replicate k n) r c s).reals s.reals × Same 0 lo' hi' (over_axes (lay_at m) m (replicate k n) r c s).counts s.counts
  lays-above k r c s h l lo hi lo' hi' i j =
      let e = length-replicate k n in
      over-above m (lay_at m) Fits fits-local fits-frames (replicate k n) r c s (fits_all k r c s h l) lo hi lo' hi'
      (subst (λ (q : ℕ). r + q * (6 * m + 1) ≤ lo) (sym e) i) (subst (λ (q : ℕ). c + q * (3 * m + 2) ≤ lo') (sym e) j)
