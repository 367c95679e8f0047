-- Writes that keep to an axis's own stretches: each leaves all memory outside them, and the lengths.
use mathlib.Core.Path.{◌≡◌}
use mathlib.Core.List.{List}
use Prim.Native.Nat.{ℕ, suc, ◌+◌, ◌*◌, ◌≤◌, ◌<◌}
use native.Mathlib.Omega.{arith}
use lib.ListN.{length, set, replicate, length-replicate}
use lib.Ieee.{Float, nan}
use Rattle.doubles.specs.Numbers.{zero64}
use Rattle.lent.specs.Memory.{Memory, memory, put}
use Rattle.lent.specs.Laid.{cleared_reals, cleared_counts, waitless_at, forgotten_at, headed_at, empty_at, edged_at}
use Rattle.lent.proofs.Same.{same_refl, same-on, same-set-below, same-set-above, same-put-below, same-put-above, length-put}
use Rattle.lent.proofs.Over.{Apart}

-- the stretches of an axis of at most m bins lie in memory
pub record Here (m r c : ℕ) (s : Memory) : Type 0 where
  pub room : r + (6 * m + 1) ≤ length s.reals
  pub places : c + (3 * m + 2) ≤ length s.counts

-- s' is s outside the axis, which lies in it still
pub record Inside (m r c : ℕ) (s' s : Memory) : Type 0 where
  pub apart : Apart m r c s' s
  pub here : Here m r c s'

module _ (m r c : ℕ) where
  pub inside-none : (s : Memory) → Here m r c s → Inside m r c s s
  inside-none s h =
      record {
        apart =
            record {
              reals-below = λ lo hi k. same_refl nan lo hi s.reals;
              reals-above = λ lo hi k. same_refl nan lo hi s.reals;
              counts-below = λ lo hi k. same_refl 0 lo hi s.counts;
              counts-above = λ lo hi k. same_refl 0 lo hi s.counts;
            };
        here = h;
      }

  pub inside_on : (s t u : Memory) → Inside m r c u t → Inside m r c t s → Inside m r c u s
  inside_on s t u a b =
      record {
        apart =
            record {
              reals-below = λ lo hi k. same-on nan lo hi u.reals t.reals s.reals (a.apart.reals-below lo hi k) (b.apart.reals-below lo hi k);
              reals-above = λ lo hi k. same-on nan lo hi u.reals t.reals s.reals (a.apart.reals-above lo hi k) (b.apart.reals-above lo hi k);
              counts-below = λ lo hi k. same-on 0 lo hi u.counts t.counts s.counts (a.apart.counts-below lo hi k) (b.apart.counts-below lo hi k);
              counts-above = λ lo hi k. same-on 0 lo hi u.counts t.counts s.counts (a.apart.counts-above lo hi k) (b.apart.counts-above lo hi k);
            };
        here = a.here;
      }

  -- reals put within the axis, counts put or set within it
  pub inside-reals : (at n : ℕ) (ys : List Float) (s : Memory) → Here m r c s → length ys ≡ n → r ≤ at → at + n ≤ r + (6 * m + 1)
      → Inside m r c (memory (put at n ys s.reals) s.counts) s
  inside-reals at n ys s h e lo' hi' =
      let k : at + n ≤ length s.reals = omega (arith, h.room) in
      record {
        apart =
            record {
              reals-below = λ lo hi i. same-put-above nan lo hi at n ys s.reals k e (omega arith);
              reals-above = λ lo hi i. same-put-below nan lo hi at n ys s.reals k e (omega arith);
              counts-below = λ lo hi i. same_refl 0 lo hi s.counts;
              counts-above = λ lo hi i. same_refl 0 lo hi s.counts;
            };
        here = record { room = omega (arith, h.room, length-put at n ys s.reals k e); places = h.places };
      }

  pub inside-counts : (at n : ℕ) (ys : List ℕ) (s : Memory) → Here m r c s → length ys ≡ n → c ≤ at → at + n ≤ c + (3 * m + 2)
      → Inside m r c (memory s.reals (put at n ys s.counts)) s
  inside-counts at n ys s h e lo' hi' =
      let k : at + n ≤ length s.counts = omega (arith, h.places) in
      record {
        apart =
            record {
              reals-below = λ lo hi i. same_refl nan lo hi s.reals;
              reals-above = λ lo hi i. same_refl nan lo hi s.reals;
              counts-below = λ lo hi i. same-put-above 0 lo hi at n ys s.counts k e (omega arith);
              counts-above = λ lo hi i. same-put-below 0 lo hi at n ys s.counts k e (omega arith);
            };
        here = record { room = h.room; places = omega (arith, h.places, length-put at n ys s.counts k e) };
      }

  pub inside-set : (at v : ℕ) (s : Memory) → Here m r c s → c ≤ at → at < c + (3 * m + 2) → Inside m r c (memory s.reals (set s.counts at v)) s
  inside-set at v s h lo' hi' =
      record {
        apart =
            record {
              reals-below = λ lo hi i. same_refl nan lo hi s.reals;
              reals-above = λ lo hi i. same_refl nan lo hi s.reals;
              counts-below = λ lo hi i. same-set-above 0 lo hi at v s.counts (omega arith);
              counts-above = λ lo hi i. same-set-below 0 lo hi at v s.counts (omega arith);
            };
        here = record { room = h.room; places = omega (arith, h.places, (same-set-below 0 (suc at) (suc at) at v s.counts (omega arith)).size) };
      }

  -- ---- the parts of an emptied axis

  inside-cleared-reals : (at n : ℕ) (s : Memory) → Here m r c s → r ≤ at → at + n ≤ r + (6 * m + 1) → Inside m r c (memory (cleared_reals at n s.reals) s.counts) s
  unfolding cleared_reals
  inside-cleared-reals at n s h lo hi = inside-reals at n (replicate n zero64) s h (length-replicate n zero64) lo hi

  inside-cleared-counts : (at n : ℕ) (s : Memory) → Here m r c s → c ≤ at → at + n ≤ c + (3 * m + 2) → Inside m r c (memory s.reals (cleared_counts at n s.counts)) s
  unfolding cleared_counts
  inside-cleared-counts at n s h lo hi = inside-counts at n (replicate n 0) s h (length-replicate n 0) lo hi

  module _ (n : ℕ) (N : n ≤ m) where
    pub inside-waitless : (s : Memory) → Here m r c s → Inside m r c (waitless_at m r c n s) s
    unfolding waitless_at
    inside-waitless s h =
        let a = inside-cleared-reals (r + (2 * m + 1)) n s h (omega arith) (omega arith) in
        let b = inside-cleared-reals (r + (3 * m + 1)) n _ a.here (omega arith) (omega arith) in
        let d = inside-cleared-counts (c + 2) n _ b.here (omega arith) (omega arith) in
        let e = inside-cleared-counts (c + (m + 2)) n _ d.here (omega arith) (omega arith) in
        inside_on s _ _ e (inside_on s _ _ d (inside_on s _ _ b a))

    pub inside-forgotten : (s : Memory) → Here m r c s → Inside m r c (forgotten_at m r c n s) s
    unfolding forgotten_at
    inside-forgotten s h =
        let a = inside-cleared-reals (r + (m + 1)) n s h (omega arith) (omega arith) in
        let b = inside-cleared-reals (r + (4 * m + 1)) n _ a.here (omega arith) (omega arith) in
        let d = inside-cleared-reals (r + (5 * m + 1)) n _ b.here (omega arith) (omega arith) in
        let e = inside-cleared-counts (c + (2 * m + 2)) n _ d.here (omega arith) (omega arith) in
        inside_on s _ _ e (inside_on s _ _ d (inside_on s _ _ b a))

    pub inside-headed : (recuts : ℕ) (s : Memory) → Here m r c s → Inside m r c (headed_at c n recuts s) s
    unfolding headed_at
    inside-headed recuts s h =
        let a = inside-set c n s h (omega arith) (omega arith) in
        let b = inside-set (c + 1) recuts _ a.here (omega arith) (omega arith) in
        inside_on s _ _ b a

    pub inside-empty : (recuts : ℕ) (s : Memory) → Here m r c s → Inside m r c (empty_at m r c n recuts s) s
    unfolding empty_at
    inside-empty recuts s h =
        let a = inside-waitless s h in
        let b = inside-forgotten _ a.here in
        let d = inside-headed recuts _ b.here in
        inside_on s _ _ d (inside_on s _ _ b a)

    pub inside-edged : (es : List Float) (s : Memory) → length es ≡ n + 1 → Here m r c s → Inside m r c (edged_at r (n + 1) es s) s
    unfolding edged_at
    inside-edged es s e h = inside-reals r (n + 1) es s h e (omega arith) (omega arith)
