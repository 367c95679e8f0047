-- An update keeps to its axis: whatever it finds, the memory outside the axis's own stretches stays.
use mathlib.Core.Path.{◌≡◌, refl, sym, ap, ap₂, ◌∙◌, subst}
use mathlib.Core.Bool.{Bool, true, false, not, cond, ◌&&◌, ◌||◌}
use mathlib.Core.List.{List}
use Prim.Native.Nat.{ℕ, suc, ◌+◌, ◌-◌, ◌*◌, ◌≤◌, ◌<◌}
use native.Mathlib.Numerals.{unary_clauses}
use native.Mathlib.Omega.{arith}
use lib.ListN.{length, get_or, drop, length-drop}
use lib.Seq.{length-take-le}
use lib.Ieee.{Float, eq}
use Rattle.doubles.specs.Numbers.{zero64}
use Rattle.doubles.specs.Total.{all_finite}
use Rattle.doubles.specs.Paper.{Paper, gives, refuses}
use Rattle.accumulator.specs.Record.{bounded}
use Rattle.axis.specs.Scans.{all_bounded}
use Rattle.recut.specs.Gather.{reaches_of}
use Rattle.recut.specs.Renew.{renew_of}
use Rattle.recut.proofs.Laws.{gathered-length, joined_length, renew-sound}
use Rattle.model.specs.Update.{Outcome}
use Rattle.lent.specs.declared.Rule.{Rule}
use Rattle.lent.specs.declared.Found.{Found}
use Rattle.lent.specs.Layout.{stretch, axis_reals, axis_counts}
use Rattle.lent.specs.Memory.{Memory, memory}
use Rattle.lent.specs.Drawn.{Standing}
use Rattle.lent.specs.Laid.{empty_at}
use Rattle.lent.specs.Renewed.{bins_to, Within, importances_at, counters_at, finding, found, kept_at, recut_into, recut_at, adapted_at, update_at, update_all_at}
use Rattle.lent.proofs.Same.{Same, same_refl, same-on}
use Rattle.lent.proofs.Standing.{next}
use Rattle.lent.proofs.Inside.{Here, Inside, inside-none, inside_on, inside-reals, inside-counts, inside-waitless, inside-empty, inside-edged}

-- a stretch that lies in memory is whole
pub stretch-length : {A : Type 0} (at n : ℕ) (xs : List A) → at + n ≤ length xs → length (stretch at n xs) ≡ n
unfolding stretch
stretch-length at n xs h = length-take-le n (drop at xs) (omega (arith, length-drop at xs))

-- what is gathered has an entry for each bin
module _ (m r c n : ℕ) (s : Memory) (N : n ≤ m) (h : Here m r c s) where
  pub importances-length : (averages : Bool) → length (importances_at averages m r n s.reals) ≡ n
  unfolding importances_at
  importances-length averages = gathered-length _ _ ∙ stretch-length (r + (m + 1)) n s.reals (omega (arith, h.room))

  pub counters-length : length (counters_at m c n s.counts) ≡ n
  unfolding counters_at
  counters-length = joined_length _ _ ∙ stretch-length (c + (2 * m + 2)) n s.counts (omega (arith, h.places))

module _ (m r c : ℕ) (s : Memory) (h : Here m r c s) where
  either : (b : Bool) (x y : Outcome Memory) → Inside m r c x.after s → Inside m r c y.after s → Inside m r c (cond b x y).after s
  either true x y u v = u
  either false x y u v = v

  inside-kept : (qs : List Float) (ns : List ℕ) → length qs ≤ m → length ns ≡ length qs → Inside m r c (kept_at m r c qs ns s) s
  unfolding kept_at
  inside-kept qs ns Q N =
      let a = inside-reals m r c (r + (m + 1)) (length qs) qs s h refl (omega arith) (omega arith) in
      let b = inside-counts m r c (c + (2 * m + 2)) (length ns) ns _ a.here refl (omega arith) (omega arith) in
      let d = inside-waitless m r c (length qs) Q _ b.here in
      inside_on m r c s _ _ d (inside_on m r c s _ _ b a)

  inside-into : (n recuts : ℕ) (p : Paper (List Float)) → n ≤ m → ((es : List Float) → p ≡ gives es → length es ≡ n + 1) → Inside m r c (recut_into m r c n recuts p s).after s
  unfolding recut_into
  inside-into n recuts (gives es) N k =
      let a = inside-edged m r c n N es s (k es refl) h in
      inside_on m r c s _ _ (inside-empty m r c n N recuts _ a.here) a
  inside-into n recuts (refuses j) N k = inside-none m r c s h

  module _ (rule : Rule) (values : List ℕ) (rate : Float) (w : Within m rule values) where
    inside-adapted : (qs : List Float) (ns : List ℕ) → length qs ≤ m → length ns ≡ length qs → Inside m r c (adapted_at rule values rate m r c qs ns s).after s
    unfolding adapted_at recut_at Within
    inside-adapted qs ns Q N =
        let recuts = get_or s.counts (c + 1) 0 in
        let n = bins_to rule values recuts in
        let stay = inside-none m r c s h in
        let p = renew_of (stretch r (length qs + 1) s.reals) qs ns rate (n + 1) in
        let cut = inside-into n (recuts + 1) p (w recuts) (λ es e. (renew-sound (stretch r (length qs + 1) s.reals) qs ns rate (n + 1) es e).1) in
        let recut = cond (not (bounded (recuts + 1))) (finding true false s) (recut_into m r c n (recuts + 1) p s) in
        let reset = cond (eq rate zero64) (finding false false (empty_at m r c (length qs) recuts s)) recut in
        let kept = cond (not (reaches_of rule.least ns)) (finding false false (kept_at m r c qs ns s)) reset in
        either (not (all_finite qs && all_bounded ns)) (finding true false s) kept stay
        (either (not (reaches_of rule.least ns)) (finding false false (kept_at m r c qs ns s)) reset (inside-kept qs ns Q N)
        (either (eq rate zero64) (finding false false (empty_at m r c (length qs) recuts s)) recut (inside-empty m r c (length qs) Q recuts s h)
        (either (not (bounded (recuts + 1))) (finding true false s) (recut_into m r c n (recuts + 1) p s) stay cut)))

    pub inside-update : get_or s.counts c 0 ≤ m → Inside m r c (update_at rule values rate m r c s).after s
    unfolding update_at
    inside-update N =
        let n = get_or s.counts c 0 in
        let q = importances-length m r c n s N h rule.averages in
        let k = counters-length m r c n s N h in
        inside-adapted (importances_at rule.averages m r n s.reals) (counters_at m c n s.counts) (omega arith) (k ∙ sym q)

-- ---- axis after axis

-- what was found before, and what an update finds
abbrev pub joined : Bool → Bool → Outcome Memory → Outcome Memory
joined eight nine o = finding (eight || o.eight) (nine || o.nine) o.after

or-false : (b : Bool) → (b || false) ≡ b
or-false true = refl
or-false false = refl

or_assoc : (a b c : Bool) → ((a || b) || c) ≡ (a || (b || c))
or_assoc true b c = refl
or_assoc false b c = refl

-- one axis more
whole-next : (rule : Rule) (values : List ℕ) (rate : Float) (m k done r c : ℕ) (eight nine : Bool) (f : Found) (s t : Memory) → done < k
    → found f t ≡ update_at rule values rate m r c s
    → joined (eight || f.eight) (nine || f.nine) (update_all_at rule values rate m (k - (done + 1)) (r + (6 * m + 1)) (c + (3 * m + 2)) t)
    ≡ joined eight nine (update_all_at rule values rate m (k - done) r c s)
unfolding update_all_at axis_reals axis_counts
whole-next rule values rate m k done r c eight nine f s t h e =
    let g : k - done ≡ suc (k - (done + 1)) = omega arith in
    let q = update_all_at rule values rate m (k - (done + 1)) (r + (6 * m + 1)) (c + (3 * m + 2)) t in
    ap₂ (λ (x y : Bool). finding x y q.after) (or_assoc eight f.eight q.eight) (or_assoc nine f.nine q.nine)
    ∙ ap (λ (u : Outcome Memory). let p = update_all_at rule values rate m (k - (done + 1)) (r + (6 * m + 1)) (c + (3 * m + 2)) u.after in joined eight nine (finding (u.eight || p.eight) (u.nine || p.nine) p.after)) e
    ∙ ap (λ (j : ℕ). joined eight nine (update_all_at rule values rate m j r c s)) (sym g)

module _ (rule : Rule) (values : List ℕ) (rate : Float) (m : ℕ) (reals₀ : List Float) (counts₀ : List ℕ) (k : ℕ) where
  -- the axes from the place of the next on stand as they did, and what is left to update, with what was found, is the whole
  pub record Going (o : Outcome Memory) (reals : List Float) (counts : List ℕ) (eight nine : Bool) (r c done : ℕ) : Type 0 where
    pub part : done ≤ k
    pub standing : Standing m reals₀ counts₀ (k - done) r c
    pub size : length reals ≡ length reals₀
    pub places : length counts ≡ length counts₀
    pub rest : (lo hi : ℕ) → c ≤ lo → Same 0 lo hi counts counts₀
    pub whole : joined eight nine (update_all_at rule values rate m (k - done) r c (memory reals counts)) ≡ o

  pub going-first : (r c : ℕ) → Standing m reals₀ counts₀ k r c → Going (update_all_at rule values rate m k r c (memory reals₀ counts₀)) reals₀ counts₀ false false r c 0
  going-first r c s =
      record { part = omega arith; standing = simp unary_clauses s; size = refl; places = refl; rest = λ lo hi h. same_refl 0 lo hi counts₀; whole = simp unary_clauses }

  module _ (o : Outcome Memory) (reals : List Float) (counts : List ℕ) (eight nine : Bool) (r c done : ℕ) (g : Going o reals counts eight nine r c done) where
    pub going_done : k ≤ done → finding eight nine (memory reals counts) ≡ o
    unfolding update_all_at
    going_done h =
        let e : k - done ≡ 0 = omega arith in
        let f : joined eight nine (finding false false (memory reals counts)) ≡ o = rw e at g.whole in
        ap₂ (λ (x y : Bool). finding x y (memory reals counts)) (sym (or-false eight)) (sym (or-false nine)) ∙ f

    module _ (h : done < k) where
      pub going-held : get_or counts c 0 ≤ m
      going-held =
          let n = next m reals₀ counts₀ k done r c h g.standing in
          omega (arith, n.held, (g.rest c (c + 1) (omega arith)).cells c (omega arith) (omega arith))

      pub going-here : Here m r c (memory reals counts)
      going-here =
          let n = next m reals₀ counts₀ k done r c h g.standing in
          record { room = omega (arith, n.room, g.size); places = omega (arith, n.places, g.places) }

      pub going_next : Within m rule values → (f b : Found) (reals' : List Float) (counts' : List ℕ) → found f (memory reals' counts') ≡ update_at rule values rate m r c (memory reals counts)
          → (b.eight ≡ (eight || f.eight)) × (b.nine ≡ (nine || f.nine)) → Going o reals' counts' b.eight b.nine (r + (6 * m + 1)) (c + (3 * m + 2)) (done + 1)
      going_next w f b reals' counts' e p =
          let s = memory reals counts in
          let n = next m reals₀ counts₀ k done r c h g.standing in
          let i = inside-update m r c s going-here rule values rate w going-held in
          let j : Inside m r c (memory reals' counts') s = subst (λ (t : Memory). Inside m r c t s) (sym (ap (λ (u : Outcome Memory). u.after) e)) i in
          record {
            part = omega arith;
            standing = n.rest;
            size = (j.apart.reals-below 0 0 (omega arith)).size ∙ g.size;
            places = (j.apart.counts-below 0 0 (omega arith)).size ∙ g.places;
            rest = λ lo hi l. same-on 0 lo hi counts' counts counts₀ (j.apart.counts-above lo hi l) (g.rest lo hi (omega arith));
            whole = rw (p.0, p.1) (whole-next rule values rate m k done r c eight nine f s (memory reals' counts') h e ∙ g.whole);
          }
