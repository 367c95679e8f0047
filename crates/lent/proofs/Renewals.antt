-- The update of axes: the laws of its stages, in the code's shape.
use mathlib.Core.Path.{◌≡◌, refl, sym, ap, ap₂, ◌∙◌}
use mathlib.Core.List.{List, [], ◌∷◌}
use Prim.Native.Nat.{ℕ, zero, suc, ◌+◌, ◌-◌, ◌*◌, ◌^◌, ◌≤◌, ◌<◌}
use native.Mathlib.Omega.{arith}
use lib.ListN.{length, take, drop, get_or, get_or-eq_default}
use lib.Dec.{eqb, leb}
use lib.Ieee.{Float, eq}
use borrow.Author.Tests.{lt-leb, le-leb}
use Rattle.doubles.specs.Numbers.{zero64}
use Rattle.doubles.specs.Total.{all_finite}
use Rattle.doubles.proofs.Truth.{failed, passed}
use Rattle.accumulator.specs.Record.{bounded}
use Rattle.axis.specs.Scans.{all_bounded}
use Rattle.recut.specs.Gather.{gathered_of, joined_counts, reaches_of}
use mathlib.Core.Bool.{Bool, true, false, ◌&&◌}
use Rattle.doubles.specs.Paper.{Paper, gives, refuses}
use Rattle.std.specs.Prelude.{Result, Ok, Err}
use Rattle.doubles.specs.Refusal.{number_of}
use Rattle.doubles.specs.declared.refusal.Refusal.{Refusal}
use Rattle.recut.specs.Renew.{paper_renewed, renew_of}
use Rattle.model.specs.Update.{Outcome, last_or}
use Rattle.lent.specs.declared.Rule.{Rule}
use Rattle.lent.specs.Layout.{stretch}
use Rattle.lent.specs.Memory.{Memory, memory, put}
use Rattle.lent.specs.Laid.{empty_at, edged_at}
use Rattle.lent.specs.Renewed.{bins_to, Within, trained_from, importances_at, counters_at, finding, kept_at, recut_into, recut_at, adapted_at, update_at}
use Rattle.lent.proofs.Lays.{lent-stretch}

-- ---- the number of bins

last-is : (b : ℕ) (v : ℕ) (vs : List ℕ) → last_or b (v ∷ vs) ≡ get_or (v ∷ vs) (length vs) 0
unfolding last_or
last-is b v [] = refl
last-is b v (w ∷ vs) = last-is v w vs

last_of : (b : ℕ) (vs : List ℕ) → 0 < length vs → last_or b vs ≡ get_or vs (length vs - 1) 0
last_of b [] h = absurd (omega arith)
last_of b (v ∷ vs) h = let e : suc (length vs) - 1 ≡ length vs = omega arith in rw e (last-is b v vs)

get_d_any : (vs : List ℕ) (k d e : ℕ) → k < length vs → get_or vs k d ≡ get_or vs k e
get_d_any [] k d e h = absurd (omega arith)
get_d_any (v ∷ vs) zero d e h = refl
get_d_any (v ∷ vs) (suc k) d e h = get_d_any vs k d e (omega arith)

module _ (rule : Rule) (vs : List ℕ) (k : ℕ) where
  pub bins-none : length vs ≡ 0 → rule.bins ≡ bins_to rule vs k
  unfolding bins_to last_or
  bins-none h = none vs h
    where
      none : (vs : List ℕ) → length vs ≡ 0 → rule.bins ≡ get_or vs k (last_or rule.bins vs)
      none [] h = refl
      none (v ∷ vs) h = absurd (omega arith)

  pub bins-listed : k < length vs → get_or vs k 0 ≡ bins_to rule vs k
  unfolding bins_to
  bins-listed h = get_d_any vs k 0 (last_or rule.bins vs) h

  pub bins-last : 0 < length vs → length vs ≤ k → get_or vs (length vs - 1) 0 ≡ bins_to rule vs k
  unfolding bins_to
  bins-last h l = sym (get_or-eq_default vs (last_or rule.bins vs) l ∙ last_of rule.bins vs h)

pub within : (m n k : ℕ) (rule : Rule) (vs : List ℕ) → Within m rule vs → n ≡ bins_to rule vs k → n ≤ m
unfolding Within
within m n k rule vs w e = let h = w k in omega arith

-- values and bins of at most m
last_within : (m b : ℕ) (vs : List ℕ) → b ≤ m → ((i : ℕ) → i < length vs → get_or vs i 0 ≤ m) → last_or b vs ≤ m
unfolding last_or
last_within m b [] h v = h
last_within m b (x ∷ vs) h v = last_within m x vs (v 0 (omega arith)) (λ i k. v (suc i) (omega arith))

get_d-within : (m d : ℕ) (vs : List ℕ) (k : ℕ) → d ≤ m → ((i : ℕ) → i < length vs → get_or vs i 0 ≤ m) → get_or vs k d ≤ m
get_d-within m d [] k h v = h
get_d-within m d (x ∷ vs) zero h v = v 0 (omega arith)
get_d-within m d (x ∷ vs) (suc k) h v = get_d-within m d vs k h (λ i j. v (suc i) (omega arith))

pub within_all : (m : ℕ) (rule : Rule) (vs : List ℕ) → rule.bins ≤ m → ((i : ℕ) → i < length vs → get_or vs i 0 ≤ m) → Within m rule vs
unfolding Within bins_to
within_all m rule vs h v k = get_d-within m (last_or rule.bins vs) vs k (last_within m rule.bins vs h v) v

-- ---- the re-cut

module _ (m r c n recuts : ℕ) (qs : List Float) (ns : List ℕ) (rate : Float) (reals : List Float) (counts : List ℕ) (a : Result (Unit {0}) Refusal) (places : ℕ) (room : List Float)
    (h : places ≡ n + 1) (answer : paper_renewed a room ≡ renew_of (take (r + (length qs + 1) - r) (drop r reals)) qs ns rate places) where
  renewed-is : paper_renewed a room ≡ renew_of (stretch r (length qs + 1) reals) qs ns rate (n + 1)
  renewed-is = answer ∙ ap₂ (λ (es : List Float) (p : ℕ). renew_of es qs ns rate p) (lent-stretch r (length qs + 1) reals) h

  pub into-refused : (k : Refusal) → a ≡ Err k
      → finding (eqb (number_of k) 8) (eqb (number_of k) 9) (memory reals counts) ≡ recut_into m r c n recuts (renew_of (stretch r (length qs + 1) reals) qs ns rate (n + 1)) (memory reals counts)
  unfolding recut_into paper_renewed
  into-refused k e =
      let f : refuses (number_of k) ≡ renew_of (stretch r (length qs + 1) reals) qs ns rate (n + 1) = rw e at renewed-is in
      ap (λ (p : Paper (List Float)). recut_into m r c n recuts p (memory reals counts)) f

  pub into-done : (reals₁ : List Float) (s : Memory) → a ≡ Ok tt → length room ≡ places → reals₁ ≡ put r (length room) room reals → s ≡ empty_at m r c n recuts (memory reals₁ counts)
      → finding false false s ≡ recut_into m r c n recuts (renew_of (stretch r (length qs + 1) reals) qs ns rate (n + 1)) (memory reals counts)
  unfolding recut_into paper_renewed edged_at
  into-done reals₁ s e l g t =
      let f : gives room ≡ renew_of (stretch r (length qs + 1) reals) qs ns rate (n + 1) = rw e at renewed-is in
      ap (λ (x : Memory). finding false false x)
      (t ∙ ap (λ (x : List Float). empty_at m r c n recuts (memory x counts)) (g ∙ ap (λ (p : ℕ). put r p room reals) (l ∙ h)))
      ∙ ap (λ (p : Paper (List Float)). recut_into m r c n recuts p (memory reals counts)) f

module _ (rule : Rule) (values : List ℕ) (rate : Float) (m r c : ℕ) (qs : List Float) (ns : List ℕ) (s : Memory) where
  pub recut-8 : 2 ^ 53 ≤ get_or s.counts (c + 1) 0 → finding true false s ≡ recut_at rule values rate m r c qs ns s
  unfolding recut_at bounded
  recut-8 h = let b : leb (get_or s.counts (c + 1) 0 + 1) (2 ^ 53) ≡ false = lt-leb (get_or s.counts (c + 1) 0 + 1) (2 ^ 53) (omega arith) in rw b

  pub recut-on : (n : ℕ) (o : Outcome Memory) → get_or s.counts (c + 1) 0 < 2 ^ 53 → n ≡ bins_to rule values (get_or s.counts (c + 1) 0)
      → o ≡ recut_into m r c n (get_or s.counts (c + 1) 0 + 1) (renew_of (stretch r (length qs + 1) s.reals) qs ns rate (n + 1)) s
      → o ≡ recut_at rule values rate m r c qs ns s
  unfolding recut_at bounded
  recut-on n o h e t =
      let b : leb (get_or s.counts (c + 1) 0 + 1) (2 ^ 53) ≡ true = le-leb (get_or s.counts (c + 1) 0 + 1) (2 ^ 53) (omega arith) in
      rw b (t ∙ ap (λ (j : ℕ). recut_into m r c j (get_or s.counts (c + 1) 0 + 1) (renew_of (stretch r (length qs + 1) s.reals) qs ns rate (j + 1)) s) e)

  -- ---- from the gathered on

  module _ (ok : Bool) (judged : ok ≡ (all_finite qs && all_bounded ns)) where
    pub adapt-8 : ok ≡ false → finding true false s ≡ adapted_at rule values rate m r c qs ns s
    unfolding adapted_at
    adapt-8 h = rw (failed judged h)

    module _ (k : ok ≡ true) (enough : Bool) (reach : enough ≡ reaches_of rule.least ns) where
      pub adapt-kept : (t : Memory) → enough ≡ false → t ≡ kept_at m r c qs ns s → finding false false t ≡ adapted_at rule values rate m r c qs ns s
      unfolding adapted_at
      adapt-kept t h e = rw (passed judged k, failed reach h, e)

      pub adapt-reset : (t : Memory) → enough ≡ true → eq rate zero64 ≡ true → t ≡ empty_at m r c (length qs) (get_or s.counts (c + 1) 0) s
          → finding false false t ≡ adapted_at rule values rate m r c qs ns s
      unfolding adapted_at
      adapt-reset t h z e = rw (passed judged k, passed reach h, z, e)

      pub adapt-on : (o : Outcome Memory) → enough ≡ true → eq rate zero64 ≡ false → o ≡ recut_at rule values rate m r c qs ns s
          → o ≡ adapted_at rule values rate m r c qs ns s
      unfolding adapted_at
      adapt-on o h z e = rw (passed judged k, passed reach h, z) e

-- ---- an axis

pub trained-room : (averages : Bool) (m t : ℕ) → t ≡ trained_from averages m → t ≤ 3 * m + 1
unfolding trained_from
trained-room true m t e = omega arith
trained-room false m t e = omega arith

pub updated-on : (rule : Rule) (values : List ℕ) (rate : Float) (m r c : ℕ) (s : Memory) (t n k : ℕ) (qs : List Float) (ns : List ℕ) (o : Outcome Memory)
    → t ≡ trained_from rule.averages m → n ≡ get_or s.counts c 0 → k ≡ get_or s.counts c 0
    → qs ≡ gathered_of (stretch (r + (m + 1)) n s.reals) (stretch (r + t) n s.reals)
    → ns ≡ joined_counts (stretch (c + (2 * m + 2)) k s.counts) (stretch (c + 2) k s.counts)
    → o ≡ adapted_at rule values rate m r c qs ns s → o ≡ update_at rule values rate m r c s
unfolding update_at importances_at counters_at
updated-on rule values rate m r c s t n k qs ns o et en ek eq en' eo =
    let fq = eq ∙ ap₂ (λ (j i : ℕ). gathered_of (stretch (r + (m + 1)) j s.reals) (stretch (r + i) j s.reals)) en et in
    let fn = en' ∙ ap (λ (j : ℕ). joined_counts (stretch (c + (2 * m + 2)) j s.counts) (stretch (c + 2) j s.counts)) ek in
    eo ∙ ap₂ (λ (x : List Float) (y : List ℕ). adapted_at rule values rate m r c x y s) fq fn
