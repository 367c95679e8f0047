-- The update of an axes grid, and of a bins grid's own, read back: its bins' accumulators, its probabilities and its own accumulator.
use mathlib.Core.Path.{◌≡◌, refl, sym, ap, ap₂, ◌∙◌, subst}
use mathlib.Core.Bool.{Bool, true, false, not, ◌||◌, cond, true≢false, or-false}
use mathlib.Core.List.{List, [], ◌∷◌, map}
use Prim.Native.Nat.{ℕ, zero, suc, ◌+◌, ◌*◌, ◌≤◌, ◌<◌}
use native.Mathlib.Omega.{arith}
use borrow.Author.Tests.{eqb-true, eqb-false}
use lib.Dec.{eqb}
use lib.ListN.{length, get_or, length-map}
use lib.Ieee.{Float, nan, binary64, of_bits, div}
use Rattle.doubles.specs.Numbers.{zero64}
use Rattle.doubles.proofs.Truth.{both}
use Rattle.accumulator.specs.declared.StatisticsAccumulator.{StatisticsAccumulator}
use Rattle.accumulator.specs.Record.{well_formed}
use Rattle.accumulator.specs.Update.{updated_of}
use Rattle.accumulator.specs.Calls as account
use Rattle.plan.specs.Numbers.{words_at}
use Rattle.model.specs.Axes.{Axis}
use Rattle.model.specs.Grid as model
use Rattle.model.specs.Sound.{sound}
use Rattle.doubles.specs.Total.{total_of}
use Rattle.recut.specs.Chances.{all_chances, highest, raised_to, share_of, adapted_to}
use Rattle.model.specs.Update.{Outcome, update_all, update_axes, all_idle, raws, with_probabilities, nested, update_grid, update_bins, update_child}
use Rattle.lent.specs.Layout.{axes_from}
use Rattle.lent.specs.Memory.{Memory, memory, put, record_at, stored}
use Rattle.lent.specs.Judged.{axes_fit, AllUpto}
use Rattle.lent.specs.Tree.{axes_plan_at, axes_place, axes_grid_at, bin_in, child_in, bins_in, AxesLaid}
use Rattle.lent.specs.Founded.{fresh_children}
use Rattle.lent.specs.Renewed.{plan_of, update_all_at}
use Rattle.lent.specs.Adapted.{followed, account_stepped, account_updated, accounts_updated, rule_at, axes_updated, averages_at, idle_in, raws_in, chances_laid, chances_adapted}
use Rattle.lent.proofs.Same.{Same, same_refl, same-on, same-sym, same-within, length-put, get_d-put-in, same-put-below, same-put-above}
use Rattle.lent.proofs.Reading.{record_same, record-stored, axes-same}
use Rattle.lent.proofs.Judges.{fit-stands}
use Rattle.lent.proofs.Sounds.{numbers-upto, sound-axes}
use Rattle.lent.proofs.Renewals.{within_all}
use Rattle.lent.proofs.Updates.{standing-ready, read_axes, updates-below, updates-above, updated-axes, updates-holding}
use Rattle.lent.proofs.FoundedOwn.{Within, within_same, within_on, stored-within}
use Rattle.lent.proofs.Turns.{Turned, no-either, child_after, children_after}

-- ---- an accumulator

unfoldable account_after : StatisticsAccumulator → Outcome StatisticsAccumulator
account_after a = record { eight = not (well_formed (updated_of false a)); nine = false; after = updated_of false a }

account-turned : (r c : ℕ) (s : Memory) → r + 14 ≤ length s.reals → c + 7 ≤ length s.counts → well_formed (record_at s.reals s.counts r c) ≡ true
    → Turned r (r + 14) c (c + 7) s (account_updated r c s) (λ (a : List Float) (b : List ℕ). record_at a b r c) (account_after (record_at s.reals s.counts r c))
unfolding account_updated account_stepped account.update_of account_after stored
account-turned r c s h k well = pick (well_formed next) refl
  where
    own : StatisticsAccumulator
    own = record_at s.reals s.counts r c

    next : StatisticsAccumulator
    next = updated_of false own

    pick : (b : Bool) → well_formed next ≡ b → Turned r (r + 14) c (c + 7) s (account_updated r c s) (λ (a : List Float) (b : List ℕ). record_at a b r c) (account_after own)
    pick true e =
        rw (well, e) (record {
          within = stored-within r c next s;
          eight = refl;
          nine = λ q. refl;
          reads = λ q a b x y. sym (record_same r c (stored r c next s).reals a (stored r c next s).counts b x y) ∙ record-stored r c s.reals s.counts next h k;
        })
    pick false e = rw (well, e) (record { within = within_same r (r + 14) c (c + 7) s; eight = refl; nine = λ q. absurd (true≢false q); reads = λ q. absurd (true≢false q) })

-- ---- an axes grid

module _ (table : List ℕ) (rate : Float) (w : ℕ) (s : Memory) (laid : AxesLaid table (length s.reals) (length s.counts) w)
    (well : sound (model.axes (axes_grid_at table s.reals s.counts w)) ≡ true) where
  abbrev R : ℕ
  R = get_or table (w + 9) 0

  abbrev C : ℕ
  C = get_or table (w + 10) 0

  abbrev K : ℕ
  K = get_or table (w + 2) 0

  abbrev M : ℕ
  M = get_or table (w + 7) 0

  abbrev values : List ℕ
  values = words_at table (w + 11) (get_or table (w + 8) 0)

  abbrev axes-step : Outcome Memory
  axes-step = update_all_at (rule_at table w) values rate M K (R + 14) (C + 7) s

  abbrev numbers : List ℕ
  numbers = get_or table (w + 3) 0 ∷ values

  fits : (axes_fit numbers M s.reals s.counts K (R + 14) (C + 7) ≡ true) × (well_formed (record_at s.reals s.counts R C) ≡ true)
  fits = both (axes_fit numbers M s.reals s.counts K (R + 14) (C + 7)) (well_formed (record_at s.reals s.counts R C)) (sound-axes table s.reals s.counts w laid ∙ well)

  pub axes-turned : Turned R (R + 14 + K * (6 * M + 1)) C (C + 7 + K * (3 * M + 2)) s (axes_updated table rate w s) (λ (a : List Float) (b : List ℕ). model.axes (axes_grid_at table a b w))
      (update_axes rate (axes_grid_at table s.reals s.counts w))
  unfolding axes_updated followed update_axes axes_grid_at axes_place axes_plan_at rule_at plan_of read_axes account_after AllUpto
  axes-turned =
      let upto = numbers-upto table (length s.reals) (length s.counts) w laid in
      let standing = fit-stands M s.reals s.counts numbers K (R + 14) (C + 7) upto laid.room laid.places fits.0 in
      let ready = standing-ready M s.reals s.counts K (R + 14) (C + 7) standing in
      let each : (i : ℕ) → i < length values → get_or values i 0 ≤ M = λ i h. (upto (suc i) (omega arith)).1 in
      let bound = within_all M (rule_at table w) values laid.fits each in
      let s₁ = axes-step.after in
      let tied = updated-axes (rule_at table w) values rate M bound (of_bits binary64 (get_or table (w + 6) 0)) K (R + 14) (C + 7) s ready in
      let inside : Within (R + 14) (R + 14 + K * (6 * M + 1)) (C + 7) (C + 7 + K * (3 * M + 2)) s s₁ =
      record {
        low = λ lo hi h. (updates-below (rule_at table w) values rate M bound K (R + 14) (C + 7) s ready lo hi 0 0 h (omega arith)).0;
        high = λ lo hi h. (updates-above (rule_at table w) values rate M bound K (R + 14) (C + 7) s ready lo hi (C + 7 + K * (3 * M + 2)) 0 h (omega arith)).0;
        few = λ lo hi h. (updates-below (rule_at table w) values rate M bound K (R + 14) (C + 7) s ready 0 0 lo hi (omega arith) h).1;
        many = λ lo hi h. (updates-above (rule_at table w) values rate M bound K (R + 14) (C + 7) s ready (R + 14 + K * (6 * M + 1)) 0 lo hi (omega arith) h).1;
      } in
      let size : length s₁.reals ≡ length s.reals = (inside.low 0 0 (omega arith)).size in
      let sizes : length s₁.counts ≡ length s.counts = (inside.few 0 0 (omega arith)).size in
      let own : record_at s₁.reals s₁.counts R C ≡ record_at s.reals s.counts R C = record_same R C s₁.reals s.reals s₁.counts s.counts (inside.low R (R + 14) (omega arith)) (inside.few C (C + 7) (omega arith)) in
      let a = account-turned R C s₁ (omega (arith, laid.room)) (omega (arith, laid.places)) (ap well_formed own ∙ fits.1) in
      let s₂ = (account_updated R C s₁).after in
      let eights : (account_updated R C s₁).eight ≡ not (well_formed (updated_of false (record_at s.reals s.counts R C))) = a.eight ∙ ap (λ (x : StatisticsAccumulator). not (well_formed (updated_of false x))) own in
      let before : not (well_formed (updated_of false (record_at s.reals s.counts R C))) ≡ false → not (well_formed (updated_of false (record_at s₁.reals s₁.counts R C))) ≡ false =
      λ e. ap (λ (x : StatisticsAccumulator). not (well_formed (updated_of false x))) own ∙ e in
      rw fits.0 (record {
        within = within_on R (R + 14 + K * (6 * M + 1)) C (C + 7 + K * (3 * M + 2)) (R + 14) (R + 14 + K * (6 * M + 1)) (C + 7) (C + 7 + K * (3 * M + 2)) R (R + 14) C (C + 7) s s₁ s₂
            (omega arith) (omega arith) (omega arith) (omega arith) (omega arith) (omega arith) (omega arith) (omega arith) inside a.within;
        eight = ap₂ ◌||◌ (ap (λ (o : Outcome (List Axis)). o.eight) tied) eights;
        nine = λ e. let n = no-either (update_all (axes_plan_at table w) rate (axes_from M s.reals s.counts K (R + 14) (C + 7))).eight (not (well_formed (updated_of false (record_at s.reals s.counts R C)))) e in ap₂ ◌||◌ (ap (λ (o : Outcome (List Axis)). o.nine) tied) (a.nine (before n.1)) ∙ or-false _;
        reads = λ e x y p q.
            let n = no-either (update_all (axes_plan_at table w) rate (axes_from M s.reals s.counts K (R + 14) (C + 7))).eight (not (well_formed (updated_of false (record_at s.reals s.counts R C)))) e in
            let mine = a.reads (before n.1) x y (same-within nan R (R + 14 + K * (6 * M + 1)) R (R + 14) s₂.reals x (omega arith) (omega arith) p)
            (same-within 0 C (C + 7 + K * (3 * M + 2)) C (C + 7) s₂.counts y (omega arith) (omega arith) q) ∙ ap (updated_of false) own in
            let on : Same nan (R + 14) (R + 14 + K * (6 * M + 1)) s₁.reals x =
            same-on nan _ _ s₁.reals s₂.reals x (same-sym nan _ _ s₂.reals s₁.reals (a.within.high (R + 14) (R + 14 + K * (6 * M + 1)) (omega arith)))
            (same-within nan R (R + 14 + K * (6 * M + 1)) (R + 14) (R + 14 + K * (6 * M + 1)) s₂.reals x (omega arith) (omega arith) p) in
            let up : Same 0 (C + 7) (C + 7 + K * (3 * M + 2)) s₁.counts y =
            same-on 0 _ _ s₁.counts s₂.counts y (same-sym 0 _ _ s₂.counts s₁.counts (a.within.many (C + 7) (C + 7 + K * (3 * M + 2)) (omega arith)))
            (same-within 0 C (C + 7 + K * (3 * M + 2)) (C + 7) (C + 7 + K * (3 * M + 2)) s₂.counts y (omega arith) (omega arith) q) in
            let all = sym (axes-same M s₁.reals x s₁.counts y K (R + 14) (C + 7) (updates-holding (rule_at table w) values rate M bound K (R + 14) (C + 7) s ready) on up) ∙ ap (λ (o : Outcome (List Axis)). o.after) tied in
            rw (mine, all);
      })

-- ---- the accumulators of a bins grid's bins

-- what holds at i and beyond it holds from i on
pub from_first : (P : ℕ → Type 0) (i j : ℕ) → i ≤ j → P i → (i + 1 ≤ j → P j) → P j
from_first P i j h p q = pick (eqb j i) refl
  where
    pick : (b : Bool) → eqb j i ≡ b → P j
    pick true e = subst P (sym (eqb-true j i e)) p
    pick false e = q (let n = eqb-false j i e in omega (arith, h, n))

-- whether one of k accumulators from i on may not be kept
unfoldable pub bad_of : (ℕ → StatisticsAccumulator) → ℕ → ℕ → Bool
bad_of B i zero = false
bad_of B i (suc k) = not (well_formed (updated_of false (B i))) || bad_of B (i + 1) k

module _ (table : List ℕ) (w : ℕ) where
  abbrev pub BR : ℕ
  BR = get_or table (w + 5) 0

  abbrev pub BC : ℕ
  BC = get_or table (w + 6) 0

  abbrev pub BN : ℕ
  BN = get_or table (w + 2) 0

  abbrev pub spot : ℕ → ℕ
  spot i = BR + 14 + BN + 14 * i

  abbrev pub place : ℕ → ℕ
  place i = BC + 7 + 7 * i

  -- what the accumulators from bin i on came to: each is the model's where none is refused
  pub record Accounts (B : ℕ → StatisticsAccumulator) (i k : ℕ) (s : Memory) (o : Outcome Memory) : Type 0 where
    pub within : Within (spot i) (BR + 14 + 15 * BN) (place i) (BC + 7 + 7 * BN) s o.after
    pub eight : o.eight ≡ bad_of B i k
    pub nine : bad_of B i k ≡ false → o.nine ≡ false
    pub reads : bad_of B i k ≡ false → (j : ℕ) → i ≤ j → j < BN → (a : List Float) (b : List ℕ) → Same nan (spot i) (BR + 14 + 15 * BN) o.after.reals a
        → Same 0 (place i) (BC + 7 + 7 * BN) o.after.counts b → record_at a b (spot j) (place j) ≡ updated_of false (B j)

  pub accounts-turned : (B : ℕ → StatisticsAccumulator) (k i : ℕ) (s : Memory) → i + k ≡ BN → BR + 14 + 15 * BN ≤ length s.reals → BC + 7 + 7 * BN ≤ length s.counts
      → ((j : ℕ) → i ≤ j → j < BN → record_at s.reals s.counts (spot j) (place j) ≡ B j) → ((j : ℕ) → i ≤ j → j < BN → well_formed (B j) ≡ true)
      → Accounts B i k s (accounts_updated table w i k s)
  unfolding accounts_updated followed bad_of account_after
  accounts-turned B zero i s e h k same well =
      record { within = within_same (spot i) (BR + 14 + 15 * BN) (place i) (BC + 7 + 7 * BN) s; eight = refl; nine = λ q. refl; reads = λ q j x y. absurd (omega arith) }
  accounts-turned B (suc k) i s e h l same well =
      let mine = same i (omega arith) (omega arith) in
      let a = account-turned (spot i) (place i) s (omega arith) (omega arith) (ap well_formed mine ∙ well i (omega arith) (omega arith)) in
      let s₁ = (account_updated (spot i) (place i) s).after in
      let size : length s₁.reals ≡ length s.reals = (a.within.low 0 0 (omega arith)).size in
      let sizes : length s₁.counts ≡ length s.counts = (a.within.few 0 0 (omega arith)).size in
      let still : (j : ℕ) → i + 1 ≤ j → j < BN → record_at s₁.reals s₁.counts (spot j) (place j) ≡ B j =
      λ j x y. record_same (spot j) (place j) s₁.reals s.reals s₁.counts s.counts (a.within.high (spot j) (spot j + 14) (omega arith)) (a.within.many (place j) (place j + 7) (omega arith)) ∙ same j (omega arith) y in
      let r = accounts-turned B k (i + 1) s₁ (omega arith) (omega arith) (omega arith) still (λ j x. well j (omega arith)) in
      let last = (accounts_updated table w (i + 1) k s₁).after in
      let eights : (account_updated (spot i) (place i) s).eight ≡ not (well_formed (updated_of false (B i))) = a.eight ∙ ap (λ (x : StatisticsAccumulator). not (well_formed (updated_of false x))) mine in
      record {
        within = within_on (spot i) (BR + 14 + 15 * BN) (place i) (BC + 7 + 7 * BN) (spot i) (spot i + 14) (place i) (place i + 7) (spot (i + 1)) (BR + 14 + 15 * BN) (place (i + 1)) (BC + 7 + 7 * BN) s s₁ last
            (omega arith) (omega arith) (omega arith) (omega arith) (omega arith) (omega arith) (omega arith) (omega arith) a.within r.within;
        eight = ap₂ ◌||◌ eights r.eight;
        nine = λ q. let n = no-either (not (well_formed (updated_of false (B i)))) (bad_of B (i + 1) k) q in ap₂ ◌||◌ (a.nine (ap (λ (x : StatisticsAccumulator). not (well_formed (updated_of false x))) mine ∙ n.0)) (r.nine n.1);
        reads = λ q j x y u v p z.
            let n = no-either (not (well_formed (updated_of false (B i)))) (bad_of B (i + 1) k) q in
            let first : record_at u v (spot i) (place i) ≡ updated_of false (B i) =
            a.reads (ap (λ (x : StatisticsAccumulator). not (well_formed (updated_of false x))) mine ∙ n.0) u v
            (same-on nan (spot i) (spot i + 14) s₁.reals last.reals u (same-sym nan (spot i) (spot i + 14) last.reals s₁.reals (r.within.low (spot i) (spot i + 14) (omega arith)))
            (same-within nan (spot i) (BR + 14 + 15 * BN) (spot i) (spot i + 14) last.reals u (omega arith) (omega arith) p))
            (same-on 0 (place i) (place i + 7) s₁.counts last.counts v (same-sym 0 (place i) (place i + 7) last.counts s₁.counts (r.within.few (place i) (place i + 7) (omega arith)))
            (same-within 0 (place i) (BC + 7 + 7 * BN) (place i) (place i + 7) last.counts v (omega arith) (omega arith) z)) ∙ ap (updated_of false) mine in
            let others : i + 1 ≤ j → record_at u v (spot j) (place j) ≡ updated_of false (B j) =
            λ g. r.reads n.1 j g y u v (same-within nan (spot i) (BR + 14 + 15 * BN) (spot (i + 1)) (BR + 14 + 15 * BN) last.reals u (omega arith) (omega arith) p)
            (same-within 0 (place i) (BC + 7 + 7 * BN) (place (i + 1)) (BC + 7 + 7 * BN) last.counts v (omega arith) (omega arith) z) in
            from_first (λ (m : ℕ). record_at u v (spot m) (place m) ≡ updated_of false (B m)) i j x first others;
      }

  -- ---- its own: probabilities and accumulator

  abbrev pub ratio : Float
  ratio = of_bits binary64 (get_or table (w + 3) 0)

  abbrev pub chances : Memory → List Float
  chances s = adapted_to ratio (raws_in table s w 0 BN)

  raws-length : (s : Memory) (i k : ℕ) → length (raws_in table s w i k) ≡ k
  unfolding raws_in
  raws-length s i zero = refl
  raws-length s i (suc k) = ap suc (raws-length s (i + 1) k)

  pub chances-length : (s : Memory) → length (chances s) ≡ BN
  unfolding adapted_to
  chances-length s =
      let rs = raws_in table s w 0 BN in
      let qs = map (raised_to (div binary64 (highest zero64 rs) ratio)) rs in
      length-map qs (share_of (total_of zero64 qs)) ∙ length-map rs (raised_to (div binary64 (highest zero64 rs) ratio)) ∙ raws-length s 0 BN

  pub record Own (own : StatisticsAccumulator) (ps : List Float) (s : Memory) (o : Outcome Memory) : Type 0 where
    pub within : Within BR (BR + 14 + BN) BC (BC + 7) s o.after
    pub eight : o.eight ≡ not (well_formed (updated_of false own))
    pub nine : not (well_formed (updated_of false own)) ≡ false → o.nine ≡ not (all_chances ps)
    pub reads : not (well_formed (updated_of false own)) ≡ false → (a : List Float) (b : List ℕ) → Same nan BR (BR + 14 + BN) o.after.reals a → Same 0 BC (BC + 7) o.after.counts b
        → record_at a b BR BC ≡ updated_of false own
    pub shares : (a : List Float) → Same nan BR (BR + 14 + BN) o.after.reals a → (q : ℕ) → q < BN → get_or a (BR + 14 + q) nan ≡ get_or ps q nan

  pub own-turned : (own : StatisticsAccumulator) (s : Memory) → BR + 14 + 15 * BN ≤ length s.reals → BC + 7 + 7 * BN ≤ length s.counts → record_at s.reals s.counts BR BC ≡ own → well_formed own ≡ true
      → Own own (chances s) s (followed (chances_adapted table w s) (account_updated BR BC))
  unfolding followed chances_adapted chances_laid account_after
  own-turned own s h k e well =
      let ps = chances s in
      let n = chances-length s in
      let s₁ = memory (put (BR + 14) (length ps) ps s.reals) s.counts in
      let size : length s₁.reals ≡ length s.reals = length-put (BR + 14) (length ps) ps s.reals (omega arith) refl in
      let laid : Within (BR + 14) (BR + 14 + BN) BC (BC + 7) s s₁ =
      record {
        low = λ lo hi x. same-put-above nan lo hi (BR + 14) (length ps) ps s.reals (omega arith) refl x;
        high = λ lo hi x. same-put-below nan lo hi (BR + 14) (length ps) ps s.reals (omega arith) refl (omega arith);
        few = λ lo hi x. same_refl 0 lo hi s.counts;
        many = λ lo hi x. same_refl 0 lo hi s.counts;
      } in
      let mine : record_at s₁.reals s₁.counts BR BC ≡ own = record_same BR BC s₁.reals s.reals s₁.counts s.counts (laid.low BR (BR + 14) (omega arith)) (same_refl 0 BC (BC + 7) s.counts) ∙ e in
      let a = account-turned BR BC s₁ (omega arith) (omega arith) (ap well_formed mine ∙ well) in
      let s₂ = (account_updated BR BC s₁).after in
      let keeps : not (well_formed (updated_of false own)) ≡ false → not (well_formed (updated_of false (record_at s₁.reals s₁.counts BR BC))) ≡ false = λ x. ap (λ (z : StatisticsAccumulator). not (well_formed (updated_of false z))) mine ∙ x in
      record {
        within = within_on BR (BR + 14 + BN) BC (BC + 7) (BR + 14) (BR + 14 + BN) BC (BC + 7) BR (BR + 14) BC (BC + 7) s s₁ s₂ (omega arith) (omega arith) (omega arith) (omega arith) (omega arith) (omega arith) (omega arith) (omega arith) laid a.within;
        eight = a.eight ∙ ap (λ (z : StatisticsAccumulator). not (well_formed (updated_of false z))) mine;
        nine = λ x. ap (λ (z : Bool). not (all_chances ps) || z) (a.nine (keeps x)) ∙ or-false (not (all_chances ps));
        reads = λ x u v p q. a.reads (keeps x) u v (same-within nan BR (BR + 14 + BN) BR (BR + 14) s₂.reals u (omega arith) (omega arith) p) q ∙ ap (updated_of false) mine;
        shares = λ u p q l.
            sym (p.cells (BR + 14 + q) (omega arith) (omega arith)) ∙ (a.within.high (BR + 14) (BR + 14 + BN) (omega arith)).cells (BR + 14 + q) (omega arith) (omega arith)
            ∙ get_d-put-in nan (BR + 14) (length ps) q ps s.reals (omega arith) (omega arith);
      }

-- ---- bins over what hangs there

unfoldable pub overlaid : (ℕ → model.Bin) → ℕ → List model.Child → model.Bins
overlaid bin i [] = model.none
overlaid bin i (c ∷ cs) = model.more (bin i) c (overlaid bin (i + 1) cs)

pub overlaid-same : (bin bin' : ℕ → model.Bin) (i n : ℕ) (cs : List model.Child) → i + length cs ≡ n → ((j : ℕ) → i ≤ j → j < n → bin j ≡ bin' j) → overlaid bin i cs ≡ overlaid bin' i cs
unfolding overlaid
overlaid-same bin bin' i n [] e h = refl
overlaid-same bin bin' i n (c ∷ cs) e h = rw (h i (omega arith) (omega arith), overlaid-same bin bin' (i + 1) n cs (omega arith) (λ j x. h j (omega arith)))

pub overlaid-chances : (bin bin' : ℕ → model.Bin) (i : ℕ) (cs : List model.Child) (ps : List Float) → length ps ≡ length cs
    → ((q : ℕ) → q < length cs → bin' (i + q) ≡ record { probability = get_or ps q nan; own = (bin (i + q)).own }) → with_probabilities (overlaid bin i cs) ps ≡ overlaid bin' i cs
unfolding overlaid with_probabilities
overlaid-chances bin bin' i [] ps e h = refl
overlaid-chances bin bin' i (c ∷ cs) [] e h = absurd (omega arith)
overlaid-chances bin bin' i (c ∷ cs) (p ∷ ps) e h =
    let z : i + 0 ≡ i = omega arith in
    let first : bin' i ≡ record { probability = p; own = (bin i).own } = subst (λ (j : ℕ). bin' j ≡ record { probability = p; own = (bin j).own }) z (h 0 (omega arith)) in
    let rest = overlaid-chances bin bin' (i + 1) cs ps (omega arith) (λ q x.
    let y : i + suc q ≡ i + 1 + q = omega arith in
    subst (λ (j : ℕ). bin' j ≡ record { probability = get_or ps q nan; own = (bin j).own }) y (h (suc q) (omega arith))) in
    rw (first, rest)

or-shuffle : (a x b y : Bool) → ((a || x) || (b || y)) ≡ ((a || b) || (x || y))
or-shuffle true x b y = refl
or-shuffle false true true y = refl
or-shuffle false true false y = refl
or-shuffle false false b y = refl

module _ (f : ℕ → model.Grid) (table : List ℕ) (reals : List Float) (counts : List ℕ) (w : ℕ) where
  pub bins-overlaid : (i n : ℕ) → bins_in f table reals counts w i n ≡ overlaid (bin_in table reals counts w) i (fresh_children f table w i n)
  unfolding overlaid bins_in fresh_children
  bins-overlaid i zero = refl
  bins-overlaid i (suc n) = rw (bins-overlaid (i + 1) n)

  pub idle-read : (i n : ℕ) → idle_in table (memory reals counts) w i n ≡ all_idle (averages_at table w) (bins_in f table reals counts w i n)
  unfolding idle_in bins_in all_idle
  idle-read i zero = refl
  idle-read i (suc n) = rw (idle-read (i + 1) n)

  pub raws-read : (i n : ℕ) → raws_in table (memory reals counts) w i n ≡ raws (averages_at table w) (bins_in f table reals counts w i n)
  unfolding raws_in bins_in raws
  raws-read i zero = refl
  raws-read i (suc n) = rw (raws-read (i + 1) n)

  module _ (bins_rate axes_rate : Float) where
    abbrev pub step : ℕ → Outcome model.Grid
    step at = update_grid bins_rate axes_rate (f at)

    abbrev pub after-bin : ℕ → model.Bin
    after-bin j = model.with_bin (bin_in table reals counts w j) (updated_of false (bin_in table reals counts w j).own)

    child-updated : (at : ℕ) → update_child bins_rate axes_rate (child_in f at) ≡ child_after step at
    unfolding child_in child_after update_child
    child-updated at = pick (eqb at 0)
      where
        pick : (b : Bool) → update_child bins_rate axes_rate (cond b model.nothing (model.grid (f at))) ≡ cond b (record { eight = false; nine = false; after = model.nothing }) (nested (step at))
        pick true = refl
        pick false = refl

    -- the bins' update is the children's and the accumulators'
    pub bins-updated : (i n : ℕ) → update_bins bins_rate axes_rate (bins_in f table reals counts w i n) ≡ record {
      eight = (children_after step table w i n).eight || bad_of (λ (j : ℕ). (bin_in table reals counts w j).own) i n;
      nine = (children_after step table w i n).nine;
      after = overlaid after-bin i (children_after step table w i n).after;
    }
    unfolding bins_in update_bins children_after bad_of overlaid
    bins-updated i zero = refl
    bins-updated i (suc n) =
        rw (
          child-updated (get_or table (w + 7 + i) 0),
          bins-updated (i + 1) n,
          or-shuffle (child_after step (get_or table (w + 7 + i) 0)).eight (not (well_formed (updated_of false (bin_in table reals counts w i).own))) (children_after step table w (i + 1) n).eight (bad_of (λ (j : ℕ). (bin_in table reals counts w j).own) (i + 1) n),
        )

    pub after-length : (i n : ℕ) → length (children_after step table w i n).after ≡ n
    unfolding children_after
    after-length i zero = refl
    after-length i (suc n) = ap suc (after-length (i + 1) n)
