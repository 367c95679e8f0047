-- A loop over a run of numbers: those before the i-th are done.
use mathlib.Core.Path.{◌≡◌, sym, ap, ◌∙◌}
use mathlib.Core.Bool.{true, false}
use mathlib.Core.List.{List, [], ◌∷◌}
use Prim.Native.Nat.{ℕ, suc, ◌+◌, ◌-◌, ◌≤◌, ◌<◌}
use native.Mathlib.Omega.{arith}
use lib.ListN.{length, set, length-set}
use lib.Seq.{sets}
use Rattle.std.specs.Prelude.{None, Some}
use Rattle.plan.specs.Numbers.{run_of}
use Rattle.plan.specs.Ranges.{within, bounded, larger, most_of, most_if_bounded}
use Rattle.plan.proofs.Ranges.{scan-in, scan-out}

module _ (g : ℕ → ℕ) (apart : ℕ) where
  pub run_none : (at k i : ℕ) → k ≤ i → run_of g apart at (k - i) ≡ []
  unfolding run_of
  run_none at k i h = let e : k - i ≡ 0 = omega arith in rw e

  pub run-next : (at k i : ℕ) → i < k → run_of g apart at (k - i) ≡ g at ∷ run_of g apart (at + apart) (k - (i + 1))
  unfolding run_of
  run-next at k i h = let e : k - i ≡ suc (k - (i + 1)) = omega arith in rw e

  -- looking for the largest number, which stands at a place now
  pub record Scanning (first k least most at i : ℕ) : Type 0 where
    pub low : i ≤ k
    pub same : most_if_bounded least (run_of g apart first k) ≡ most_if_bounded most (run_of g apart at (k - i))

  -- storing the numbers from the word w on
  pub record Copying (first k w : ℕ) (old new : List ℕ) (at i : ℕ) : Type 0 where
    pub low : i ≤ k
    pub size : length new ≡ length old
    pub same : sets new (w + i) (run_of g apart at (k - i)) ≡ sets old w (run_of g apart first k)

module _ {g : ℕ → ℕ} {apart first k least most at i : ℕ} (v : Scanning g apart first k least most at i) where
  pub scanning-all : k ≤ i → Some most ≡ most_if_bounded least (run_of g apart first k)
  unfolding bounded most_of
  scanning-all h = sym (v.same ∙ ap (most_if_bounded most) (run_none g apart at k i h))

  module _ (h : i < k) {x : ℕ} (e : x ≡ g at) where
    pub scanning-out : within 1 1024 x ≡ false → None ≡ most_if_bounded least (run_of g apart first k)
    scanning-out w = sym (v.same ∙ ap (most_if_bounded most) (run-next g apart at k i h) ∙ scan-out most (g at) _ (rw e at w))

    pub scanning-next : {m next : ℕ} → within 1 1024 x ≡ true → m ≡ larger most x → next ≡ at + apart → Scanning g apart first k least m next (i + 1)
    scanning-next {m} {next} w l n = record {
      low = omega arith;
      same = v.same ∙ ap (most_if_bounded most) (run-next g apart at k i h) ∙ scan-in most (g at) _ (rw e at w) ∙ rw (l, n, e);
    }

module _ {g : ℕ → ℕ} {apart first k w : ℕ} {old new : List ℕ} {at i : ℕ} (v : Copying g apart first k w old new at i) where
  pub copying-all : k ≤ i → new ≡ sets old w (run_of g apart first k)
  copying-all h = sym (ap (sets new (w + i)) (run_none g apart at k i h)) ∙ v.same

  pub copying-next : i < k → {x next : ℕ} → x ≡ g at → next ≡ at + apart → Copying g apart first k w old (set new (w + i) x) next (i + 1)
  copying-next h {x} {next} e n = record {
    low = omega arith;
    size = length-set new (w + i) x ∙ v.size;
    same = let a : w + (i + 1) ≡ suc (w + i) = omega arith in rw (a, e, n) (sym (ap (sets new (w + i)) (run-next g apart at k i h)) ∙ v.same);
  }
