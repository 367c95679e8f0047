-- A part written over entries as one copy.
use mathlib.Core.Path.{◌≡◌, refl, sym, ap, ◌∙◌}
use mathlib.Core.List.{List, [], ◌∷◌, ◌++◌}
use Prim.Native.Nat.{ℕ, zero, suc, min, ◌+◌, ◌-◌, ◌≤◌, ◌<◌}
use native.Mathlib.Omega.{arith}
use lib.ListN.{length, take, drop, set, length-set}
use lib.Seq.{sets, length-take-le}
use Rattle.doubles.proofs.Runs.{sets-out}
use Rattle.lent.specs.Memory.{put}
use Rattle.lent.proofs.Runs.{sets-put}
use Rattle.lent.proofs.Lays.{lent_back}

module _ {A : Type 0} where
  -- what would stand past the last entry is not written
  sets-fit : (vs l : List A) (at n : ℕ) → min (length vs) (length l - at) ≤ n → sets l at vs ≡ sets l at (take n vs)
  sets-fit [] l at zero h = refl
  sets-fit [] l at (suc n) h = refl
  sets-fit (a ∷ vs) l at zero h = sets-out (a ∷ vs) l at (omega arith)
  sets-fit (a ∷ vs) l at (suc n) h = sets-fit vs (set l at a) (suc at) n (rw length-set (omega arith))

  -- as many as there is room for, between what was before and behind them
  pub sets-part : (vs l ys : List A) (at n : ℕ) → at < length l → n ≡ min (length vs) (length l - at) → ys ≡ take n vs
      → take at l ++ (ys ++ drop (at + n - at) (drop at l)) ≡ sets l at vs
  sets-part vs l ys at n h e t =
      let len : length (take n vs) ≡ n = length-take-le n vs (omega arith) in
      lent_back at n ys (take n vs) l t
      ∙ ap (λ (k : ℕ). put at k (take n vs) l) (sym len)
      ∙ sym (sets-put at (take n vs) l (omega (arith, len)))
      ∙ sym (sets-fit vs l at n (omega (arith, e)))
