-- Runs of entries written over others one after the other, as far as there is room.
use mathlib.Core.Path.{◌≡◌, refl, sym, ap, ◌∙◌}
use mathlib.Core.Logic.{inl, inr, ◌⊎◌}
use mathlib.Core.List.{List, [], ◌∷◌}
use Prim.Native.Nat.{ℕ, suc, ◌+◌, ◌-◌, ◌≤◌, ◌<◌}
use native.Mathlib.Omega.{arith}
use lib.ListN.{length, drop, get_or, set, drop_of_length-le}
use lib.Seq.{sets, set_out, drop-cons}

-- a loop of as many turns as both allow has come to the end of one of them
pub ended : (p l k at i n : ℕ) → k ≡ l → n ≤ i → at ≤ l → (p ≤ n) ⊎ (l - at ≤ n) → (p ≤ i) ⊎ (k ≤ at + i)
ended p l k at i n e h b (inl f) = inl (omega arith)
ended p l k at i n e h b (inr f) = inr (omega (arith, e))

module _ {A : Type 0} where
  -- past the last entry nothing is written
  pub sets-out : (vs l : List A) (i : ℕ) → length l ≤ i → sets l i vs ≡ l
  sets-out [] l i h = refl
  sets-out (a ∷ vs) l i h = ap (λ (k : List A). sets k (suc i) vs) (set_out l i a h) ∙ sets-out vs l (suc i) (omega arith)

  -- one more entry is written, or none is left or fits
  pub sets-next : (d : A) (vs l : List A) (at i : ℕ) → i < length vs
      → sets (set l (at + i) (get_or vs i d)) (at + (i + 1)) (drop (i + 1) vs) ≡ sets l (at + i) (drop i vs)
  sets-next d vs l at i h =
      let e : at + (i + 1) ≡ suc (at + i) = omega arith in
      let f : i + 1 ≡ suc i = omega arith in
      ap (λ (k : ℕ). sets (set l (at + i) (get_or vs i d)) k (drop (i + 1) vs)) e
      ∙ ap (λ (k : ℕ). sets (set l (at + i) (get_or vs i d)) (suc (at + i)) (drop k vs)) f
      ∙ ap (λ (r : List A). sets l (at + i) r) (sym (drop-cons vs i d h))

  pub sets-done : (vs l : List A) (at i : ℕ) → (length vs ≤ i) ⊎ (length l ≤ at + i) → sets l (at + i) (drop i vs) ≡ l
  sets-done vs l at i (inl h) = ap (λ (r : List A). sets l (at + i) r) (drop_of_length-le vs h)
  sets-done vs l at i (inr h) = sets-out (drop i vs) l (at + i) h
