-- The largest bin number, and doubles in their ranges.
use mathlib.Core.Path.{◌≡◌, refl}
use mathlib.Core.Bool.{Bool, true, false, cond}
use mathlib.Core.List.{List, [], ◌∷◌}
use Prim.Native.Nat.{ℕ, max, ◌≤◌}
use native.Mathlib.Omega.{arith}
use lib.Dec.{ltb}
use Rattle.std.specs.Prelude.{None, Some, unwrap_or}
use borrow.Author.Tests.{ltb-true}
use Rattle.std.proofs.lemmas.Bool.Decides.{nat_tests}
use lib.Ieee.{Float, nan, inf, fin, is_nan, binary64, of_bits, le}
use Rattle.plan.specs.Ranges.{within, floor_fits, ratio_fits, bounded, larger, most_of, most_if_bounded, scanned}
use Rattle.plan.proofs.Flags.{and_left, and_right, at_most}

pub scan-in : (m v : ℕ) (vs : List ℕ) → within 1 1024 v ≡ true → most_if_bounded m (v ∷ vs) ≡ most_if_bounded (larger m v) vs
unfolding bounded most_of
scan-in m v vs e = rw e

pub scan-out : (m v : ℕ) (vs : List ℕ) → within 1 1024 v ≡ false → most_if_bounded m (v ∷ vs) ≡ None
unfolding bounded
scan-out m v vs e = rw e

pub larger-max : (m v : ℕ) → max m v ≡ larger m v
unfolding larger
larger-max m v = grind (arith, nat_tests)

larger-least : (m v : ℕ) → m ≤ larger m v
unfolding larger
larger-least m v = go (ltb m v) refl
  where
    go : (b : Bool) → ltb m v ≡ b → m ≤ cond b v m
    go true e = omega (arith, ltb-true m v e)
    go false e = omega arith

larger-within : (m v : ℕ) → m ≤ 1024 → v ≤ 1024 → larger m v ≤ 1024
unfolding larger
larger-within m v h k = go (ltb m v)
  where
    go : (b : Bool) → cond b v m ≤ 1024
    go true = k
    go false = h

pub most-least : (m : ℕ) (vs : List ℕ) → m ≤ most_of m vs
unfolding most_of
most-least m [] = omega arith
most-least m (v ∷ vs) = omega (arith, larger-least m v, most-least (larger m v) vs)

pub most-within : (m : ℕ) (vs : List ℕ) → m ≤ 1024 → bounded vs ≡ true → most_of m vs ≤ 1024
unfolding most_of bounded
most-within m [] h b = h
most-within m (v ∷ vs) h b =
    most-within (larger m v) vs (larger-within m v h (at_most 1 1024 v (and_left (within 1 1024 v) (bounded vs) b))) (and_right (within 1 1024 v) (bounded vs) b)

-- the scan, or 0
pub scan-or : (m : ℕ) (vs : List ℕ) → unwrap_or (most_if_bounded m vs) 0 ≡ scanned m vs
unfolding scanned
scan-or m vs = go (bounded vs)
  where
    go : (b : Bool) → unwrap_or (cond b (Some (most_of m vs)) None) 0 ≡ cond b (most_of m vs) 0
    go true = refl
    go false = refl

pub scan-most : (m : ℕ) (vs : List ℕ) → bounded vs ≡ true → scanned m vs ≡ most_of m vs
unfolding scanned
scan-most m vs e = rw e

-- no NaN is in a range
nan-low : (x y : Float) → is_nan y ≡ true → le x y ≡ false
unfolding is_nan le
nan-low nan nan e = refl
nan-low (inf s) nan e = refl
nan-low (fin s m x) nan e = refl
nan-low x (inf s) e = absurd (let z : ◌≡◌ {A = ℕ} 0 1 = cc in omega arith)
nan-low x (fin s m y) e = absurd (let z : ◌≡◌ {A = ℕ} 0 1 = cc in omega arith)

pub nan-floor : (bits : ℕ) → is_nan (of_bits binary64 bits) ≡ true → false ≡ floor_fits bits
unfolding floor_fits
nan-floor bits e = rw (nan-low (of_bits binary64 0) (of_bits binary64 bits) e)

pub nan-ratio : (bits : ℕ) → is_nan (of_bits binary64 bits) ≡ true → false ≡ ratio_fits bits
unfolding ratio_fits
nan-ratio bits e = rw (nan-low (of_bits binary64 0x3ff0_0000_0000_0000) (of_bits binary64 bits) e)
