-- Probabilities as their loops do them: one more, and the end.
use mathlib.Core.Path.{◌≡◌}
use mathlib.Core.Bool.{Bool, ◌&&◌, and_assoc, and-true}
use mathlib.Core.List.{List}
use Prim.Native.Nat.{ℕ, ◌+◌, ◌≤◌, ◌<◌}
use native.Mathlib.Numerals.{add-one}
use lib.ListN.{length, get_or, drop, drop_of_length-le}
use lib.Seq.{drop-cons}
use lib.Ieee.{Float, nan}
use Rattle.recut.specs.Chances.{chance, all_chances, higher, highest}

pub highest-next : (l : List Float) (i : ℕ) (t : Float) → i < length l → highest t (drop i l) ≡ highest (higher t (get_or l i nan)) (drop (i + 1) l)
unfolding highest
highest-next l i t h = rw (add-one, drop-cons l i nan h)

pub highest-end : (l : List Float) (i : ℕ) (t : Float) → length l ≤ i → highest t (drop i l) ≡ t
unfolding highest
highest-end l i t h = rw (drop_of_length-le l h)

pub chances-next : (l : List Float) (i : ℕ) (ok : Bool) → i < length l → ((ok && chance (get_or l i nan)) && all_chances (drop (i + 1) l)) ≡ (ok && all_chances (drop i l))
unfolding all_chances
chances-next l i ok h = rw (add-one, drop-cons l i nan h) (and_assoc ok _ _)

pub chances-end : (l : List Float) (i : ℕ) (ok : Bool) → length l ≤ i → (ok && all_chances (drop i l)) ≡ ok
unfolding all_chances
chances-end l i ok h = rw (drop_of_length-le l h) (and-true ok)
