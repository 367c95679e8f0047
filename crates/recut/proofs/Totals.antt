-- The total as its loop does it: one importance more, and the end.
use mathlib.Core.Path.{◌≡◌}
use mathlib.Core.List.{List}
use Prim.Native.Nat.{ℕ, ◌+◌, ◌≤◌, ◌<◌}
use native.Mathlib.Numerals.{add-one}
use lib.ListN.{length, get_or, drop, drop_of_length-le}
use lib.Seq.{drop-cons}
use lib.Ieee.{Float, nan, binary64, add}
use Rattle.doubles.specs.Total.{total_of}

pub total-next : (l : List Float) (i : ℕ) (t : Float) → i < length l → total_of t (drop i l) ≡ total_of (add binary64 t (get_or l i nan)) (drop (i + 1) l)
unfolding total_of
total-next l i t h = rw (add-one, drop-cons l i nan h)

pub total-end : (l : List Float) (i : ℕ) (t : Float) → length l ≤ i → total_of t (drop i l) ≡ t
unfolding total_of
total-end l i t h = rw (drop_of_length-le l h)
