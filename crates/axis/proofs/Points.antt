-- The draw: its bin is one of the axis's and its point a number in [0, 1], for every unit draw; and a guess that the draw lies in is its bin.
use mathlib.Core.Path.{◌≡◌, refl, sym, ap, subst, ◌∙◌}
use mathlib.Core.Bool.{true, false, ◌&&◌}
use mathlib.Core.List.{List}
use Prim.Native.Nat.{ℕ, ◌+◌, ◌^◌, ◌≤◌, ◌<◌}
use native.Mathlib.Omega.{arith}
use lib.ListN.{length, get_or}
use lib.Ieee.{Float, nan, binary64, add, sub, mul, lt, le, of_bits, of_int}
use lib.Ieee.Exact.{HasValue}
use Rattle.doubles.specs.Numbers.{one64}
use Rattle.doubles.specs.Count.{count_of}
use Rattle.doubles.specs.Whole.{whole_of}
use Rattle.doubles.proofs.Truth.{both}
use Rattle.doubles.proofs.Order.{le-trans-float}
use Rattle.doubles.proofs.Wholes.{whole-between, count_add}
use Rattle.doubles.proofs.Monotone.{value-unsigned}
use Rattle.doubles.proofs.Draws.{last64, draw-index, draw-offset, offset-at-most}
use Rattle.doubles.proofs.Between.{Between, between}
use Rattle.axis.specs.declared.Spot.{Spot}
use Rattle.axis.specs.Edges.{bins_of, well_formed, in_unit, width_of, weight_of}
use Rattle.axis.specs.Calls.{point_of, drawn_bin, spot_of}
use Rattle.axis.proofs.Bins.{formed, and, rises, edge-low, edge-high}

-- r is a unit draw where it is K / 2^53 for a K below 2^53 (crate stream, unit-exact)
pub drawn-bin : (es : List Float) (K : ℕ) (r : Float) → 1 ≤ bins_of es → bins_of es ≤ 2 ^ 53 → K < 2 ^ 53 → HasValue r false K (2 ^ 53)
    → whole_of (mul binary64 (count_of (bins_of es)) r) < bins_of es
drawn-bin es K r some few k v = draw-index (bins_of es) K r some few k v

-- the spot of bin i of n
abbrev spot_in : List Float → ℕ → Float → ℕ → Spot
spot_in es n r i = record {
  point = record {
    at = add binary64 (get_or es i nan) (mul binary64 (sub binary64 (mul binary64 (count_of n) r) (count_of i)) (width_of es i));
    weight = mul binary64 (count_of n) (width_of es i);
  };
  bin = i;
}

pub guessed : (es : List Float) (n : ℕ) (r : Float) (i : ℕ) → n ≡ bins_of es → i < 2 ^ 53
    → (le (count_of i) (mul binary64 (count_of n) r) && lt (mul binary64 (count_of n) r) (count_of (i + 1))) ≡ true
    → spot_in es n r i ≡ spot_of es r
unfolding spot_of point_of drawn_bin weight_of
guessed es n r i e small t =
    let h = both _ _ t in
    ap (spot_in es n r) (sym (whole-between (mul binary64 (count_of n) r) i small h.0 h.1))
    ∙ ap (λ (m : ℕ). spot_in es m r (whole_of (mul binary64 (count_of m) r))) e

one_count : one64 ≡ count_of 1
unfolding count_of of_int of_bits
one_count = refl

-- the same where the bin's end is the bin and one more
pub guessed-up : (es : List Float) (n : ℕ) (r : Float) (i : ℕ) → n ≡ bins_of es → i < 2 ^ 53
    → (le (count_of i) (mul binary64 (count_of n) r) && lt (mul binary64 (count_of n) r) (add binary64 (count_of i) one64)) ≡ true
    → spot_in es n r i ≡ spot_of es r
guessed-up es n r i e small t =
    let up : add binary64 (count_of i) one64 ≡ count_of (i + 1) = ap (add binary64 (count_of i)) one_count ∙ count_add i 1 (omega arith) (omega arith) in
    guessed es n r i e small (subst (λ (x : Float). (le (count_of i) (mul binary64 (count_of n) r) && lt (mul binary64 (count_of n) r) x) ≡ true) up t)

last-below : le last64 one64 ≡ true
unfolding le of_bits
last-below = refl

pub point-in-unit : (es : List Float) (K : ℕ) (r : Float) → well_formed es ≡ true → bins_of es ≤ 2 ^ 53 → K < 2 ^ 53 → HasValue r false K (2 ^ 53)
    → in_unit (point_of es r).at ≡ true
unfolding in_unit point_of width_of bins_of
point-in-unit es K r w few k v =
    let f = formed es w in
    let e = f.few in
    let some : 1 ≤ bins_of es = omega arith in
    let scaled = mul binary64 (count_of (bins_of es)) r in
    let i = whole_of scaled in
    let h : i < bins_of es = drawn-bin es K r some few k v in
    let o = draw-offset (bins_of es) K r some few k v in
    let t = sub binary64 scaled (count_of i) in
    let next : i + 1 < length es = omega arith in
    let b : Between (get_or es i nan) (get_or es (i + 1) nan) t =
    between (get_or es i nan) (get_or es (i + 1) nan) t (edge-low es r f i (omega arith)) (rises es f.up i (i + 1) (omega arith) next) (edge-high es r f (i + 1) next)
    (value-unsigned t o.t (2 ^ 1074) o.exact) (le-trans-float t last64 one64 (offset-at-most scaled i o) last-below) in
    and _ _ b.from_zero b.at_most_one
