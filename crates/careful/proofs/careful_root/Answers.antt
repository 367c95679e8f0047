-- `careful_root`: the digits that the judge accepts, below the exponent halved, are the bits of the root. Assumes nothing.
use mathlib.Core.Path.{sym, subst}
use Prim.Native.Nat.{ℕ, ◌+◌, ◌*◌, ◌/◌, ◌^◌, ◌≤◌, ◌<◌}
use native.Mathlib.Omega.{arith}
use lib.Dec.{T}
use lib.Ieee.{binary64, fits}
use Rattle.doubles.specs.Split.{Split}
use Rattle.doubles.proofs.Bits.{no_nan, no-nan-bits, splits}
use Rattle.careful.proofs.Roots.{root-bits}
use Rattle.careful.proofs.careful_root.Goals as goal
use Rattle.careful.proofs.careful_root.Goals.{After-split-p}

room : (k q : ℕ) → k < 2098 → q < 2 ^ 53 → (k / 2 + 485) * 2 ^ 52 + q ≤ 2047 * 2 ^ 52
room k q a b = omega arith

-- the digits are the number's
split : (c : After-split-p) → Split c.args.x c.split-p.result.digits c.split-p.result.shift
split c =
    let held : T (fits binary64 c.args.x) = subst T (sym c.well_formed.0.1) tt in
    splits c.args.x c.split-p.result held c.requires c.split-p.ensures

pub float_to_bits-x : goal.float_to_bits-x
float_to_bits-x c = no_nan c.args.x c.requires

pub nearest_root-q-requires : goal.nearest_root-q-requires
nearest_root-q-requires c = let s = split (goal.at.nearest_root-q-requires c).After-split-p in (s.long, s.short, omega arith)

pub overflow_mul-result : goal.overflow_mul-result
overflow_mul-result c = let s = split (goal.at.overflow_mul-result c).After-split-p in omega arith

pub overflow_add-result-2 : goal.overflow_add-result-2
overflow_add-result-2 c = let s = split (goal.at.overflow_add-result-2 c).After-split-p in omega arith

pub float_from_bits-result : goal.float_from_bits-result
float_from_bits-result c = no-nan-bits _ (room _ _ (split (goal.at.float_from_bits-result c).After-split-p).small c.nearest_root-q.ensures.1)

pub returns : goal.returns
returns c =
    let p = c.split-p.result in
    let n = c.nearest_root-q in
    root-bits c.args.x p.digits p.shift n.result c.requires (split (goal.at.returns c).After-split-p) n.ensures.0 n.ensures.1
