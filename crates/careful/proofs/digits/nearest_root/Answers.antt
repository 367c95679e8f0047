-- `nearest_root`: the judge takes any guess. Assumes nothing.
use Prim.Native.Nat.{◌+◌, ◌*◌}
use native.Mathlib.Omega.{arith}
use Rattle.careful.specs.Digits.{Radicand}
use Rattle.careful.proofs.Roots.{radicand}
use Rattle.careful.proofs.digits.nearest_root.Goals as goal
use Rattle.careful.proofs.digits.nearest_root.Goals.{Start}

taken : (c : Start) → Radicand (c.args.digits * (1 + c.args.odd))
taken c = radicand c.args.digits c.args.odd c.requires.0 c.requires.1 c.requires.2

pub overflow_mul-digits : goal.overflow_mul-digits
overflow_mul-digits c = let r = taken (goal.at.overflow_mul-digits c).Start in omega arith

pub nearest-requires : goal.nearest-requires
nearest-requires c = (omega arith, c.leading.ensures.1, taken (goal.at.nearest-requires c).Start)
