-- `leading`: 26 digits and one of two scales bound every product. Assumes nothing.
use Rattle.std.proofs.Common.{ℕ, ◌+◌, ◌-◌, ◌*◌, ◌/◌, ◌%◌, ◌^◌, ◌≤◌, mul-le-mul, arith}
use Rattle.root.proofs.positive.leading.Goals as goal
use Rattle.root.proofs.positive.leading.Goals.{Joined-even-eq1, else-even-eq1, then-even-eq1}

-- the products that digits f and a scale s make
record Products (f s : ℕ) : Type 0 where
  scaled : (f + 95641766) * s ≤ 2 ^ 28 * 2 ^ 28
  bend : f * (386105540 - f) ≤ 2 ^ 26 * 2 ^ 29
  both : (f + 95641766) * s / 2 ^ 32 * (1888385671 - f * (386105540 - f) / 2 ^ 26) ≤ 2 ^ 24 * 2 ^ 31

products : (f s : ℕ) → f ≤ 2 ^ 26 → s ≤ 2 ^ 28 → Products f s
products f s h l =
    let i : f + 95641766 ≤ 2 ^ 28 = omega arith in
    let j : 386105540 - f ≤ 2 ^ 29 = omega arith in
    let k : (f + 95641766) * s ≤ 2 ^ 28 * 2 ^ 28 = mul-le-mul i l in
    let first : (f + 95641766) * s / 2 ^ 32 ≤ 2 ^ 24 = omega arith in
    let second : 1888385671 - f * (386105540 - f) / 2 ^ 26 ≤ 2 ^ 31 = omega arith in
    record { scaled = k; bend = mul-le-mul h j; both = mul-le-mul first second }

-- those that the code makes
here : (c : Joined-even-eq1) → Products (c.args.bits % 2 ^ 52 / 2 ^ 26) c.if-even-eq1.scale
here c = products (c.args.bits % 2 ^ 52 / 2 ^ 26) c.if-even-eq1.scale (omega arith) (elim c.if-even-eq1.branch [ then-even-eq1 w ↦ omega arith | else-even-eq1 w ↦ omega arith ])

pub overflow_mul-first : goal.overflow_mul-first
overflow_mul-first c = let p = here (goal.at.overflow_mul-first c).Joined-even-eq1 in omega arith

pub overflow_mul-second : goal.overflow_mul-second
overflow_mul-second c = let p = here (goal.at.overflow_mul-second c).Joined-even-eq1 in omega arith

pub overflow_sub-second-2 : goal.overflow_sub-second-2
overflow_sub-second-2 c = let p = here (goal.at.overflow_sub-second-2 c).Joined-even-eq1 in omega arith

pub overflow_mul-p : goal.overflow_mul-p
overflow_mul-p c = let p = here (goal.at.overflow_mul-p c).Joined-even-eq1 in omega arith

pub returns : goal.returns
returns c = let p = here (goal.at.returns c).Joined-even-eq1 in omega arith
