-- `ceiling` is the whole part, or one more where that lies below v. Assumes nothing.
use native.Mathlib.Omega.{arith}
use mathlib.Core.Path.{◌≡◌, subst}
use mathlib.Core.Bool.{true, false}
use lib.Ieee.{Float, lt}
use Rattle.real.proofs.Floors.{ceiling-room, ceiling-next, ceiling-same}
use Rattle.real.proofs.exp.ceiling.Goals as goal

pub overflow_add-result : goal.overflow_add-result
overflow_add-result c = let l = ceiling-room c.args.v c.whole-n.result c.requires.0 c.requires.1 c.whole-n.ensures in
    omega arith

pub returns-then-count-v : goal.returns-then-count-v
returns-then-count-v c = let r = ceiling-next c.args.v c.whole-n.result c.requires.0 c.requires.1 c.whole-n.ensures (subst (λ (y : Float). lt y c.args.v ≡ true) c.count.ensures c.if-count-v.true) in
    (r.least, r.some, r.small)

pub returns : goal.returns
returns c = let r = ceiling-same c.args.v c.whole-n.result c.requires.0 c.requires.1 c.whole-n.ensures (subst (λ (y : Float). lt y c.args.v ≡ false) c.count.ensures c.if-count-v.false) in
    (r.least, r.some, r.small)
