-- The edges written, with the even ones still to come, are all of them; each write makes the next.
use native.Mathlib.Omega.{arith}
use mathlib.Core.Path.{◌≡◌, sym, ap, ap₂, ◌∙◌}
use mathlib.Core.List.{◌++◌, append-nil}
use Prim.Native.Nat.{◌+◌, ◌-◌}
use lib.ListN.{length, take, set}
use lib.Seq.{take_all}
use lib.Ieee.{Float, nan, binary64, div}
use Rattle.doubles.specs.Count.{count_of}
use Rattle.axis.specs.Edges.{bins_of, even_from}
use Rattle.axis.proofs.Lists.{write-next}
use Rattle.axis.proofs.Fresh.{even-next}
use Rattle.axis.proofs.edges.lay_even.Goals as goal

pub loop-i-preserved : goal.loop-i-preserved
loop-i-preserved c = let i = c.loop-i.i in let room = c.loop-i.room in let n = bins_of c.args.room.now in
    ap (λ (v : Float). take (i + 1) (set room i v) ++ even_from (length c.args.room.now - (i + 1)) (i + 1) n) (ap₂ (div binary64) c.count.ensures (c.count-n.ensures ∙ ap count_of c.bins.ensures))
    ∙ write-next nan room i (div binary64 (count_of i) (count_of n)) (even_from (length c.args.room.now - i) i n) (even_from (length c.args.room.now - (i + 1)) (i + 1) n) (omega arith) (even-next (length c.args.room.now) i n (omega arith))
    ∙ c.loop-i.invariant

pub returns : goal.returns
unfolding even_from
returns c = let e : length c.args.room.now - c.loop-i.i ≡ 0 = omega arith in
    sym (append-nil (take c.loop-i.i c.loop-i.room) ∙ take_all c.loop-i.i c.loop-i.room (omega arith)) ∙ (rw e at c.loop-i.invariant)
