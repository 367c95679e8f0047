-- Five comparisons in the definition's order; where all of them fail the second finding is the answer.
use Rattle.lent.specs.Matched.{worse_of}
use Rattle.doubles.specs.declared.refusal.Refusal.TheVariants as refusal
use Rattle.merges.proofs.Findings.{found-as}
use Rattle.merges.proofs.matching.worse.Goals as goal
use Rattle.merges.proofs.matching.worse.Goals.{then-eq-via-then-eq, then-eq-via-else-eq+then-eq-2, then-eq-3-via-then-eq-3, then-eq-3-via-else-eq-3+then-eq-4}

pub returns-then-eq : goal.returns-then-eq
unfolding worse_of
returns-then-eq c =
    elim c.then-eq.branch [
      | then-eq-via-then-eq w ↦ rw (found-as refusal.Form c.args.a _ _ c.eq.ensures w.if-eq.true)
      | then-eq-via-else-eq+then-eq-2 w ↦ rw (found-as refusal.Form c.args.a _ _ c.eq.ensures w.if-eq.false, found-as refusal.Form c.args.b _ _ w.eq-else-eq.ensures w.if-eq-2.true)
    ]

pub returns-then-eq-3 : goal.returns-then-eq-3
unfolding worse_of
returns-then-eq-3 c =
    let p = found-as refusal.Form c.args.a _ _ c.eq.ensures c.if-eq.false in
    let q = found-as refusal.Form c.args.b _ _ c.eq-else-eq.ensures c.if-eq-2.false in
    elim c.then-eq-3.branch [
      | then-eq-3-via-then-eq-3 w ↦ rw (p, q, found-as refusal.Unequal c.args.a _ _ c.eq-2.ensures w.if-eq-3.true)
      | then-eq-3-via-else-eq-3+then-eq-4 w ↦ rw (p, q, found-as refusal.Unequal c.args.a _ _ c.eq-2.ensures w.if-eq-3.false, found-as refusal.Unequal c.args.b _ _ w.eq-else-eq-3.ensures w.if-eq-4.true)
    ]

pub returns-then-eq-5 : goal.returns-then-eq-5
unfolding worse_of
returns-then-eq-5 c = rw (found-as refusal.Form c.args.a _ _ c.eq.ensures c.if-eq.false, found-as refusal.Form c.args.b _ _ c.eq-else-eq.ensures c.if-eq-2.false, found-as refusal.Unequal c.args.a _ _ c.eq-2.ensures c.if-eq-3.false, found-as refusal.Unequal c.args.b _ _ c.eq-else-eq-3.ensures c.if-eq-4.false, found-as refusal.Overflow c.args.a _ _ c.eq-3.ensures c.if-eq-5.true)

pub returns : goal.returns
unfolding worse_of
returns c = rw (found-as refusal.Form c.args.a _ _ c.eq.ensures c.if-eq.false, found-as refusal.Form c.args.b _ _ c.eq-else-eq.ensures c.if-eq-2.false, found-as refusal.Unequal c.args.a _ _ c.eq-2.ensures c.if-eq-3.false, found-as refusal.Unequal c.args.b _ _ c.eq-else-eq-3.ensures c.if-eq-4.false, found-as refusal.Overflow c.args.a _ _ c.eq-3.ensures c.if-eq-5.false)
