-- From the highest byte down, the value is the number that the bytes from `i` on spell.
use Rattle.std.proofs.Common.{ℕ, ◌+◌, ◌-◌, ◌*◌, ap, ◌∙◌, arith}
use Rattle.feed.proofs.Spelling.{number-none, number_more, room-for-more}
use Rattle.feed.proofs.numbers.number_at.Goals as goal

pub overflow_mul-value : goal.overflow_mul-value
overflow_mul-value c = omega (arith, c.loop-i.invariant, room-for-more c.args.bytes.now (λ i. omega (arith, c.type_inv.bytes i)) (c.args.many - c.loop-i.i) (c.args.at + c.loop-i.i) (omega arith))

pub overflow_add-value : goal.overflow_add-value
overflow_add-value c = let known = c.type_inv.bytes in
    omega (arith, c.loop-i.invariant, c.from.ensures, known (c.args.at + (c.loop-i.i - 1)), room-for-more c.args.bytes.now (λ i. omega (arith, known i)) (c.args.many - c.loop-i.i) (c.args.at + c.loop-i.i) (omega arith))

pub loop-i-preserved : goal.loop-i-preserved
loop-i-preserved c = ap (λ (w : ℕ). 256 * c.loop-i.value + w) c.from.ensures ∙ number_more c.args.bytes.now c.args.at c.loop-i.i c.args.many c.loop-i.value (omega arith) (omega arith) c.loop-i.invariant

pub loop-i-init : goal.loop-i-init
loop-i-init c = number-none _ _ _
