-- What was judged is written where there is room.
use native.Mathlib.Omega.{arith}
use Rattle.plan.proofs.Calls.{put-short, writable, put_whole}
use Rattle.plan.proofs.put.Goals as goal

pub returns-then-table-past : goal.returns-then-table-past
returns-then-table-past c = put-short _ _ c.requires c.if-table-past.true

pub write-requires : goal.write-requires
write-requires c = writable _ c.args.table.now c.requires c.if-table-past.false (λ i. omega (arith, c.type_inv.bytes i)) c.start.ensures

pub returns : goal.returns
returns c = put_whole _ _ c.requires c.if-table-past.false _ c.start.ensures c.read_to.ensures c.write.ensures.1
