-- `layout::holds_place` meets its contract: no sum is made before it is known to fit.
use mathlib.Core.Path.{sym}
use native.Mathlib.Omega.{arith}
use Rattle.lent.proofs.Places.{short, head-there}
use Rattle.lent.proofs.layout.holds_place.Goals as goal

pub returns-then-table-lt11 : goal.returns-then-table-lt11
returns-then-table-lt11 c = sym (short c.args.table.now c.args.w (omega arith))

pub overflow_sub-table : goal.overflow_sub-table
overflow_sub-table c = omega arith

pub returns-then-table-w : goal.returns-then-table-w
returns-then-table-w c = sym (short c.args.table.now c.args.w (omega arith))

pub overflow_add-w : goal.overflow_add-w
overflow_add-w c = omega arith

pub word-requires : goal.word-requires
word-requires c = omega arith

pub overflow_add-w-2 : goal.overflow_add-w-2
overflow_add-w-2 c = omega arith

pub word-requires-2 : goal.word-requires-2
word-requires-2 c = omega arith

pub returns : goal.returns
returns c = rw (c.word.ensures, c.word-2.ensures) (sym (head-there c.args.table.now c.args.w (omega arith)))
