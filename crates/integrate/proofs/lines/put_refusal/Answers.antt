-- `put_refusal`: one part of the line behind the other.
use mathlib.Core.List.{[], ◌∷◌}
use Rattle.integrate.specs.Lines.{decimal_of, at, refusal_of}
use Rattle.integrate.proofs.Placing.{behind}
use borrow.Author.Rules.{rules}
use Rattle.integrate.proofs.lines.put_refusal.Goals as goal

pub returns : goal.returns
unfolding refusal_of
returns c = (
  search rules,
  behind (10 ∷ []) c.put_bytes.ensures.1
      (behind (decimal_of c.args.offset) c.put_decimal-placed.ensures.1
      (behind (at) c.put_bytes-at.ensures.1
      (behind (decimal_of c.args.number) c.put_decimal-numbered.ensures.1
      c.put_bytes-refused.ensures.1))),
)
