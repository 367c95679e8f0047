-- `put_line`: one part of the line behind the other.
use mathlib.Core.List.{[], ◌∷◌}
use Rattle.integrate.specs.Lines.{decimal_of, double_of, line_of}
use Rattle.integrate.proofs.Placing.{behind}
use borrow.Author.Rules.{rules}
use Rattle.integrate.proofs.lines.put_line.Goals as goal

pub returns : goal.returns
unfolding line_of
returns c = (
  search rules,
  behind (10 ∷ []) c.put_bytes.ensures.1
      (behind (double_of c.args.s.chi_squared) c.put_double-chi_squared.ensures.1
      (behind (double_of c.args.s.error) c.put_double-error.ensures.1
      (behind (double_of c.args.s.average) c.put_double-average.ensures.1
      (behind (decimal_of c.args.s.samples) c.put_decimal-samples.ensures.1
      (behind (32 ∷ []) c.put_bytes-blank.ensures.1
      c.put_decimal-iterations.ensures.1))))),
)
