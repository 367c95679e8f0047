-- `put_decimal`: the digits that `io` makes, put behind `from`.
use mathlib.Core.Path.{◌∙◌}
use native.Mathlib.Omega.{arith}
use Rattle.integrate.proofs.Decimal.{decimal-few, decimal-is}
use Rattle.integrate.proofs.lines.put_decimal.Goals as goal

pub put_bytes-requires : goal.put_bytes-requires
put_bytes-requires c = let few = decimal-few _ _ c.ranges.n.fits c.decimal-many.ensures.len in
    let many = c.decimal-many.ensures.in_bounds.1 in
    omega arith

pub returns : goal.returns
returns c = let few = decimal-few _ _ c.ranges.n.fits c.decimal-many.ensures.len in
    let many = c.decimal-many.ensures.in_bounds.1 in
    let e = c.decimal-many.ensures.digits ∙ decimal-is _ _ few c.decimal-many.ensures.len in
    (omega (arith, c.put_bytes.ensures.0), rw e at c.put_bytes.ensures.1)
