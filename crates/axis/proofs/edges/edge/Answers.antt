-- Past its end a list reads as the default, here NaN.
use mathlib.Core.Path.{sym}
use lib.ListN.{get_or-eq_default}
use lib.Ieee.{nan, of_bits}
use borrow.Author.Tests.{ltb-false}
use Rattle.axis.proofs.edges.edge.Goals as goal

pub returns-in-None : goal.returns-in-None
unfolding of_bits
returns-in-None c = sym (get_or-eq_default c.args.edges.now nan (ltb-false _ _ (sym c.in-None.ensures.lookup.0)))
