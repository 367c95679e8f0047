-- `probing::weigh_on` meets its contract: the search by halves finds the rule's bin on well-formed edges.
use Rattle.axis.proofs.Searches.{search_is}
use Rattle.quiet.proofs.probing.weigh_on.Goals as goal

pub returns : goal.returns
returns c = rw (c.if-free.false, c.weight_of.ensures, c.bin_of.ensures, search_is c.args.edges.now c.args.x c.requires.0 (rw c.if-free.false at c.requires.1))
