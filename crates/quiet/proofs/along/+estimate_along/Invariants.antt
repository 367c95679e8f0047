-- Level by level the definition answers as the code branches; the levels left fall, so it ends.
use Rattle.quiet.proofs.along.+estimate_along.Given as goal

abbrev pub decreases-estimate_along : goal.decreases-estimate_along
decreases-estimate_along l = l.level
