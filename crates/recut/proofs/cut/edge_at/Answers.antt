-- `recut::cut::edge_at` meets its contract: it computes the definition.
use mathlib.Core.Path.{refl}
use Rattle.recut.specs.Cut.{edge_at}
use Rattle.recut.proofs.cut.edge_at.Goals as goal

pub returns : goal.returns
unfolding edge_at
returns c = refl
