-- What `renew` answers: the refusals in their order, then the new edges.
use Rattle.std.specs.Prelude.{ℕ, ◌+◌, ◌-◌, Bool, not, cond, ◌&&◌, List, leb, eqb, length, Float, Result, Ok, Err}
use Rattle.std.specs.Float.{binary64}
use Rattle.std.specs.Float.Ieee.{div}
use Rattle.doubles.specs.Numbers.{zero64}
use Rattle.doubles.specs.Count.{count_of}
use Rattle.doubles.specs.Finite.{finite_of}
use Rattle.doubles.specs.Total.{total_of, all_finite}
use Rattle.doubles.specs.Paper.{Paper, gives, refuses}
use Rattle.doubles.specs.Refusal.{number_of}
use Rattle.doubles.specs.declared.refusal.Refusal.{Refusal}
use Rattle.axis.specs.Edges.{well_formed}
use Rattle.recut.specs.Weights.{normalised, smoothed, damped}
use Rattle.recut.specs.Cut.{cuts_of}

-- the answer, with the edges that then stand in the room; after a refusal the room says nothing
unfoldable pub paper_renewed : Result (Unit {0}) Refusal → List Float → Paper (List Float)
paper_renewed (Ok u) room = gives room
paper_renewed (Err r) room = refuses (number_of r)

-- the lengths of one axis, else 10: some bins, an edge more, as many counters, and places for at least one new bin
unfoldable pub lengths_fit : List Float → List Float → List ℕ → ℕ → Bool
lengths_fit es qs ns places = leb 1 (length qs) && (eqb (length es) (length qs + 1) && (eqb (length ns) (length qs) && leb 2 places))

-- 8: an importance is not finite, or their total is not
abbrev pub finite : List Float → Paper (List Float) → Paper (List Float)
finite qs p = cond (not (all_finite qs)) (refuses 8) p

abbrev pub finite_total : List Float → Paper (List Float) → Paper (List Float)
finite_total qs p = cond (not (finite_of (total_of zero64 qs))) (refuses 8) p

-- 9: the finished edges do not rise strictly from 0 to 1
unfoldable pub edges_of : List Float → Paper (List Float)
edges_of new = cond (not (well_formed new)) (refuses 9) (gives new)

-- the weight of a new bin
unfoldable pub step_of : List Float → ℕ → Float
step_of qs places = div binary64 (total_of zero64 qs) (count_of (places - 1))

-- from the damped importances on
unfoldable pub from_damped : List Float → List Float → ℕ → Paper (List Float)
from_damped es ds places = finite ds (finite_total ds (edges_of (cuts_of es ds (step_of ds places) places)))

-- from the smoothed ones on
unfoldable pub from_smoothed : List Float → List Float → Float → ℕ → Paper (List Float)
from_smoothed es ss rate places = finite ss (finite_total ss (from_damped es (damped (total_of zero64 ss) rate ss) places))

-- from those divided by their counts on
unfoldable pub from_divided : List Float → List Float → Float → ℕ → Paper (List Float)
from_divided es qs rate places = finite qs (from_smoothed es (smoothed qs) rate places)

-- new edges in a room of so many places, one more than the new number of bins
unfoldable pub renew_of : List Float → List Float → List ℕ → Float → ℕ → Paper (List Float)
renew_of es qs ns rate places = cond (not (lengths_fit es qs ns places)) (refuses 10) (from_divided es (normalised qs ns) rate places)
