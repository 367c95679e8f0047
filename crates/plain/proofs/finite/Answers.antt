-- `finite` tells the infinities by comparing with them; a NaN fails the first comparison. Assumes nothing.
use Rattle.std.proofs.Common.{◌≡◌, true, false, refl, true≢false}
use mathlib.Core.Bool.{false≢true}
use lib.Ieee.{Float, nan, inf, fin, binary64, of_bits, div, neg, lt}
use Rattle.doubles.specs.Numbers.{zero64, one64}
use Rattle.doubles.specs.Finite.{finite_of}
use Rattle.plain.proofs.finite.Goals as goal

abbrev infinity : Float
infinity = div binary64 one64 zero64

below : (x : Float) → lt x infinity ≡ true → lt (neg infinity) x ≡ finite_of x
unfolding lt neg div of_bits finite_of
below nan h = absurd (false≢true h)
below (inf true) h = refl
below (inf false) h = absurd (false≢true h)
below (fin s m e) h = refl

above : (x : Float) → lt x infinity ≡ false → false ≡ finite_of x
unfolding lt div of_bits finite_of
above nan h = refl
above (inf s) h = refl
above (fin s m e) h = absurd (true≢false h)

pub returns-then-x-infinity : goal.returns-then-x-infinity
returns-then-x-infinity c = below c.args.x c.if-x-infinity.true

pub returns-else-x-infinity : goal.returns-else-x-infinity
returns-else-x-infinity c = above c.args.x c.if-x-infinity.false
