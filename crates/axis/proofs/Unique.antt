-- Every input is answered, and in one way: each theorem is of `Pre` and `Post`, a call's contract as the prover reads it off the source.
use mathlib.Core.Path.{◌≡◌, sym, ◌∙◌}
use mathlib.Core.Bool.{Bool}
use Prim.Native.Nat.{ℕ}
use contract.Lifetimes.{Lfts}
use borrow.Fn.Kinds.{Dens, ended_of}
use denote.Triple.Clauses.{AtExit}
use lib.Ieee.{Float}
use Rattle.axis.specs.declared.Point.{Point}
use Rattle.axis.specs.declared.Spot.{Spot}
use Rattle.std.specs.Prelude.{Result}
use Rattle.doubles.specs.declared.refusal.Refusal.{Refusal}
use Rattle.doubles.proofs.Refusals.{paper-one}
use Rattle.axis.proofs.probe.Kinds as probe
use Rattle.axis.proofs.probe.Reads as probe-reads
use Rattle.axis.proofs.draw.Kinds as draw
use Rattle.axis.proofs.draw.Reads as draw-reads
use Rattle.axis.proofs.edges.bin_of.Kinds as bin-of
use Rattle.axis.proofs.edges.bin_of.Reads as bin-of-reads
use Rattle.axis.proofs.edges.weight_of.Kinds as weight-of
use Rattle.axis.proofs.edges.weight_of.Reads as weight-of-reads
use Rattle.axis.proofs.edges.spot_of.Kinds as spot_of_lem
use Rattle.axis.proofs.edges.spot_of.Reads as spot-of-reads
use Rattle.axis.proofs.edges.spot_near.Kinds as spot-near
use Rattle.axis.proofs.edges.spot_near.Reads as spot-near-reads
use Rattle.axis.proofs.edges.point_of.Kinds as point-of
use Rattle.axis.proofs.edges.point_of.Reads as point-of-reads
use Rattle.axis.proofs.scans.is_rising.Kinds as is-rising
use Rattle.axis.proofs.scans.is_rising.Reads as is-rising-reads
use Rattle.axis.proofs.scans.is_well_formed.Kinds as is-well-formed
use Rattle.axis.proofs.scans.is_well_formed.Reads as is-well-formed-reads
use Rattle.axis.proofs.scans.in_unit.Kinds as in-unit
use Rattle.axis.proofs.scans.in_unit.Reads as in-unit-reads
use Rattle.axis.proofs.scans.are_finite.Kinds as are-finite
use Rattle.axis.proofs.scans.are_finite.Reads as are-finite-reads
use Rattle.axis.proofs.scans.are_bounded.Kinds as are-bounded
use Rattle.axis.proofs.scans.are_bounded.Reads as are-bounded-reads
use Rattle.axis.proofs.edges.lay_even.Kinds as lay-even
use Rattle.axis.proofs.edges.lay_even.Reads as lay-even-reads

pub probe-total : (κs : Lfts 1) (a : Dens κs probe.ps) → probe-reads.Pre κs a
probe-total κs a = tt

pub probe-unique : (κs : Lfts 1) (a : Dens κs probe.ps) (r r' : Result Float Refusal) (s s' : AtExit (ended_of 1 probe.ps probe.r) κs)
    → probe-reads.Post κs a r s → probe-reads.Post κs a r' s' → r ≡ r'
probe-unique κs a r r' s s' p q = paper-one r r' (p ∙ sym q)

pub draw-total : (κs : Lfts 1) (a : Dens κs draw.ps) → draw-reads.Pre κs a
draw-total κs a = tt

pub draw-unique : (κs : Lfts 1) (a : Dens κs draw.ps) (r r' : Result Point Refusal) (s s' : AtExit (ended_of 1 draw.ps draw.r) κs)
    → draw-reads.Post κs a r s → draw-reads.Post κs a r' s' → r ≡ r'
draw-unique κs a r r' s s' p q = paper-one r r' (p ∙ sym q)

pub bin-of-total : (κs : Lfts 1) (a : Dens κs bin-of.ps) → bin-of-reads.Pre κs a
bin-of-total κs a = tt

pub bin-of-unique : (κs : Lfts 1) (a : Dens κs bin-of.ps) (r r' : ℕ) (s s' : AtExit (ended_of 1 bin-of.ps bin-of.r) κs)
    → bin-of-reads.Post κs a r s → bin-of-reads.Post κs a r' s' → r ≡ r'
bin-of-unique κs a r r' s s' p q = p ∙ sym q

pub weight-of-total : (κs : Lfts 1) (a : Dens κs weight-of.ps) → weight-of-reads.Pre κs a
weight-of-total κs a = tt

pub weight-of-unique : (κs : Lfts 1) (a : Dens κs weight-of.ps) (r r' : Float) (s s' : AtExit (ended_of 1 weight-of.ps weight-of.r) κs)
    → weight-of-reads.Post κs a r s → weight-of-reads.Post κs a r' s' → r ≡ r'
weight-of-unique κs a r r' s s' p q = p ∙ sym q

pub spot-of-total : (κs : Lfts 1) (a : Dens κs spot_of_lem.ps) → spot-of-reads.Pre κs a
spot-of-total κs a = tt

pub spot-of-unique : (κs : Lfts 1) (a : Dens κs spot_of_lem.ps) (r r' : Spot) (s s' : AtExit (ended_of 1 spot_of_lem.ps spot_of_lem.r) κs)
    → spot-of-reads.Post κs a r s → spot-of-reads.Post κs a r' s' → r ≡ r'
spot-of-unique κs a r r' s s' p q = p ∙ sym q

pub spot-near-total : (κs : Lfts 1) (a : Dens κs spot-near.ps) → spot-near-reads.Pre κs a
spot-near-total κs a = tt

pub spot-near-unique : (κs : Lfts 1) (a : Dens κs spot-near.ps) (r r' : Spot) (s s' : AtExit (ended_of 1 spot-near.ps spot-near.r) κs)
    → spot-near-reads.Post κs a r s → spot-near-reads.Post κs a r' s' → r ≡ r'
spot-near-unique κs a r r' s s' p q = p ∙ sym q

pub point-of-total : (κs : Lfts 1) (a : Dens κs point-of.ps) → point-of-reads.Pre κs a
point-of-total κs a = tt

pub point-of-unique : (κs : Lfts 1) (a : Dens κs point-of.ps) (r r' : Point) (s s' : AtExit (ended_of 1 point-of.ps point-of.r) κs)
    → point-of-reads.Post κs a r s → point-of-reads.Post κs a r' s' → r ≡ r'
point-of-unique κs a r r' s s' p q = p ∙ sym q

pub is-rising-total : (κs : Lfts 1) (a : Dens κs is-rising.ps) → is-rising-reads.Pre κs a
is-rising-total κs a = tt

pub is-rising-unique : (κs : Lfts 1) (a : Dens κs is-rising.ps) (r r' : Bool) (s s' : AtExit (ended_of 1 is-rising.ps is-rising.r) κs)
    → is-rising-reads.Post κs a r s → is-rising-reads.Post κs a r' s' → r ≡ r'
is-rising-unique κs a r r' s s' p q = p ∙ sym q

pub is-well-formed-total : (κs : Lfts 1) (a : Dens κs is-well-formed.ps) → is-well-formed-reads.Pre κs a
is-well-formed-total κs a = tt

pub is-well-formed-unique : (κs : Lfts 1) (a : Dens κs is-well-formed.ps) (r r' : Bool) (s s' : AtExit (ended_of 1 is-well-formed.ps is-well-formed.r) κs)
    → is-well-formed-reads.Post κs a r s → is-well-formed-reads.Post κs a r' s' → r ≡ r'
is-well-formed-unique κs a r r' s s' p q = p ∙ sym q

pub in-unit-total : (κs : Lfts 0) (a : Dens κs in-unit.ps) → in-unit-reads.Pre κs a
in-unit-total κs a = tt

pub in-unit-unique : (κs : Lfts 0) (a : Dens κs in-unit.ps) (r r' : Bool) (s s' : AtExit (ended_of 0 in-unit.ps in-unit.r) κs)
    → in-unit-reads.Post κs a r s → in-unit-reads.Post κs a r' s' → r ≡ r'
in-unit-unique κs a r r' s s' p q = p ∙ sym q

pub are-finite-total : (κs : Lfts 1) (a : Dens κs are-finite.ps) → are-finite-reads.Pre κs a
are-finite-total κs a = tt

pub are-finite-unique : (κs : Lfts 1) (a : Dens κs are-finite.ps) (r r' : Bool) (s s' : AtExit (ended_of 1 are-finite.ps are-finite.r) κs)
    → are-finite-reads.Post κs a r s → are-finite-reads.Post κs a r' s' → r ≡ r'
are-finite-unique κs a r r' s s' p q = p ∙ sym q

pub are-bounded-total : (κs : Lfts 1) (a : Dens κs are-bounded.ps) → are-bounded-reads.Pre κs a
are-bounded-total κs a = tt

pub are-bounded-unique : (κs : Lfts 1) (a : Dens κs are-bounded.ps) (r r' : Bool) (s s' : AtExit (ended_of 1 are-bounded.ps are-bounded.r) κs)
    → are-bounded-reads.Post κs a r s → are-bounded-reads.Post κs a r' s' → r ≡ r'
are-bounded-unique κs a r r' s s' p q = p ∙ sym q

pub lay-even-total : (κs : Lfts 1) (a : Dens κs lay-even.ps) → lay-even-reads.Pre κs a
lay-even-total κs a = tt

-- every edge laid
pub lay-even-unique : (κs : Lfts 1) (a : Dens κs lay-even.ps) (r r' : Unit {0}) (s s' : AtExit (ended_of 1 lay-even.ps lay-even.r) κs)
    → lay-even-reads.Post κs a r s → lay-even-reads.Post κs a r' s' → s.0.now ≡ s'.0.now
lay-even-unique κs a r r' s s' p q = p ∙ sym q
