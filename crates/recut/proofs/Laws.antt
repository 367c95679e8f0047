-- What callers reason by: gathering keeps lengths and adds counts that a record may hold; an accepted `renew` gives well-formed edges, one for
-- each place of the room.
use mathlib.Core.Path.{◌≡◌, sym, ap, ◌∙◌}
use mathlib.Core.Bool.{true, false, not}
use mathlib.Core.List.{List}
use Prim.Native.Nat.{ℕ, ◌+◌, ◌^◌, ◌≤◌, ◌<◌}
use borrow.Author.Tests.{not-false, le-leb, leb-true, leb-false}
use lib.ListN.{length}
use lib.Ieee.{Float, binary64, add}
use Rattle.doubles.specs.Numbers.{zero64}
use Rattle.doubles.specs.Finite.{finite_of}
use Rattle.doubles.specs.Total.{total_of, all_finite}
use Rattle.doubles.specs.Paper.{gives}
use Rattle.doubles.proofs.Ladder.{passes, given}
use Rattle.axis.specs.Edges.{well_formed}
use Rattle.recut.specs.Gather.{gathered_of, joined_count, joined_counts, sum_of, reaches_of}
use Rattle.recut.specs.Weights.{normalised, smoothed, damped}
use Rattle.recut.specs.Cut.{cuts_of}
use Rattle.recut.specs.Renew.{lengths_fit, step_of, edges_of, from_damped, from_smoothed, from_divided, renew_of}
use Rattle.recut.proofs.Pairs.{pairs-length}
use Rattle.recut.proofs.Cuts.{cut-length}

pub gathered-length : (qs added : List Float) → length (gathered_of qs added) ≡ length qs
unfolding gathered_of
gathered-length = pairs-length (add binary64)

pub joined_length : (ns waiting : List ℕ) → length (joined_counts ns waiting) ≡ length ns
unfolding joined_counts
joined_length = pairs-length joined_count

pub joined-sum : (n m : ℕ) → n ≤ 2 ^ 53 → m ≤ 2 ^ 53 → joined_count n m ≡ n + m
unfolding joined_count
joined-sum n m h k = rw (le-leb n (2 ^ 53) h, le-leb m (2 ^ 53) k)

pub reached : (least : ℕ) (ns : List ℕ) → reaches_of least ns ≡ true → least ≤ sum_of ns
unfolding reaches_of
reached least ns h = leb-true _ _ h

pub not-reached : (least : ℕ) (ns : List ℕ) → reaches_of least ns ≡ false → sum_of ns < least
unfolding reaches_of
not-reached least ns h = leb-false _ _ h

-- what is given at the end of the ladder is what was cut, and was judged
pub renew-sound : (es qs : List Float) (ns : List ℕ) (rate : Float) (places : ℕ) (new : List Float) → renew_of es qs ns rate places ≡ gives new
    → (well_formed new ≡ true) × (length new ≡ places)
unfolding renew_of from_divided from_smoothed from_damped edges_of
renew-sound es qs ns rate places new h =
    let divided = normalised qs ns in
    let smooth = smoothed divided in
    let damp = damped (total_of zero64 smooth) rate smooth in
    let cut = cuts_of es damp (step_of damp places) places in
    let fit = passes (not (lengths_fit es qs ns places)) 10 _ new h in
    let a = passes (not (all_finite divided)) 8 _ new fit.1 in
    let b = passes (not (all_finite smooth)) 8 _ new a.1 in
    let c = passes (not (finite_of (total_of zero64 smooth))) 8 _ new b.1 in
    let d = passes (not (all_finite damp)) 8 _ new c.1 in
    let e = passes (not (finite_of (total_of zero64 damp))) 8 _ new d.1 in
    let f = passes (not (well_formed cut)) 9 _ new e.1 in
    let same = given cut new f.1 in
    (sym (ap well_formed same) ∙ not-false (well_formed cut) f.0, sym (ap length same) ∙ cut-length es damp (step_of damp places) places)
