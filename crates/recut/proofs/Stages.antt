-- Each return of `renew` and of its stages, in the shape that the code has it: what the callees ensure, and the branches taken.
use mathlib.Core.Path.{◌≡◌, ap, ◌∙◌}
use mathlib.Core.Bool.{Bool, true, false, ◌&&◌}
use mathlib.Core.List.{List}
use Prim.Native.Nat.{ℕ, ◌+◌, ◌-◌, ◌≤◌}
use borrow.Author.Tests.{leb-true, eqb-true}
use lib.Dec.{leb, eqb}
use lib.ListN.{length}
use lib.Ieee.{Float, binary64, div}
use Rattle.doubles.specs.Numbers.{zero64}
use Rattle.doubles.specs.Count.{count_of}
use Rattle.doubles.specs.Finite.{finite_of}
use Rattle.doubles.specs.Total.{total_of}
use Rattle.doubles.specs.Paper.{Paper, gives, refuses}
use Rattle.doubles.proofs.Truth.{both, failed, passed}
use Rattle.axis.specs.Edges.{well_formed}
use Rattle.recut.specs.Weights.{normalised, smoothed, damped}
use Rattle.recut.specs.Cut.{cuts_of}
use Rattle.recut.specs.Renew.{lengths_fit, edges_of, step_of, from_damped, from_divided, renew_of}
use Rattle.recut.proofs.Finite.{damped-once, divided-once}

module _ (es ds : List Float) (places : ℕ) {w : Float} (ew : w ≡ total_of zero64 ds) {p : Bool} (ep : p ≡ finite_of w) where
  pub damped-8 : p ≡ false → refuses 8 ≡ from_damped es ds places
  damped-8 t = rw (damped-once es ds places, failed (ep ∙ ap finite_of ew) t)

  module _ (tp : p ≡ true) {n : Float} (en : n ≡ count_of (places - 1))
      {new : List Float} (er : new ≡ cuts_of es ds (div binary64 w n) places) {b : Bool} (eb : b ≡ well_formed new) where
    made : new ≡ cuts_of es ds (step_of ds places) places
    unfolding step_of
    made = er ∙ rw (ew, en)

    pub damped-9 : b ≡ false → refuses 9 ≡ from_damped es ds places
    unfolding edges_of
    damped-9 t = rw (damped-once es ds places, passed (ep ∙ ap finite_of ew) tp, failed (eb ∙ ap well_formed made) t)

    pub damped-done : b ≡ true → gives new ≡ from_damped es ds places
    unfolding edges_of
    damped-done t = rw (damped-once es ds places, passed (ep ∙ ap finite_of ew) tp, passed (eb ∙ ap well_formed made) t) (ap gives made)

module _ (es qs : List Float) (rate : Float) (places : ℕ) {ss : List Float} (es₁ : ss ≡ smoothed qs) {w : Float} (ew : w ≡ total_of zero64 ss)
    {p : Bool} (ep : p ≡ finite_of w) where
  sum : w ≡ total_of zero64 (smoothed qs)
  sum = ew ∙ ap (total_of zero64) es₁

  pub divided-8 : p ≡ false → refuses 8 ≡ from_divided es qs rate places
  divided-8 t = rw (divided-once es qs rate places, failed (ep ∙ ap finite_of sum) t)

  pub divided-on : p ≡ true → {ds : List Float} → ds ≡ damped w rate ss → {x : Paper (List Float)} → x ≡ from_damped es ds places → x ≡ from_divided es qs rate places
  divided-on t e f = rw (divided-once es qs rate places, passed (ep ∙ ap finite_of sum) t) (f ∙ rw (e, sum, es₁))

module _ (es qs : List Float) (ns : List ℕ) (rate : Float) (places : ℕ) {o : Bool} (eo : o ≡ lengths_fit es qs ns places) where
  pub renew-10 : o ≡ false → refuses 10 ≡ renew_of es qs ns rate places
  unfolding renew_of
  renew-10 t = rw (failed eo t)

  pub renew-on : o ≡ true → {ms : List Float} → ms ≡ normalised qs ns → {x : Paper (List Float)} → x ≡ from_divided es ms rate places → x ≡ renew_of es qs ns rate places
  unfolding renew_of
  renew-on t e f = rw (passed eo t) (f ∙ rw e)

-- lengths that fit
pub record Fitting (es qs : List Float) (ns : List ℕ) (places : ℕ) : Type 0 where
  pub some : 1 ≤ length qs
  pub edges : length es ≡ length qs + 1
  pub counters : length ns ≡ length qs
  pub room : 2 ≤ places

pub fitting : (es qs : List Float) (ns : List ℕ) (places : ℕ) → lengths_fit es qs ns places ≡ true → Fitting es qs ns places
unfolding lengths_fit
fitting es qs ns places h =
    let a = both (leb 1 (length qs)) (eqb (length es) (length qs + 1) && (eqb (length ns) (length qs) && leb 2 places)) h in
    let b = both (eqb (length es) (length qs + 1)) (eqb (length ns) (length qs) && leb 2 places) a.1 in
    let d = both (eqb (length ns) (length qs)) (leb 2 places) b.1 in
    record { some = leb-true _ _ a.0; edges = eqb-true _ _ b.0; counters = eqb-true _ _ d.0; room = leb-true _ _ d.1 }
