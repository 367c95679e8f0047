-- One turn, then the turns one after the other.
use Prim.Native.Nat.{ℕ, zero, suc, ◌+◌, ◌-◌, ◌≤◌, ◌<◌}
use mathlib.Core.Path.{◌≡◌, ap, ◌∙◌}
use mathlib.Core.Bool.{Bool, true, false, ◌&&◌}
use mathlib.Core.List.{List}
use native.Mathlib.Omega.{arith}
use lib.ListN.{length, take, drop, length-drop}
use lib.Seq.{take_all}
use Rattle.lent.specs.Memory.{Memory}
use Rattle.feed.specs.declared.Run.{Run}
use Rattle.feed.specs.Said.{Said}
use Rattle.feed.specs.Turns.{TurnEnd, turn_end, turn_of}
use Rattle.integrate.specs.Pouring.{Place, place, turn_at, place_behind, goes_on, goes_behind, Turns, one, more, Stepped}

-- a turn behind which another follows took a byte
pub took : (t : ℕ) (run : Run) (w : Bool) → goes_on t run && w ≡ true → 0 < t
unfolding goes_on
took zero run w h = let z : ◌≡◌ {A = ℕ} 0 1 = cc in omega arith
took (suc t) run w h = omega arith

-- the turn on the bytes behind a place leads from there
pub stepped : (bs : List ℕ) (last : Bool) (R C : ℕ) (p : Place) (o : Said) (table : List ℕ) (m : Memory) (w goes : Bool)
    → turn_end o table m ≡ turn_of p.run (take (length bs - p.taken) (drop p.taken bs)) last p.table p.state R C
    → o.taken ≤ length (take (length bs - p.taken) (drop p.taken bs))
    → p.taken ≤ length bs → goes ≡ goes_on o.taken o.run && w → Stepped bs last R C p (place o.run (p.taken + o.taken) table m) w goes
unfolding turn_at place_behind goes_behind
stepped bs last R C p o table m w goes e t f g =
    let d = take_all (length bs - p.taken) (drop p.taken bs) (omega (arith, length-drop p.taken bs)) in
    let E : turn_end o table m ≡ turn_at bs last R C p = e ∙ ap (λ (l : List ℕ). turn_of p.run l last p.table p.state R C) d in
    let n = ap (λ (l : List ℕ). length l) d in
    record {
      reached = ap (λ (x : TurnEnd). place_behind p x) E;
      follows = g ∙ ap (λ (x : TurnEnd). goes_behind x && w) E;
      within = omega (arith, length-drop p.taken bs);
      risen = λ h. let k : goes_on o.taken o.run && w ≡ true = cc in omega (arith, took o.taken o.run w k);
    }

module _ {bs : List ℕ} {last : Bool} {R C : ℕ} {p q : Place} {w goes : Bool} (s : Stepped bs last R C p q w goes) where
  -- it is the last, if its line was written
  pub ends : goes ≡ false → w ≡ true → Turns bs last R C p q
  ends h k = one p s.reached (alone (goes_behind (turn_at bs last R C p)) (cc))
    where
      alone : (g : Bool) → g && w ≡ false → g ≡ false
      alone true e = cc
      alone false e = cc

  -- or others follow
  pub onward : {r : Place} → goes ≡ true → Turns bs last R C q r → Turns bs last R C p r
  onward h t = more p s.reached (both (goes_behind (turn_at bs last R C p)) (cc)) t
    where
      both : (g : Bool) → g && w ≡ true → g ≡ true
      both true e = cc
      both false e = cc

-- of three that hold, the first and the last
pub first_holds : (a b d : Bool) → a && b && d ≡ true → a ≡ true
first_holds true b d e = cc
first_holds false b d e = e

pub last-holds : (a b d : Bool) → a && b && d ≡ true → d ≡ true
last-holds true true d e = e
last-holds true false d e = let z : ◌≡◌ {A = ℕ} 0 1 = cc in absurd (omega arith)
last-holds false b d e = let z : ◌≡◌ {A = ℕ} 0 1 = cc in absurd (omega arith)
