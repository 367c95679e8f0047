-- How a field stands: a whole one has its tag, its length and its bytes.
use Rattle.std.proofs.Common.{◌≡◌, ℕ, ◌+◌, ◌≤◌, Bool, true, false, cond, not, eqb, ltb, List, length, get_or, refl, arith, ltb-false, le-ltb}
use Rattle.plan.specs.Numbers.{number_at}
use Rattle.feed.specs.declared.fields.Standing.TheVariants as standing
use Rattle.feed.specs.Fields.{missing_of, standing_of}

missing-whole : {P : Type 0} (last : Bool) → missing_of last ≡ standing.Whole → P
unfolding missing_of
missing-whole true e = let z : ◌≡◌ {A = ℕ} 0 1 = cc in absurd (omega arith)
missing-whole false e = let z : ◌≡◌ {A = ℕ} 0 1 = cc in absurd (omega arith)

pub wrong-whole : {P : Type 0} → standing.Wrong ≡ standing.Whole → P
wrong-whole e = let z : ◌≡◌ {A = ℕ} 0 1 = cc in absurd (omega arith)

pub wrong-waiting : {P : Type 0} → standing.Wrong ≡ standing.Waiting → P
wrong-waiting e = let z : ◌≡◌ {A = ℕ} 0 1 = cc in absurd (omega arith)

-- a whole field: its tag, its length, its bytes
pub record Whole (bs : List ℕ) (tag size : ℕ) : Type 0 where
  pub tagged : eqb (get_or bs 0 0) tag ≡ true
  pub sized : eqb (number_at bs 1 2) size ≡ true
  pub there : 3 + size ≤ length bs

rungs : (a b c d last : Bool) → cond a (missing_of last) (cond (not b) standing.Wrong (cond (not c) standing.Wrong (cond d (missing_of last) standing.Whole))) ≡ standing.Whole
    → (b ≡ true) × (c ≡ true) × (d ≡ false)
rungs true b c d last e = missing-whole last e
rungs false false c d last e = wrong-whole e
rungs false true false d last e = wrong-whole e
rungs false true true true last e = missing-whole last e
rungs false true true false last e = (refl, refl, refl)

pub whole_is : (bs : List ℕ) (tag size : ℕ) (last : Bool) → standing_of bs tag size last ≡ standing.Whole → Whole bs tag size
unfolding standing_of
whole_is bs tag size last e =
    let k = rungs (ltb (length bs) 3) (eqb (get_or bs 0 0) tag) (eqb (number_at bs 1 2) size) (ltb (length bs) (3 + size)) last e in
    record { tagged = k.0; sized = k.1; there = ltb-false (length bs) (3 + size) k.2 }

pub whole-there : (bs : List ℕ) (tag size : ℕ) (last : Bool) → standing_of bs tag size last ≡ standing.Whole → 3 + size ≤ length bs
whole-there bs tag size last e = (whole_is bs tag size last e).there

pub is_whole : (bs : List ℕ) (tag size : ℕ) (last : Bool) → Whole bs tag size → standing_of bs tag size last ≡ standing.Whole
unfolding standing_of
is_whole bs tag size last w =
    let h : 3 ≤ length bs = omega (arith, w.there) in rw (le-ltb (length bs) 3 h, w.tagged, w.sized, le-ltb (length bs) (3 + size) w.there)
