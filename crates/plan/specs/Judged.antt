-- What a judge finds: a refusal's number and its field's offset, or what passes.
use Rattle.std.specs.Prelude.{ℕ, Option, None, Some, Result, Ok, Err}
use Rattle.doubles.specs.Refusal.{number_of}
use Rattle.plan.specs.declared.BinPlan.{BinPlan}
use Rattle.plan.specs.declared.Place.{Place}
use Rattle.plan.specs.declared.Misread.{Misread}

pub data Judged (A : Type 0) : Type 0 where
  Stop : ℕ → ℕ → Judged A
  Found : A → Judged A

-- a field, and a whole grid or several
abbrev pub Field : Type 0
Field = Judged BinPlan

abbrev pub Step : Type 0
Step = Judged Place

-- the answers of code that reads bytes
abbrev pub judged : {A : Type 0} → Result A Misread → Judged A
judged (Ok x) = Found x
judged (Err m) = Stop (number_of m.why) m.at

-- and of code that reads a table, where nothing stands that reading would have written: 12, at no field
abbrev pub known : {A : Type 0} → Option A → Judged A
known (Some x) = Found x
known None = Stop 12 0
