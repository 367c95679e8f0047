-- An answer in the document's words: a value, or a refusal's number, with its field's offset where a plan is read.
use Rattle.std.specs.Prelude.{ℕ, Result, Ok, Err}
use Rattle.doubles.specs.Refusal.{number_of}
use Rattle.doubles.specs.declared.refusal.Refusal.{Refusal}
use Rattle.plan.specs.declared.Needs.{Needs}
use Rattle.plan.specs.declared.Read.{Read}
use Rattle.plan.specs.declared.Misread.{Misread}

pub data Paper (A : Type 0) : Type 0 where
  gives : A → Paper A
  refuses : ℕ → Paper A
  refuses_at : ℕ → ℕ → Paper A

-- a plan that was read: how many bytes it takes, and what it needs
pub record PlanRead : Type 0 where
  pub end : ℕ
  pub needs : Needs

abbrev pub plan_read : ℕ → Needs → PlanRead
plan_read e n = record { end = e; needs = n }

-- the answers of code
abbrev pub paper_read : Result Read Misread → Paper PlanRead
paper_read (Ok r) = gives (plan_read r.end r.needs)
paper_read (Err m) = refuses_at (number_of m.why) m.at

abbrev pub paper_sized : Result Needs Refusal → Paper Needs
paper_sized (Ok n) = gives n
paper_sized (Err r) = refuses (number_of r)
