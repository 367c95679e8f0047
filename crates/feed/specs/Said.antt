-- A turn's answer in the document's words, and the few answers that turns give.
use Rattle.std.specs.Prelude.{ℕ, Bool, true, false, Option, Some, None, Result, Ok, Err}
use Rattle.doubles.specs.Refusal.{number_of}
use Rattle.plan.specs.Paper.{Paper, gives, refuses_at}
use Rattle.stream.specs.declared.MonteCarloRng.{MonteCarloRng}
use Rattle.stream.specs.Words.{plus}
use Rattle.accumulator.specs.declared.Summary.{Summary}
use Rattle.feed.specs.declared.Phase.{Phase}
use Rattle.feed.specs.declared.Phase.TheVariants as phase
use Rattle.feed.specs.declared.Run.{Run}
use Rattle.feed.specs.declared.Refused.{Refused}
use Rattle.feed.specs.declared.Turned.{Turned}

-- what is told where nothing is refused: nothing, or an update's line
pub data Line : Type 0 where
  none : Line
  line : Summary → Line

unfoldable pub paper_told : Result (Option Summary) Refused → Paper Line
paper_told (Ok None) = gives none
paper_told (Ok (Some s)) = gives (line s)
paper_told (Err r) = refuses_at (number_of r.why) r.offset

-- the run after a turn, how many bytes it took, and what it tells
pub record Said : Type 0 where
  pub run : Run
  pub taken : ℕ
  pub told : Paper Line

abbrev pub said : Turned → Said
said r = record { run = r.run; taken = r.taken; told = paper_told r.told }

-- ---- runs

-- the plan is due, at the input's begin; samples are numbered from 1
unfoldable pub beginning_of : Run
beginning_of =
    record {
      phase = phase.Plan;
      stream = record { s0 = 0; s1 = 0; s2 = 0; s3 = 0 };
      number = 1;
      at = 0;
    }

unfoldable pub is_over_in : Phase → Bool
is_over_in phase.Plan = false
is_over_in phase.Stream = false
is_over_in phase.Samples = false
is_over_in phase.Over = true

unfoldable pub is_over_of : Run → Bool
is_over_of run = is_over_in run.phase

-- nothing is due any more
unfoldable pub over_of : Run → Run
over_of run = record { phase = phase.Over; stream = run.stream; number = run.number; at = run.at }

-- ---- answers

-- nothing taken, nothing told
unfoldable pub waiting : Run → Said
waiting run = record { run = run; taken = 0; told = gives none }

unfoldable pub ending : Run → Said
ending run = waiting (over_of run)

-- what is due then, the stream, and so many samples and bytes taken; the sums are those of words
unfoldable pub going : Run → Phase → MonteCarloRng → ℕ → ℕ → Said
going run due s samples taken =
    record {
      run = record { phase = due; stream = s; number = plus run.number samples; at = plus run.at taken };
      taken = taken;
      told = gives none;
    }

-- behind what was taken, a line
unfoldable pub telling : Said → Summary → Said
telling o s = record { run = o.run; taken = o.taken; told = gives (line s) }

-- behind what was taken, a refusal of the field at an offset, which ends the run
unfoldable pub refusing_at : Said → ℕ → ℕ → Said
refusing_at o n at = record { run = over_of o.run; taken = o.taken; told = refuses_at n at }

-- the same of the field that is due then
unfoldable pub refusing : Said → ℕ → Said
refusing o n = refusing_at o n o.run.at
