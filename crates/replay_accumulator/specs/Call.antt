-- The numbers of the calls.
use Rattle.std.specs.Prelude.{◌≡◌, ℕ, Result, MatchResult}
use Rattle.replay_accumulator.specs.declared.call.Call.{Call}
use Rattle.replay_accumulator.specs.declared.call.Call.TheVariants.{AddSample, MergeSamplesNoReset, UpdatePlain, UpdateWeighted, GetLiveEstimate, ShallowCopy, ClearSamples, MergeSamples, Summary}
use Rattle.replay_accumulator.specs.declared.call.UnknownCall.{UnknownCall}

-- a call's number
abbrev pub number_of : Call → ℕ
number_of AddSample = 1
number_of MergeSamplesNoReset = 2
number_of UpdatePlain = 3
number_of UpdateWeighted = 4
number_of GetLiveEstimate = 5
number_of ShallowCopy = 6
number_of ClearSamples = 7
number_of MergeSamples = 8
number_of Summary = 9

-- the result is the call of this number, or the number that is no call's
abbrev pub Decodes : ℕ → Result Call UnknownCall → Type 0
Decodes n r = MatchResult r (λ call. number_of call ≡ n) (λ e. (e.0 ≡ n) × ((call : Call) → number_of call ≡ n → ⊥))
