-- The numbers of the calls.
use Rattle.std.specs.Prelude.{◌≡◌, ℕ, Result, MatchResult}
use Rattle.replay_grid.specs.declared.call.Call.{Call}
use Rattle.replay_grid.specs.declared.call.Call.TheVariants.{Fresh, Draw, Probe, Summary, LiveEstimate, LiveEstimateOfBin, Train, Update, CloneWithoutSamples, IsMergeable, Merge, SetCell, DrawAndTrain}
use Rattle.replay_grid.specs.declared.call.UnknownCall.{UnknownCall}

-- a call's number
abbrev pub number_of : Call → ℕ
number_of Fresh = 0
number_of Draw = 1
number_of Probe = 2
number_of Summary = 3
number_of LiveEstimate = 4
number_of LiveEstimateOfBin = 5
number_of Train = 6
number_of Update = 7
number_of CloneWithoutSamples = 8
number_of IsMergeable = 9
number_of Merge = 10
number_of SetCell = 11
number_of DrawAndTrain = 12

-- the result is the call of this number, or the number that is no call's
abbrev pub Decodes : ℕ → Result Call UnknownCall → Type 0
Decodes n r = MatchResult r (λ call. number_of call ≡ n) (λ e. (e.0 ≡ n) × ((call : Call) → number_of call ≡ n → ⊥))
