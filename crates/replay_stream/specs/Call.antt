-- The numbers of the calls.
use Rattle.std.specs.Prelude.{◌≡◌, ℕ, Result, MatchResult}
use Rattle.replay_stream.specs.declared.call.Call.{Call}
use Rattle.replay_stream.specs.declared.call.Call.TheVariants.{New, NextU64, NextU32, FillBytes, Jump, LongJump, Export, Import, Unit, SeedFromU64, UnitOf}
use Rattle.replay_stream.specs.declared.call.UnknownCall.{UnknownCall}

-- a call's number
abbrev pub number_of : Call → ℕ
number_of New = 1
number_of NextU64 = 2
number_of NextU32 = 3
number_of FillBytes = 4
number_of Jump = 5
number_of LongJump = 6
number_of Export = 7
number_of Import = 8
number_of Unit = 9
number_of SeedFromU64 = 10
number_of UnitOf = 11

-- the result is the call of this number, or the number that is no call's
abbrev pub Decodes : ℕ → Result Call UnknownCall → Type 0
Decodes n r = MatchResult r (λ call. number_of call ≡ n) (λ e. (e.0 ≡ n) × ((call : Call) → number_of call ≡ n → ⊥))
