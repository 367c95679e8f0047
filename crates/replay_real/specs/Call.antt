-- The letters of the calls.
use Rattle.std.specs.Prelude.{◌≡◌, ℕ, Result, MatchResult}
use Rattle.replay_real.specs.declared.call.Call.{Call}
use Rattle.replay_real.specs.declared.call.Call.TheVariants.{Sqrt, Ln, Power, LibraryLn, LibraryPower, Norm, Inv, Count, Whole, Finite}
use Rattle.replay_real.specs.declared.call.UnknownCall.{UnknownCall}

-- a call's letter: s, l, p, L, P, n, i, c, w, f
abbrev pub letter_of : Call → ℕ
letter_of Sqrt = 115
letter_of Ln = 108
letter_of Power = 112
letter_of LibraryLn = 76
letter_of LibraryPower = 80
letter_of Norm = 110
letter_of Inv = 105
letter_of Count = 99
letter_of Whole = 119
letter_of Finite = 102

-- the result is the call of this letter, or the letter that is no call's
abbrev pub Decodes : ℕ → Result Call UnknownCall → Type 0
Decodes n r = MatchResult r (λ call. letter_of call ≡ n) (λ e. (e.0 ≡ n) × ((call : Call) → letter_of call ≡ n → ⊥))
