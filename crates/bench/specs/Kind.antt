-- The letters of the kinds.
use Rattle.std.specs.Prelude.{◌≡◌, ℕ, Result, MatchResult}
use Rattle.bench.specs.declared.request.Kind.{Kind}
use Rattle.bench.specs.declared.request.Kind.TheVariants.{Add, Draw, Exponent, Grid, Judged, Log, Nested, Probe, Root, Stream, Tree, Update, Weighted}
use Rattle.bench.specs.declared.request.UnknownKind.{UnknownKind}

-- a kind's letter: its name's first
abbrev pub letter_of : Kind → ℕ
letter_of Add = 97
letter_of Draw = 100
letter_of Exponent = 101
letter_of Grid = 103
letter_of Judged = 106
letter_of Log = 108
letter_of Nested = 110
letter_of Probe = 112
letter_of Root = 114
letter_of Stream = 115
letter_of Tree = 116
letter_of Update = 117
letter_of Weighted = 119

-- the result is the kind of this letter, or the letter that is no kind's
abbrev pub Decodes : ℕ → Result Kind UnknownKind → Type 0
Decodes n r = MatchResult r (λ kind. letter_of kind ≡ n) (λ e. (e.0 ≡ n) × ((kind : Kind) → letter_of kind ≡ n → ⊥))
