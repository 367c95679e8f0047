-- A refusal's number, and the answers of code in the document's words.
use Rattle.std.specs.Prelude.{ℕ, Result, Ok, Err}
use Rattle.doubles.specs.Paper.{Paper, gives, refuses}
use Rattle.doubles.specs.declared.refusal.Refusal.{Refusal}
use Rattle.doubles.specs.declared.refusal.Refusal.TheVariants as refusal

abbrev pub number_of : Refusal → ℕ
number_of refusal.Malformed = 1
number_of refusal.Size = 2
number_of refusal.Range = 3
number_of refusal.Form = 4
number_of refusal.Coordinate = 5
number_of refusal.Bin = 6
number_of refusal.Infinite = 7
number_of refusal.Overflow = 8
number_of refusal.Edges = 9
number_of refusal.Room = 10
number_of refusal.Unequal = 11
number_of refusal.State = 12

-- a value, or the refusal's number
abbrev pub paper : {A : Type 0} → Result A Refusal → Paper A
paper (Ok x) = gives x
paper (Err r) = refuses (number_of r)

-- what stands against a call: 0 where nothing does, else the refusal's number
abbrev pub fault_of : {A : Type 0} → Result A Refusal → ℕ
fault_of (Ok x) = 0
fault_of (Err r) = number_of r
