-- How many records agreed, of how many.
use Rattle.std.specs.Prelude.{◌+◌, ◌%◌, ◌^◌, Bool}
use Rattle.std.specs.Int.{from_bool}
use Rattle.answers.specs.declared.Replayed.{Replayed}

-- one record more, which agrees or does not
unfoldable pub counted : Replayed → Bool → Replayed
counted r agrees = record { agreed = (r.agreed + from_bool agrees) % 2 ^ 64; all = (r.all + 1) % 2 ^ 64 }
