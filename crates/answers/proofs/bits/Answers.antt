-- Only a NaN differs from itself.
use mathlib.Core.Path.{◌≡◌, sym}
use mathlib.Core.Bool.{true, false, not, false≢true}
use lib.Dec.{T}
use lib.Ieee.{Float, nan, inf, fin, binary64, to_bits, ne, is_nan}
use lib.Ieee.Compare.{differs_from_itself}
use Rattle.answers.proofs.bits.Goals as goal

-- a NaN's word
nan-word : (x : Float) → ne x x ≡ true → 0x7ff8_0000_0000_0000 ≡ to_bits binary64 x
unfolding to_bits
nan-word x h = rw (differs_from_itself x (rw h tt))

-- what equals itself is no NaN
is_number : (x : Float) → ne x x ≡ false → T (not (is_nan x))
unfolding ne is_nan
is_number nan h = absurd (false≢true (sym h))
is_number (inf s) h = tt
is_number (fin s m e) h = tt

pub returns-then-x : goal.returns-then-x
returns-then-x c = nan-word _ c.if-x.true

pub float_to_bits-result : goal.float_to_bits-result
float_to_bits-result c = is_number c.args.x c.if-x.false
