-- `ln` splits x as the definition does, and hands the parts on. Assumes nothing.
use mathlib.Core.Path.{◌≡◌, sym, ◌∙◌, subst}
use Prim.Native.Nat.{ℕ, ◌+◌}
use mathlib.Core.Bool.{true, false}
use lib.Dec.{T}
use lib.Ieee.{Float, binary64, fits, minus, of_bits, div}
use lib.Ieee.Positive.{positive}
use Rattle.doubles.specs.Numbers.{zero64}
use Rattle.doubles.specs.Split.{Split}
use Rattle.doubles.proofs.Truth.{was, failed, passed}
use Rattle.doubles.proofs.Bits.{no_nan, splits}
use Rattle.real.specs.Ln.{turned_of, ln_of}
use Rattle.real.proofs.Mantissa.{mantissa-is, exponent-is}
use Rattle.real.proofs.ln.Goals as goal
use Rattle.real.proofs.ln.Goals.{After-split-p, Else-not-above_zero, Start}

no-ln : (x : Float) → positive x ≡ false → div binary64 zero64 zero64 ≡ ln_of x
unfolding ln_of div of_bits
no-ln x h = rw h

parted : (x m r : Float) (d k : ℕ) → T (fits binary64 x) → positive x ≡ true → Split x d k → m ≡ of_bits binary64 (d + 0x3fe0_0000_0000_0000) → r ≡ turned_of m (minus (k + 1) 1075) → r ≡ ln_of x
unfolding ln_of
parted x m r d k f p s i h = h ∙ rw (p, i, mantissa-is x d k f (was p) s, exponent-is x d k f (was p) s)

above : (c : Else-not-above_zero) → positive c.args.x ≡ true
above c = passed c.above_zero.ensures c.if-not-above_zero.false

held : (c : Start) → T (fits binary64 c.args.x)
held c = subst T (sym c.well_formed.0.1) tt

split : (c : After-split-p) → Split c.args.x c.split-p.result.digits c.split-p.result.shift
split c = splits c.args.x c.split-p.result (held c.before.before.before) (was (above c.before)) c.split-p.ensures

pub returns-then-not-above_zero : goal.returns-then-not-above_zero
returns-then-not-above_zero c = no-ln c.args.x (failed c.above_zero.ensures c.if-not-above_zero.true)

pub float_to_bits-x : goal.float_to_bits-x
float_to_bits-x c = no_nan c.args.x (was (above (goal.at.float_to_bits-x c).Else-not-above_zero))

pub mantissa-requires : goal.mantissa-requires
mantissa-requires c = (split (goal.at.mantissa-requires c).After-split-p).short

pub turned-requires : goal.turned-requires
turned-requires c = (split (goal.at.turned-requires c).After-split-p).small

pub returns : goal.returns
returns c = parted c.args.x _ _ _ _ (held (goal.at.returns c).Start) (above (goal.at.returns c).Else-not-above_zero) (split (goal.at.returns c).After-split-p) c.mantissa.ensures c.turned.ensures
