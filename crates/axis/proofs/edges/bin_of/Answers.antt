-- The search from `base` over `size` bins stays the whole search; each halving is one step of it, and the size falls.
use lib.Ieee.{nan, lt}
use lib.ListN.{get_or}
use Rattle.axis.proofs.Lists.{kept_small}
use native.Mathlib.Omega.{arith}
use mathlib.Core.Path.{refl, sym, ap, ◌∙◌}
use Prim.Native.Nat.{ℕ, ◌+◌, ◌-◌, ◌/◌}
use lib.ListN.{length}
use Rattle.axis.specs.Edges.{bins_of}
use Rattle.axis.specs.Search.{searched, search_of}
use Rattle.axis.proofs.Searches.{search-on, search-out}
use Rattle.axis.proofs.edges.bin_of.Goals as goal

pub returns-then-edges-lt2 : goal.returns-then-edges-lt2
unfolding search_of bins_of
returns-then-edges-lt2 c = sym (search-out c.args.edges.now c.args.x 0 (length c.args.edges.now - 1) (omega arith))

pub loop-size-init : goal.loop-size-init
unfolding search_of bins_of
loop-size-init c = (omega arith, omega arith, refl)

pub loop-size-preserved : goal.loop-size-preserved
loop-size-preserved c = let k = kept_small (lt (get_or c.args.edges.now (c.loop-size.base + c.loop-size.size / 2) nan) c.args.x) (c.loop-size.size / 2) in
    (omega arith, omega (arith, c.keep-base.ensures), ap (λ (n : ℕ). searched (c.loop-size.size - c.loop-size.size / 2) c.args.edges.now c.args.x (c.loop-size.base + n) (c.loop-size.size - c.loop-size.size / 2)) c.keep-base.ensures ∙ sym (search-on c.args.edges.now c.args.x c.loop-size.base c.loop-size.size c.loop-size-test.true) ∙ c.loop-size.invariant.2)

pub returns : goal.returns
returns c = sym (search-out c.args.edges.now c.args.x c.loop-size.base c.loop-size.size c.loop-size-test.false) ∙ c.loop-size.invariant.2
