-- `spot_near`: a guess that the draw lies in is the whole part that `spot_of` takes.
use mathlib.Core.Path.{◌≡◌}
use native.Mathlib.Omega.{arith}
use Prim.Native.Nat.{ℕ, ◌+◌, ◌-◌, ◌%◌, ◌^◌, ◌≤◌, ◌<◌}
use borrow.Author.Tests.{ltb-true, leb-true}
use lib.ListN.{length}
use Rattle.doubles.specs.Count.{count_of}
use Rattle.doubles.proofs.Truth.{both}
use Rattle.axis.specs.Edges.{bins_of, width_of}
use Rattle.axis.proofs.Points.{guessed-up}
use Rattle.axis.proofs.edges.spot_near.Goals as goal
use Rattle.axis.proofs.edges.spot_near.Goals.{Then-guess-last}

-- a length less one, where it does not go below 0
less_one : (n : ℕ) → n < 18446744073709551616 → (n + 18446744073709551615) % 18446744073709551616 ≤ 1024 → (n + 18446744073709551615) % 18446744073709551616 ≡ n - 1
less_one n f h = omega arith

-- the guess is a bin, of at most 1024
known : (c : Then-guess-last) → ((length c.args.edges.now + 18446744073709551615) % 18446744073709551616 ≡ bins_of c.args.edges.now) × (c.args.guess < 2 ^ 53)
unfolding bins_of
known c = let t = both _ _ c.if-guess-last.true in
    let a : c.args.guess < (length c.args.edges.now + 18446744073709551615) % 18446744073709551616 = ltb-true _ _ t.0 in
    let b : (length c.args.edges.now + 18446744073709551615) % 18446744073709551616 ≤ 1024 = leb-true _ _ t.1 in
    (less_one (length c.args.edges.now) (omega arith) b, omega arith)

pub returns-then-low-scaled : goal.returns-then-low-scaled
unfolding count_of width_of
returns-then-low-scaled c = let k = known (goal.at.returns-then-low-scaled c).Then-guess-last in
    guessed-up c.args.edges.now _ c.args.r c.args.guess k.0 k.1 c.if-low-scaled.true
