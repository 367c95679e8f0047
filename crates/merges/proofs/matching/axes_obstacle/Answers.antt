-- Each test is asked of well-formed axes that stand in memory, and the first that fails is the model's answer.
use mathlib.Core.Bool.{Bool, ◌&&◌}
use Rattle.model.specs.Grid.{axes}
use Rattle.lent.specs.Drawn.{Stands}
use Rattle.lent.specs.Tree.{axes_place}
use Rattle.lent.specs.Lent.{axes_in, word_at}
use Rattle.lent.specs.Matched.{obstacle, grid_obstacle}
use Rattle.lent.proofs.Places.{placed}
use Prim.Native.Nat.{◌+◌}
use lib.Ieee.{eq}
use Rattle.accumulator.specs.Record.{well_formed}
use Rattle.accumulator.specs.Steps.{merged_of}
use Rattle.lent.specs.Memory.{record_at}
use Rattle.lent.proofs.Merges.{same_at, equal_at, fit_at}
use mathlib.Core.Path.{◌≡◌, sym, ◌∙◌}
use native.Mathlib.Omega.{arith}
use Rattle.lent.proofs.Matches.{axes-asked, shapes-differ, floors-differ, edges-differ, own-passes, axes-pass, none-differs, sound-kept, stands_at}
use borrow.Author.Rules.{rules}
use Rattle.merges.proofs.matching.axes_obstacle.Goals as goal
use Rattle.merges.proofs.matching.axes_obstacle.Goals.{After-axes_place-far}

-- where the axes of both stand
mine : (c : After-axes_place-far) → c.axes_place-g.result ≡ axes_place c.args.m.table.now c.args.w
mine c = placed c.args.m.table.now c.args.w c.axes_place-g.ensures (search rules)

theirs : (c : After-axes_place-far) → c.axes_place-far.result ≡ axes_place c.args.o.table.now c.args.v
theirs c = placed c.args.o.table.now c.args.v c.axes_place-far.ensures (search rules)

-- the tests as the code asks them, and what they come to
abbrev floors : After-axes_place-far → Bool
floors c = eq c.axes_place-g.result.floor c.axes_place-far.result.floor

abbrev edges : After-axes_place-far → Bool
edges c = equal_at c.args.m.reals.now c.args.m.counts.now c.args.o.reals.now c.args.o.counts.now c.axes_place-g.result c.axes_place-far.result

abbrev own : After-axes_place-far → Bool
own c = well_formed (merged_of (record_at c.args.m.reals.now c.args.m.counts.now (word_at c.args.m (c.args.w + 9)) (word_at c.args.m (c.args.w + 10))) (record_at c.args.o.reals.now c.args.o.counts.now (word_at c.args.o (c.args.v + 9)) (word_at c.args.o (c.args.v + 10))))

abbrev fit : After-axes_place-far → Bool
fit c = fit_at c.args.m.reals.now c.args.m.counts.now c.args.o.reals.now c.args.o.counts.now c.axes_place-g.result c.axes_place-far.result

asked : (c : After-axes_place-far) → obstacle (same_at c.args.m.reals.now c.args.m.counts.now c.args.o.reals.now c.args.o.counts.now c.axes_place-g.result c.axes_place-far.result) (floors c && edges c) (own c && fit c)
    ≡ grid_obstacle (axes (axes_in c.args.m c.args.w)) (axes (axes_in c.args.o c.args.v))
asked c = axes-asked _ _ _ _ _ _ _ _ _ _ (mine c) (theirs c)

-- both grids' axes stand in memory
stand : (c : After-axes_place-far) → Stands c.args.m.reals.now c.args.m.counts.now c.axes_place-g.result × Stands c.args.o.reals.now c.args.o.counts.now c.axes_place-far.result
stand c = (stands_at _ _ _ _ _ (mine c) c.requires.0 c.requires.2, stands_at _ _ _ _ _ (theirs c) c.requires.1 c.requires.3)

pub same_lengths-requires : goal.same_lengths-requires
same_lengths-requires c = stand (goal.at.same_lengths-requires c).After-axes_place-far

pub returns-then-not-same_lengths : goal.returns-then-not-same_lengths
returns-then-not-same_lengths c = let o = (goal.at.returns-then-not-same_lengths c).After-axes_place-far in shapes-differ _ (floors o) (edges o) (own o) (fit o) (sym c.same_lengths.ensures ∙ c.if-not-same_lengths.true) ∙ asked o

pub returns-then-not-same_floor : goal.returns-then-not-same_floor
returns-then-not-same_floor c = let o = (goal.at.returns-then-not-same_floor c).After-axes_place-far in floors-differ _ (floors o) (edges o) (own o) (fit o) (sym c.same_lengths.ensures ∙ c.if-not-same_lengths.false) c.if-not-same_floor.true ∙ asked o

pub equal_edges-requires : goal.equal_edges-requires
equal_edges-requires c = let k = stand (goal.at.equal_edges-requires c).After-axes_place-far in (k.0, k.1, (sym c.same_lengths.ensures ∙ c.if-not-same_lengths.false))

pub returns-then-not-equal_edges : goal.returns-then-not-equal_edges
returns-then-not-equal_edges c = let o = (goal.at.returns-then-not-equal_edges c).After-axes_place-far in edges-differ _ (floors o) (edges o) (own o) (fit o) (sym c.same_lengths.ensures ∙ c.if-not-same_lengths.false) c.if-not-same_floor.false (sym c.equal_edges.ensures ∙ c.if-not-equal_edges.true) ∙ asked o

pub account_fits-requires : goal.account_fits-requires
account_fits-requires c = (omega (arith, c.requires.0), omega (arith, c.requires.0), omega (arith, c.requires.1), omega (arith, c.requires.1), (sound-kept _ _ _ _ _ (mine (goal.at.account_fits-requires c).After-axes_place-far) c.requires.2).0, (sound-kept _ _ _ _ _ (theirs (goal.at.account_fits-requires c).After-axes_place-far) c.requires.3).0)

pub returns-then-not-account_fits : goal.returns-then-not-account_fits
returns-then-not-account_fits c = let o = (goal.at.returns-then-not-account_fits c).After-axes_place-far in own-passes _ (floors o) (edges o) (own o) (fit o) (sym c.same_lengths.ensures ∙ c.if-not-same_lengths.false) c.if-not-same_floor.false (sym c.equal_edges.ensures ∙ c.if-not-equal_edges.false) (sym c.account_fits.ensures ∙ c.if-not-account_fits.true) ∙ asked o

pub merged_fit-requires : goal.merged_fit-requires
merged_fit-requires c = let k = stand (goal.at.merged_fit-requires c).After-axes_place-far in (k.0, k.1, (sym c.same_lengths.ensures ∙ c.if-not-same_lengths.false), (sound-kept _ _ _ _ _ (mine (goal.at.merged_fit-requires c).After-axes_place-far) c.requires.2).1, (sound-kept _ _ _ _ _ (theirs (goal.at.merged_fit-requires c).After-axes_place-far) c.requires.3).1)

pub returns-then-not-merged_fit : goal.returns-then-not-merged_fit
returns-then-not-merged_fit c = let o = (goal.at.returns-then-not-merged_fit c).After-axes_place-far in axes-pass _ (floors o) (edges o) (own o) (fit o) (sym c.same_lengths.ensures ∙ c.if-not-same_lengths.false) c.if-not-same_floor.false (sym c.equal_edges.ensures ∙ c.if-not-equal_edges.false) (sym c.account_fits.ensures ∙ c.if-not-account_fits.false) (sym c.merged_fit.ensures ∙ c.if-not-merged_fit.true) ∙ asked o

pub returns : goal.returns
returns c = let o = (goal.at.returns c).After-axes_place-far in none-differs _ (floors o) (edges o) (own o) (fit o) (sym c.same_lengths.ensures ∙ c.if-not-same_lengths.false) c.if-not-same_floor.false (sym c.equal_edges.ensures ∙ c.if-not-equal_edges.false) (sym c.account_fits.ensures ∙ c.if-not-account_fits.false) (sym c.merged_fit.ensures ∙ c.if-not-merged_fit.false) ∙ asked o
