-- `holds_place` is the definition's test: failed, it is nowhere; passed, the head lies within the table and can be read.
use mathlib.Core.Path.{sym, ◌∙◌}
use Rattle.doubles.proofs.Truth.{passed, failed}
use Rattle.lent.proofs.Places.{there, not_there, fits-known}
use Rattle.lent.proofs.layout.axes_place.Goals as goal

pub returns-then-not-holds_place : goal.returns-then-not-holds_place
returns-then-not-holds_place c = c.no_place.ensures ∙ not_there c.args.table.now c.args.w (failed c.holds_place.ensures c.if-not-holds_place.true)

pub place_there-requires : goal.place_there-requires
place_there-requires c = fits-known c.args.table.now c.args.w (passed c.holds_place.ensures c.if-not-holds_place.false)

pub returns : goal.returns
returns c = c.place_there.ensures ∙ sym (there c.args.table.now c.args.w (passed c.holds_place.ensures c.if-not-holds_place.false))
