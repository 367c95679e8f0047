-- The digits read so far, followed by those left, spell the word; k digits make less than 2^(4k), so nothing overflows.
use Rattle.std.proofs.Common.{◌<◌, sym, ◌∙◌, arith}
use borrow.Author.Tests.{le-leb, lt-leb}
use Rattle.answers.specs.List.{words_of, word_of}
use Rattle.answers.proofs.Digits.{value_on, digits-below, digits-fit, sixteen, value-done}
use Rattle.answers.proofs.word.Goals as goal
use Rattle.answers.proofs.word.Goals.{In-loop-glyph}

pub returns-then-list-index : goal.returns-then-list-index
unfolding word_of words_of
returns-then-list-index c = rw (le-leb _ _ c.if-list-index.true)

within : (c : In-loop-glyph) → c.loop-glyph.glyph-index < 16
within c = omega (arith, sixteen c.args.list.now c.args.index c.if-list-index.false)

pub overflow_mul-value : goal.overflow_mul-value
overflow_mul-value c = omega (arith, digits-fit c.loop-glyph.value 0 c.loop-glyph.glyph-index (within c) c.loop-glyph.invariant.fits (omega arith))

pub overflow_add-value : goal.overflow_add-value
overflow_add-value c = record { fits = digits-fit _ _ _ (within (goal.at.overflow_add-value c).In-loop-glyph) c.loop-glyph.invariant.fits c.digit.ensures.1 }

pub loop-glyph-preserved : goal.loop-glyph-preserved
loop-glyph-preserved c = record {
  fits = digits-below _ _ _ c.loop-glyph.invariant.fits c.digit.ensures.1;
  spells = rw c.digit.ensures.0 (sym (value_on _ _ _ c.loop-glyph-test.true) ∙ c.loop-glyph.invariant.spells);
}

pub returns : goal.returns
unfolding word_of words_of
returns c = rw (lt-leb _ _ c.if-list-index.false) (value-done _ _ _ _ c.if-list-index.false c.loop-glyph-test.false c.loop-glyph.invariant.spells)
