-- The digits read so far, followed by those left, spell the word; k digits make less than 2^(4k), so nothing overflows.
use Rattle.std.proofs.Common.{◌≡◌, ◌*◌, ◌^◌, ◌<◌, drop}
use Rattle.answers.specs.List.{value_of}
use Rattle.answers.proofs.word.Given as goal

abbrev pub invariant-loop-glyph : goal.invariant-loop-glyph
invariant-loop-glyph l = record {
  fits : l.value < 2 ^ (4 * l.glyph-index);
  spells : value_of l.value (drop l.glyph-index l.glyph-items) ≡ value_of 0 l.glyph-items;
}
