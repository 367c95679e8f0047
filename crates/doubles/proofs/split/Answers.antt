-- `split` is its definition, branch by branch. Assumes nothing.
use borrow.Author.Tests.{lt-ltb, le-ltb}
use Rattle.doubles.specs.Split.{split_of}
use Rattle.doubles.proofs.split.Goals as goal

pub returns-then-bits-lt4503599627370496 : goal.returns-then-bits-lt4503599627370496
unfolding split_of
returns-then-bits-lt4503599627370496 c = rw (lt-ltb _ _ c.if-bits-lt4503599627370496.true) c.lifted.ensures

pub returns : goal.returns
unfolding split_of
returns c = rw (le-ltb _ _ c.if-bits-lt4503599627370496.false)
