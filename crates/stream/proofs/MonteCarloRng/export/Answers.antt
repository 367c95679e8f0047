-- `export`: 32 bytes stored over 32 zeros leave nothing of them.
use Rattle.stream.specs.Bytes.{bytes_of}
use Rattle.stream.specs.Calls.{export_of}
use Rattle.stream.proofs.MonteCarloRng.export.Goals as goal

pub returns : goal.returns
unfolding export_of bytes_of
returns c = rw (c.with_word.ensures, c.with_word-three.ensures, c.with_word-two.ensures, c.with_word-one.ensures)
