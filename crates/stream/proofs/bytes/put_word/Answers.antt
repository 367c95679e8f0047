-- `put_word` copies std's bytes of the word, as many as there is room for: these are the stores that change anything.
use Rattle.std.proofs.Common.{◌-◌, ap, take, sym, ◌∙◌, arith}
use Rattle.stream.specs.Bytes.{bytes_of}
use Rattle.stream.proofs.Fills.{le-bytes, length-bytes, copied, sets-out}
use Rattle.stream.proofs.bytes.put_word.Goals as goal

pub returns-then-at-end : goal.returns-then-at-end
returns-then-at-end c =
    let k = c.min-end.result - c.args.at in
    let eight = length-bytes 8 c.args.word in
    copied c.args.dest.now (bytes_of 8 c.args.word) _ c.args.at k (omega arith) (omega arith) (λ h. omega arith)
    (c.copy_from_slice.ensures.after ∙ ap (take k) (c.to_le_bytes.ensures ∙ le-bytes c.args.word))

pub returns-else-at-end : goal.returns-else-at-end
returns-else-at-end c = sym (sets-out (bytes_of 8 c.args.word) c.args.dest.now c.args.at (omega arith))
