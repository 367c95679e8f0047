-- What is gathered, with the row from here on behind it, is the whole row.
use Rattle.std.proofs.Common.{◌≡◌, ◌-◌, length, take, ap, ◌∙◌, arith}
use Rattle.std.proofs.lemmas.List.{take-set}
use Rattle.doubles.proofs.Truth.{failed, passed}
use Rattle.feed.specs.Fields.{row_from}
use Rattle.feed.proofs.Rows.{sample-whole, row-stop, row-full, row_next}
use Rattle.feed.proofs.fields.gather.Goals as goal

pub loop-many-init : goal.loop-many-init
loop-many-init c = let z : length c.args.evaluations.now - 0 ≡ length c.args.evaluations.now = omega arith in (omega arith, ap (row_from c.args.bytes.now 0) z)

pub returns-then-not-is_sample : goal.returns-then-not-is_sample
returns-then-not-is_sample c = (rw take-set (row-stop _ (take c.loop-many.many c.loop-many.evaluations) _ _ _ (failed c.is_sample.ensures c.if-not-is_sample.true) c.loop-many.invariant.1), omega arith)

pub loop-many-preserved : goal.loop-many-preserved
loop-many-preserved c = let sample = passed c.is_sample.ensures c.if-not-is_sample.false in (
  omega (arith, sample-whole _ _ sample),
  row_next _ _ _ _ _ _ (omega arith) c.loop-many-test.true sample c.double_at.ensures ∙ c.loop-many.invariant.1,
)

pub returns : goal.returns
returns c =
    let all : length c.loop-many.evaluations ≡ c.loop-many.many = omega arith in
    (rw all (row-full _ (take c.loop-many.many c.loop-many.evaluations) _ _ _ _ c.loop-many-test.false c.loop-many.invariant.1), omega arith)

pub double_at-requires : goal.double_at-requires
double_at-requires c = omega (arith, sample-whole _ _ (passed c.is_sample.ensures c.if-not-is_sample.false))
