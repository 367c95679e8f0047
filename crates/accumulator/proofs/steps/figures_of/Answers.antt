-- The number is the refusal's on either way to it, and the figures are asked for only where there are some.
use mathlib.Core.Path.{◌≡◌, sym, ◌∙◌, ap}
use mathlib.Core.Bool.{Bool, true, false}
use borrow.Author.Tests.{le-leb, lt-leb}
use Rattle.std.proofs.lemmas.Result.{err_from_is_err_and}
use lib.Ieee.{binary64, add}
use Rattle.doubles.specs.Count.{count_of}
use Rattle.doubles.specs.Paper.{gives}
use Rattle.accumulator.specs.declared.StatisticsAccumulator.{StatisticsAccumulator}
use Rattle.accumulator.specs.Record.{bounded_counts}
use Rattle.accumulator.specs.Update.{enough, figures_of, figures_for}
use Rattle.accumulator.specs.Ended.{tallied_of, refusal_of, ended_of}
use Rattle.accumulator.proofs.Counts.{within, exact, all-count, counts_of_lem}
use Rattle.accumulator.proofs.Ended.{plainly, may-end, ended-err, figures-there, figures-missing}
use Rattle.accumulator.proofs.steps.figures_of.Goals as goal
use Rattle.accumulator.proofs.steps.figures_of.Goals.{Else-n-lt2, Joined-not-is_plain, then-not-is_plain+in_ok-may_end, else-not-is_plain}

-- the sums and counts that are judged
abbrev here : Joined-not-is_plain → StatisticsAccumulator
here c = tallied_of c.args.sum c.args.n c.args.sum_sq c.args.zeros c.args.total c.args.processed c.args.total_sq c.args.num_zeros c.args.weight_sum c.args.iterations

-- the iteration may end
may_here : (c : Joined-not-is_plain) → refusal_of (here c) ≡ 0
may_here c = elim c.if-not-is_plain.branch [ then-not-is_plain+in_ok-may_end w ↦ ap refusal_of (sym w.tallied.ensures) ∙ sym w.in_ok-may_end.ensures | else-not-is_plain w ↦ plainly _ _ _ _ _ _ _ _ _ _ (c.is_plain.ensures w.if-not-is_plain.false) ]

counts : (c : Else-n-lt2) → bounded_counts (here c.before) ≡ true
counts c = counts_of_lem _ (may-end false _ (may_here c.before)).0

-- and has two samples or more
two : (c : Else-n-lt2) → enough (here c.before) ≡ true
unfolding enough tallied_of
two c = le-leb _ _ c.if-n-lt2.false

pub returns-in_err-may_end : goal.returns-in_err-may_end
returns-in_err-may_end c = let p = err_from_is_err_and c.from_residual.result c.from_residual.ensures.1 in
    rw (p.1, p.2) (ended-err c.args.weighted _ c.in_err-may_end.field-0.0 (c.in_err-may_end.ensures ∙ ap refusal_of c.tallied.ensures))

pub returns-then-n-lt2 : goal.returns-then-n-lt2
unfolding enough tallied_of
returns-then-n-lt2 c = rw c.without.ensures (sym (figures-missing c.args.weighted _ (may_here (goal.at.returns-then-n-lt2 c).Joined-not-is_plain) (lt-leb _ _ c.if-n-lt2.true)))

pub int_to_float-waiting : goal.int_to_float-waiting
unfolding tallied_of
int_to_float-waiting c = exact _ (within _ (counts (goal.at.int_to_float-waiting c).Else-n-lt2)).waiting

-- the figures that are worked out are the record's own
there : (w : Bool) (c : Else-n-lt2)
    → gives (figures_of w c.args.sum c.args.sum_sq (count_of c.args.n) (add binary64 c.args.total c.args.sum) (add binary64 c.args.total_sq c.args.sum_sq) (add binary64 (count_of c.args.processed) (count_of c.args.n)) c.args.weight_sum)
    ≡ ended_of w (here c.before)
unfolding figures_for tallied_of
there w c = let a = here c.before in
    rw (all-count a (counts c)) (sym (figures-there w a (may_here c.before) (two c)))

pub returns-then-weighted : goal.returns-then-weighted
unfolding count_of
returns-then-weighted c = let all = add binary64 (count_of c.args.processed) (count_of c.args.n) in
    rw c.if-weighted.true (ap gives (c.figured_weighted.ensures (add binary64 c.args.total c.args.sum) (add binary64 c.args.total_sq c.args.sum_sq) all) ∙ there true (goal.at.returns-then-weighted c).Else-n-lt2)

pub int_to_float-all : goal.int_to_float-all
unfolding tallied_of
int_to_float-all c = exact _ (within _ (counts (goal.at.int_to_float-all c).Else-n-lt2)).processed

pub returns : goal.returns
unfolding count_of
returns c = rw c.if-weighted.false (ap gives c.figured_plain.ensures ∙ there false (goal.at.returns c).Else-n-lt2)
