-- A word is a value.
use Rattle.std.proofs.Common.{rules, ◌≡◌, ◌+◌, ◌*◌, arith, get_or}
use Rattle.plan.specs.Numbers.{words_at}
use Rattle.plan.proofs.walking.most_among.Goals as goal

pub returns : goal.returns
unfolding words_at
returns c =
    c.most_of.ensures (λ j. get_or c.args.table.now j 0) 1 c.args.w
    (λ i x h k. let e : c.args.w + 1 * i ≡ c.args.w + i = omega arith in rw e (search rules))
