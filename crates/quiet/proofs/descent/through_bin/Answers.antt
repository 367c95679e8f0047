-- `through` multiplies a weight and lets a refusal pass, and these are the two arms.
use Rattle.std.proofs.lemmas.Result.{err_from_is_err_and}
use Rattle.quiet.proofs.descent.through_bin.Goals as goal

pub returns-in_err-probed : goal.returns-in_err-probed
returns-in_err-probed c = let p = err_from_is_err_and c.from_residual.result c.from_residual.ensures.1 in
    rw (p.1, p.2, c.in_err-probed.was)

pub returns : goal.returns
returns c = rw c.in_ok-probed.was
