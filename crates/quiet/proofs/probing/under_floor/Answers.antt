-- `probing::under_floor` meets its contract: the floor on a weight; a refusal passes through.
use Rattle.std.proofs.lemmas.Result.{err_from_is_err_and}
use Rattle.quiet.proofs.probing.under_floor.Goals as goal

pub returns-in_err-probed : goal.returns-in_err-probed
returns-in_err-probed c = let p = err_from_is_err_and c.from_residual.result c.from_residual.ensures.1 in
    rw (p.1, p.2, c.in_err-probed.was)

pub returns : goal.returns
returns c = rw (c.in_ok-probed.was, c.floored.ensures)
