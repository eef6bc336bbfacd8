-- `times::reckoning::both`: the first input is judged before the second.
-- Assumes nothing.
use Rattle.std.proofs.lemmas.Result.{err_from_is_err_and}
use Rattle.times.proofs.Alone.{time_of, first_wrong, second_wrong}
use Rattle.times.proofs.reckoning.both.Goals as goal

pub returns-in_err-a-clause-refused : goal.returns-in_err-a-clause-refused
returns-in_err-a-clause-refused c =
    let p = err_from_is_err_and c.from_residual.result c.from_residual.ensures.1 in
    rw (p.1, p.2) (first_wrong _ _ c.in_err-a.ensures)

pub returns-in_err-b-clause-refused : goal.returns-in_err-b-clause-refused
returns-in_err-b-clause-refused c =
    let p = err_from_is_err_and c.from_residual-in_err-b.result c.from_residual-in_err-b.ensures.1 in
    rw (p.1, p.2) (second_wrong _ _ c.in_ok-a.ensures c.in_err-b.ensures)

pub returns-clause-times : goal.returns-clause-times
returns-clause-times c = (time_of _ c.in_ok-a.ensures, time_of _ c.in_ok-b.ensures)
