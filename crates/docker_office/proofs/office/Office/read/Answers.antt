use Rattle.std.proofs.lemmas.Result.{err_from_is_err_and}
use Rattle.docker_office.proofs.OfficeLemmas.{unread_by_office}
use Rattle.docker_office.proofs.office.Office.read.Goals as goal

pub returns-clause-reads : goal.returns-clause-reads
returns-clause-reads g c = c.in_ok-state.ensures.reads

pub returns-in_err-state-clause-reads : goal.returns-in_err-state-clause-reads
returns-in_err-state-clause-reads g c =
    let same = err_from_is_err_and c.from_residual.result c.from_residual.ensures.1 in
    rw (same.1, same.2) (unread_by_office g.S.Source.left g.S.Source.failures _ _ _ _ _ c.in_err-state.ensures.reads)
