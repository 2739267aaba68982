use Rattle.std.proofs.lemmas.Result.{err_from_is_err_and}
use Rattle.docker_office.proofs.OfficeLemmas.{one_raised, unread_by_office}
use Rattle.docker_office.proofs.office.Office.reload_under.Goals as goal

pub returns-clause-reads : goal.returns-clause-reads
returns-clause-reads g c = c.in_ok-self-inside.ensures.reads

pub returns-clause-sent : goal.returns-clause-sent
returns-clause-sent g c = λ done sent holds. one_raised _ _ _ _ _ _ c.in_ok-self-inside.ensures.reads.outcome holds

pub returns-in_err-self-inside-clause-reads : goal.returns-in_err-self-inside-clause-reads
returns-in_err-self-inside-clause-reads g c =
    let same = err_from_is_err_and c.from_residual.result c.from_residual.ensures.1 in
    rw (same.1, same.2) (unread_by_office g.S.Source.left g.S.Source.failures _ _ _ _ _ c.in_err-self-inside.ensures.reads)
