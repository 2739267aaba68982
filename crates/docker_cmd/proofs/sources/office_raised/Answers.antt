use Rattle.cif_laws.proofs.Common.{err_from_is_err_and}
use Rattle.docker_cmd.proofs.sources.office_raised.Goals as goal

pub returns-clause-reads : goal.returns-clause-reads
returns-clause-reads g c = c.in_ok-reload_under.ensures.reads

pub returns-in_err-reload_under-clause-reads : goal.returns-in_err-reload_under-clause-reads
returns-in_err-reload_under-clause-reads g c =
    let same = err_from_is_err_and c.from_residual.result c.from_residual.ensures.1 in
    rw (same.1, same.2) c.in_err-reload_under.ensures.reads
