use Rattle.cif_laws.proofs.Common.{err_from_is_err_and}
use Rattle.docker_cmd.proofs.SourcesLemmas.{prepared_read, read_one_file}
use Rattle.docker_cmd.proofs.prepared_job.prepare.Goals as goal

pub returns-in_err-held : goal.returns-in_err-held
returns-in_err-held g c =
    let same = err_from_is_err_and c.from_residual.result c.from_residual.ensures.1 in
    rw (same.1, same.2) (record { reads = c.in_err-held.ensures.reads; one_file = λ is. tt; not_passed = c.in_err-held.ensures.not_passed })

pub returns : goal.returns
returns g c =
    let ends = c.in_ok-held.ensures.reads in
    let reads = prepared_read _ _ _ _ _ _ ends.outcome in
    record {
      reads = record { outcome = reads; none = ends.none; order = ends.order; counted = ends.counted };
      one_file = λ is. read_one_file _ _ _ _ is reads.ends.0.1;
      not_passed = c.in_ok-held.ensures.not_passed;
    }
