use Rattle.cif_laws.proofs.Common.{refl, err_from_is_err_and}
use Rattle.docker_cmd.proofs.ReadingLemmas.{check_failed, check_refused}
use Rattle.docker_cmd.proofs.sources.counts_of_file.Goals as goal

pub returns : goal.returns
returns g c =
    let ends = c.in_ok-judge_file.ensures.reads in
    record {
      reads = λ second. record { first_few = ends.no_further; second_few = refl; ends = ends.outcome };
      counted = λ second. (ends.failures, refl);
      not_passed = c.in_ok-judge_file.ensures.not_passed;
    }

pub returns-in_err-judge_file : goal.returns-in_err-judge_file
returns-in_err-judge_file g c =
    let same = err_from_is_err_and c.from_residual.result c.from_residual.ensures.1 in
    rw (same.1, same.2) (record {
      reads = λ second. check_refused _ _ second _ _ _ c.in_err-judge_file.ensures.reads;
      counted = λ second. check_failed _ _ second _ c.in_err-judge_file.ensures.reads.failures;
      not_passed = c.in_err-judge_file.ensures.not_passed;
    })
