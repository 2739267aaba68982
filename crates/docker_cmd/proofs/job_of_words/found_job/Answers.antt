use Rattle.cif_laws.proofs.Common.{◌≡◌, Err, ap, subst, err_from_is_err_and}
use Rattle.docker_cmd.specs.Words.{texts}
use Rattle.docker_cmd.specs.Job.{AskNothing}
use Rattle.docker_cmd.specs.declared.job_fault.JobFault.TheVariants.{Usage}
use Rattle.docker_cmd.proofs.JobOfWordsLemmas.{asks_nothing, no_subcommand}
use Rattle.docker_cmd.proofs.job_of_words.found_job.Goals as goal

pub returns-in_err-subcommand-clause-usage : goal.returns-in_err-subcommand-clause-usage
returns-in_err-subcommand-clause-usage c =
    let same = err_from_is_err_and c.from_residual.result c.from_residual.ensures.1 in
    rw (same.1, same.2) (λ usage. no_subcommand _
    (c.in_err-subcommand.ensures.usage (let is : c.in_err-subcommand.field-0.0 ≡ Usage = cc in ap Err is)))

pub returns-in-None-clause-usage : goal.returns-in-None-clause-usage
returns-in-None-clause-usage c = λ usage.
    let read = c.in_ok-subcommand in
    asks_nothing _ _ _ read.ensures.named (subst (λ words. AskNothing read.subcommand (texts words)) c.as_slice.ensures.value c.in-None.ensures)
