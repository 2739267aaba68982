use Rattle.cif_laws.proofs.Common.{ℕ, List, subst, sym, IfOk-weaker}
use Rattle.docker_cmd.specs.Job.{IsJobOf, NameNoJob}
use Rattle.docker_cmd.specs.JobLine.{words_in}
use Rattle.docker_cmd.proofs.LineOfJobLemmas.{no_job_on_line, job_on_line}
use Rattle.docker_cmd.proofs.line_of_job.job_line.Goals as goal

pub returns-clause-usage : goal.returns-clause-usage
returns-clause-usage g c = λ usage. no_job_on_line _ _ _ c.in_ok-line.ensures.line
    (subst (λ (l : List ℕ). NameNoJob (words_in l)) c.as_slice.ensures.value (c.job_of_line.ensures.usage.0 usage))

pub returns-clause-memory : goal.returns-clause-memory
returns-clause-memory g c = λ memory. job_on_line _ _ _ c.in_ok-line.ensures.line (λ none.
    let usage = c.job_of_line.ensures.usage.1 (subst (λ (l : List ℕ). NameNoJob (words_in l)) (sym c.as_slice.ensures.value) none) in
    absurd (cc))

pub returns-clause-job : goal.returns-clause-job
returns-clause-job g c =
    IfOk-weaker c.job_of_line.result _ _
    (λ job is. (c.in_ok-line.line.items, c.in_ok-line.ensures.line, subst (λ (l : List ℕ). IsJobOf (words_in l) job) c.as_slice.ensures.value is))
    c.job_of_line.ensures.job
