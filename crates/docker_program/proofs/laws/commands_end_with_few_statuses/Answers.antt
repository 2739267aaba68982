use Rattle.docker_program.proofs.ProgramLemmas.{status_within, usage_status}
use Rattle.docker_program.proofs.laws.commands_end_with_few_statuses.Goals as goal

pub returns-clause-usage : goal.returns-clause-usage
returns-clause-usage c = λ run status ran. usage_status run.words run.names_bytes run.old run.new status ran

pub returns-clause-few : goal.returns-clause-few
returns-clause-few c = λ run status ran. status_within run.words run.names_bytes run.old run.new status ran
