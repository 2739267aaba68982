use Rattle.docker_program.proofs.EndingLemmas.{run_done, run_undone}
use Rattle.docker_program.proofs.laws.commands_store_or_print.Goals as goal

pub returns-clause-done : goal.returns-clause-done
returns-clause-done c = run_done

pub returns-clause-undone : goal.returns-clause-undone
returns-clause-undone c = run_undone
