use Rattle.docker_laws.proofs.dockers.ExcerptSteps.{no_run_before, drops_elsewhere}
use Rattle.docker_laws.proofs.excerpt.excerpt_by_entry.Goals as goal

pub returns-clause-no_run : goal.returns-clause-no_run
returns-clause-no_run c = λ place state key above never. no_run_before place state.entries key above never

pub returns-clause-elsewhere : goal.returns-clause-elsewhere
returns-clause-elsewhere c = drops_elsewhere
