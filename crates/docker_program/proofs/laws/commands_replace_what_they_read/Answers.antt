use Rattle.docker_program.proofs.ReplacingLemmas.{may_store_replace, stores_replace}
use Rattle.docker_program.proofs.laws.commands_replace_what_they_read.Goals as goal

pub returns-clause-stored : goal.returns-clause-stored
returns-clause-stored c = stores_replace

pub returns-clause-may_be_stored : goal.returns-clause-may_be_stored
returns-clause-may_be_stored c = may_store_replace
