use Rattle.docker_program.proofs.CommandLemmas.{may_store_known, prints_known, stores_known}
use Rattle.docker_program.proofs.laws.commands_keep_summaries.Goals as goal

pub returns-clause-stored : goal.returns-clause-stored
returns-clause-stored c = stores_known

pub returns-clause-may_be_stored : goal.returns-clause-may_be_stored
returns-clause-may_be_stored c = may_store_known

pub returns-clause-printed : goal.returns-clause-printed
returns-clause-printed c = prints_known
