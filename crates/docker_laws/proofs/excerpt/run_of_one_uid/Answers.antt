use Rattle.docker_laws.proofs.dockers.ExcerptSteps.{run_needed_iff, names_so_far, names_stay, names_with, run_uid}
use Rattle.docker_laws.proofs.excerpt.run_of_one_uid.Goals as goal

pub returns-clause-needed : goal.returns-clause-needed
returns-clause-needed c = run_needed_iff

pub returns-clause-names : goal.returns-clause-names
returns-clause-names c = names_so_far

pub returns-clause-more_names : goal.returns-clause-more_names
returns-clause-more_names c = names_with

pub returns-clause-one_uid : goal.returns-clause-one_uid
returns-clause-one_uid c = run_uid

pub returns-clause-names_stay : goal.returns-clause-names_stay
returns-clause-names_stay c = names_stay
