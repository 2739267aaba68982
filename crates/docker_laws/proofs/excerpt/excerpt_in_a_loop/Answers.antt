use Rattle.docker_laws.proofs.dockers.ExcerptTurns.{kept_alone, kept_here, kept_elsewhere}
use Rattle.docker_laws.proofs.dockers.ExcerptTurns.{kept_begins, kept_within, kept_good}
use Rattle.docker_laws.proofs.excerpt.excerpt_in_a_loop.Goals as goal

pub returns-clause-alone : goal.returns-clause-alone
returns-clause-alone c = λ place state kept run needed key has. kept_alone place state kept run needed has key

pub returns-clause-here : goal.returns-clause-here
returns-clause-here c = λ place state kept run needed key entry has. kept_here place state kept run needed has key entry

pub returns-clause-elsewhere : goal.returns-clause-elsewhere
returns-clause-elsewhere c = λ place state kept run needed key entry has. kept_elsewhere place state kept run needed has key entry

pub returns-clause-begins : goal.returns-clause-begins
returns-clause-begins c = λ place entries kept run needed key entry named has. kept_begins place entries kept run needed has key entry named

pub returns-clause-within : goal.returns-clause-within
returns-clause-within c = kept_within

pub returns-clause-good : goal.returns-clause-good
returns-clause-good c = λ place entries kept run needed ledger has. kept_good place entries kept run needed has ledger
