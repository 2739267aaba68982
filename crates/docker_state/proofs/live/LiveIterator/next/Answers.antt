-- The tactic `auto` proves these goals too. Their proofs are written out so that a wrong body is refused without a long search.
use Rattle.cif_laws.proofs.Common.{rules}
use Rattle.docker_state.proofs.live.LiveIterator.next.Goals as goal

pub returns-in-Put-clause-steps : goal.returns-in-Put-clause-steps
returns-in-Put-clause-steps c = search rules
