-- The tactic `auto` proves these goals too. Their proofs are written out so that a wrong body is refused without a long search.
use Rattle.cif_laws.proofs.Common.{rules}
use Rattle.docker_join.proofs.entry.EntryPartialEq.eq.Goals as goal

pub returns : goal.returns
returns c = search rules
