-- The tactic `auto` proves these goals too. Their proofs are written out so that a wrong body is refused without a long search.
use Rattle.cif_laws.proofs.Common.{rules}
use Rattle.docker_join.proofs.table.Table.from_rows.Goals as goal

pub invariant_of-result : goal.invariant_of-result
invariant_of-result g c = search rules

pub returns : goal.returns
returns g c = search rules
