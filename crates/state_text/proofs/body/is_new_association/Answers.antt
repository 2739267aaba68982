-- The tactic `auto` proves these goals too. Their proofs are written out so that a wrong body is refused without a long search.
use Rattle.cif_laws.proofs.Common.{rules}
use Rattle.state_text.proofs.body.is_new_association.Goals as goal

pub returns-then-eq : goal.returns-then-eq
returns-then-eq c = search rules
