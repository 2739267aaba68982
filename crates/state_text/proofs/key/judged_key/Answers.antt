-- The tactic `auto` proves these goals too. Their proofs are written out so that a wrong body is refused without a long search.
use Rattle.cif_laws.proofs.Common.{rules}
use Rattle.state_text.proofs.key.judged_key.Goals as goal

pub returns-in_default : goal.returns-in_default
returns-in_default g c = search rules

pub returns-then-not-is_above : goal.returns-then-not-is_above
returns-then-not-is_above g c = search rules
