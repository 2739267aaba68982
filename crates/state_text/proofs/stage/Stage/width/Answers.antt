-- The tactic `auto` proves these goals too. Their proofs are written out so that a wrong body is refused without a long search.
use Rattle.cif_laws.proofs.Common.{rules}
use Rattle.state_text.proofs.stage.Stage.width.Goals as goal

pub returns-in-Horizon-clause-value : goal.returns-in-Horizon-clause-value
returns-in-Horizon-clause-value c = search rules
