-- The tactic `auto` proves these goals too. Their proofs are written out so that a wrong body is refused without a long search.
use Rattle.cif_laws.proofs.Common.{rules}
use Rattle.state_text.proofs.stage.Stage.begins_item.Goals as goal

pub returns-in-Body : goal.returns-in-Body
returns-in-Body c = search rules
