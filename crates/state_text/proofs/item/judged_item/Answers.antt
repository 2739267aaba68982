-- The tactic `auto` proves these goals too. Their proofs are written out so that a wrong body is refused without a long search.
use Rattle.cif_laws.proofs.Common.{rules}
use Rattle.state_text.proofs.item.judged_item.Goals as goal

pub returns-in_default : goal.returns-in_default
returns-in_default c = search rules

pub returns-then-not-is_above : goal.returns-then-not-is_above
returns-then-not-is_above c = search rules

pub returns-then-raises_floor : goal.returns-then-raises_floor
returns-then-raises_floor c = search rules
