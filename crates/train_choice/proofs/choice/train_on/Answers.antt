use Rattle.cif_laws.proofs.Common.{◌∙◌}
use Rattle.train_choice.proofs.Along.{train_of_rows}
use Rattle.train_choice.proofs.choice.train_on.Goals as goal

pub returns : goal.returns
returns c = λ rows are. c.unless_cancelled.ensures ∙ train_of_rows _ _ _ _ _ are c.chosen_in.ensures
