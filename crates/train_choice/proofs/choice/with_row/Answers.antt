use Rattle.cif_laws.proofs.Common.{sym, ◌∙◌}
use Rattle.train_choice.proofs.Along.{next_is_one}
use Rattle.train_choice.proofs.choice.with_row.Goals as goal

pub returns-in-Some : goal.returns-in-Some
returns-in-Some c = c.with_one.ensures
    ∙ next_is_one _ _ _ _ _ _ (sym c.schedule_of.ensures ∙ c.in-Some.is)
