use Rattle.cif_laws.proofs.Common.{ap, ◌∙◌, Some, Train}
use Rattle.cif_change.specs.Meaning.{schedule_key_meant}
use Rattle.train_choice.specs.Along.{chosen_along}
use Rattle.train_choice.proofs.Along.{train_from_told}
use Rattle.train_choice.proofs.choice.train_from.Goals as goal

pub returns : goal.returns
returns c = λ rows are. train_from_told _ _ _ _ _ _ _ _ c.key.ensures are c.requires.live c.requires.runs c.schedules_of.ensures.has (c.best_of.ensures
    ∙ ap (λ (t : Train). chosen_along (schedule_key_meant c.key.result.now).uid c.args.day (Some t) c.schedules_of.result) c.again.ensures)
    c.unless_cancelled.ensures
