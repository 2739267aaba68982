use Rattle.cif_laws.proofs.Common.{sym, ◌∙◌}
use Rattle.docker_train.proofs.trains.write_row.Goals as goal

pub returns-in-Some-clause-whole : goal.returns-in-Some-clause-whole
returns-in-Some-clause-whole g c = λ rows are. rw (← (sym c.in-Some.is ∙ c.schedule_of.ensures)) (c.write_schedule.ensures.whole rows are)

pub returns-in-Some-clause-part : goal.returns-in-Some-clause-part
returns-in-Some-clause-part g c = λ rows are. rw (← (sym c.in-Some.is ∙ c.schedule_of.ensures)) (c.write_schedule.ensures.part rows are)
