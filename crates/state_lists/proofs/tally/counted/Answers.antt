use Rattle.cif_laws.proofs.Common.{ap, key_tag}
use Rattle.cif_change.specs.Meaning.{key_meant}
use Rattle.cif_change.specs.declared.key.Key as kept
use Rattle.state_lists.proofs.TallyLemmas.{with_association, with_place, with_schedule}
use Rattle.state_lists.proofs.tally.counted.Goals as goal

pub returns-in-Tiploc : goal.returns-in-Tiploc
returns-in-Tiploc c = λ rows is. with_place _ _ _ is _ (ap (λ (key : kept.Key). key_tag (key_meant key)) c.in-Tiploc.is)

pub returns-in-Assoc : goal.returns-in-Assoc
returns-in-Assoc c = λ rows is. with_association _ _ _ is _ (ap (λ (key : kept.Key). key_tag (key_meant key)) c.in-Assoc.is)

pub returns-in-Schedule : goal.returns-in-Schedule
returns-in-Schedule c = λ rows is. with_schedule _ _ _ is _
    (ap (λ (key : kept.Key). key_tag (key_meant key)) c.in-Schedule.is) _ _ c.last_day.ensures c.later_of.ensures
