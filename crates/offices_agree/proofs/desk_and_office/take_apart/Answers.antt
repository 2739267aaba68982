use Rattle.offices_agree.proofs.TwoOfficesSteps.{apart}
use Rattle.offices_agree.proofs.desk_and_office.take_apart.Goals as goal

pub returns-clause-learn : goal.returns-clause-learn
returns-clause-learn c = apart _ _ _ _ _ _ (c.in_ok-enter.ensures.performs, c.enter.ensures.met)
    (c.in_ok-enter-2.ensures.performs, c.enter-2.ensures.met) (c.in_ok-enter-3.ensures.performs, c.enter-3.ensures.met)
    (c.in_ok-enter-4.ensures.performs, c.enter-4.ensures.met) (c.in_ok-enter-5.ensures.performs, c.enter-5.ensures.met)
