use Rattle.offices_agree.proofs.TwoOfficesSteps.{exchanged}
use Rattle.offices_agree.proofs.two_offices.exchange.Goals as goal

-- src/two_offices.rt:62:1
pub returns-clause-learn : goal.returns-clause-learn
returns-clause-learn c = exchanged _ _ _ _ _ _ _ _ _ _ (c.in_ok-enter.ensures.performs, c.enter.ensures.met)
    (c.in_ok-enter-2.ensures.performs, c.enter-2.ensures.met) (c.in_ok-enter-3.ensures.performs, c.enter-3.ensures.met)
    (c.in_ok-enter-4.ensures.performs, c.enter-4.ensures.met) (c.in_ok-enter-5.ensures.performs, c.enter-5.ensures.met)
    (c.in_ok-enter-6.ensures.performs, c.enter-6.ensures.met) (c.in_ok-enter-7.ensures.performs, c.enter-7.ensures.met)
    (c.in_ok-enter-8.ensures.performs, c.enter-8.ensures.met) (c.in_ok-enter-9.ensures.performs, c.enter-9.ensures.met)
