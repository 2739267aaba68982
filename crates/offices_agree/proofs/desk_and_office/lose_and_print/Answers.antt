use Rattle.offices_agree.proofs.DeskAndOfficeSteps.{shown_south}
use Rattle.offices_agree.proofs.desk_and_office.lose_and_print.Goals as goal

pub returns : goal.returns
returns c = shown_south _ _ _ _ (c.in_ok-enter.ensures.performs, c.enter.ensures.met) (c.in_ok-enter-2.ensures.performs, c.enter-2.ensures.met)
    (c.in_ok-enter-3.ensures.performs, c.enter-3.ensures.met)
