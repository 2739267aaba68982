use Rattle.cif_laws.proofs.Common.{arith}
use Rattle.state_lists.proofs.TallyLemmas.{one_alone, one_later, other_later}
use Rattle.state_lists.proofs.tally.later_of.Goals as goal

pub returns-then-number : goal.returns-then-number
returns-then-number c = λ days. other_later _ _ _ _ _ c.in-Some-Some.is-0 c.in-Some-Some.is-1
    (let first = c.number.ensures.value in let second = c.number-in-Some-Some.ensures.value in let below = c.if-number.true in omega arith)

pub returns-else-number : goal.returns-else-number
returns-else-number c = λ days. one_later _ _ _ _ _ c.in-Some-Some.is-0 c.in-Some-Some.is-1
    (let first = c.number.ensures.value in let second = c.number-in-Some-Some.ensures.value in let above = c.if-number.false in omega arith)

pub returns-in-Some-None : goal.returns-in-Some-None
returns-in-Some-None c = λ days. one_alone _ _ _ _ c.in-Some-None.is-0 c.in-Some-None.is-1
