use Rattle.cif_laws.proofs.Common.{rules, arith}
use Rattle.state_text.proofs.NoHeadLemmas.{head_of_body, other_tag}
use Rattle.state_text.proofs.head.put_head.Goals as goal

pub returns-in-2 : goal.returns-in-2
returns-in-2 g c = rw (c.in_ok-tag.ensures.cases.0, c.in-2.is) (head_of_body _ _ _ _ _ (λ same. omega arith) c.body_head.ensures)

pub returns-in-1 : goal.returns-in-1
returns-in-1 g c = rw (c.in_ok-tag.ensures.cases.0, c.in-1.is) (head_of_body _ _ _ _ _ (λ same. omega arith) c.body_head-in-1.ensures)

pub returns-in_default : goal.returns-in_default
returns-in_default g c = search (rules, other_tag)
