use Rattle.cif_laws.proofs.Common.{sym, ◌∙◌, on_ok_weaker}
use Rattle.train_choice.proofs.Along.{next_link_is_one, next_link_is_none}
use Rattle.train_choice.proofs.day_links.add_row.Goals as goal

pub returns-in-Some : goal.returns-in-Some
returns-in-Some c = on_ok_weaker c.add.result (λ more. λ group. more group
    ∙ next_link_is_one _ _ _ _ _ _ (sym c.association_of.ensures ∙ c.in-Some.is)) c.add.ensures

pub returns-in-None : goal.returns-in-None
returns-in-None c = λ group. next_link_is_none _ _ _ _ _ (sym c.association_of.ensures ∙ c.in-None.is)
