use Rattle.docker_desk.proofs.ReplacingLemmas.{save_replaces, unplaced_replaces}
use Rattle.docker_desk.proofs.laws.saves_replace_what_was_read.Goals as goal

pub returns-clause-saved : goal.returns-clause-saved
returns-clause-saved c = λ standing setting first before after steps old text begins are does stands. save_replaces _ _ _ _ _ _ _ _ begins are does stands

pub returns-clause-may_be_saved : goal.returns-clause-may_be_saved
returns-clause-may_be_saved c = λ standing setting first before after steps old text begins are asked stands.
    unplaced_replaces standing setting first before after steps old text begins are asked stands
