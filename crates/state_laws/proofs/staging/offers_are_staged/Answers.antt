use Rattle.state_laws.proofs.joins.StagedEntry.{entry_at_iff, to_stage_by_get, one_staged_more, one_left_out, own_stages_nothing}
use Rattle.state_laws.proofs.staging.offers_are_staged.Goals as goal

pub returns-clause-test : goal.returns-clause-test
returns-clause-test c = to_stage_by_get

pub returns-clause-staged : goal.returns-clause-staged
returns-clause-staged c = λ own floor offered staged key entry stages. one_staged_more own floor offered staged key entry stages

pub returns-clause-left_out : goal.returns-clause-left_out
returns-clause-left_out c = λ own floor offered staged key entry stages. one_left_out own floor offered staged key entry stages

pub returns-clause-entry : goal.returns-clause-entry
returns-clause-entry c = entry_at_iff

pub returns-clause-own : goal.returns-clause-own
returns-clause-own c = own_stages_nothing
