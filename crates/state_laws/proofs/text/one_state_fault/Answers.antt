use Rattle.state_laws.proofs.texts.OneStateFault.{one_fault, no_fault_of_state}
use Rattle.state_laws.proofs.text.one_state_fault.Goals as goal

pub returns-clause-one : goal.returns-clause-one
returns-clause-one c = one_fault

pub returns-clause-none : goal.returns-clause-none
returns-clause-none c = no_fault_of_state
