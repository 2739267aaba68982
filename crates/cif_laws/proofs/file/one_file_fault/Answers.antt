use Rattle.cif_laws.proofs.files.OneFileFault.{one_fault, no_fault_of_file}
use Rattle.cif_laws.proofs.file.one_file_fault.Goals as goal

pub returns-clause-one : goal.returns-clause-one
returns-clause-one c = one_fault

pub returns-clause-none : goal.returns-clause-none
returns-clause-none c = no_fault_of_file
