use Rattle.cif_laws.proofs.files.ReportedFaults.{fault_stays, fault_in_the_end, one_fault_so_far}
use Rattle.cif_laws.proofs.file.reported_fault_stays.Goals as goal

pub returns-clause-so_far : goal.returns-clause-so_far
returns-clause-so_far c = fault_stays

pub returns-clause-in_the_end : goal.returns-clause-in_the_end
returns-clause-in_the_end c = fault_in_the_end

pub returns-clause-one : goal.returns-clause-one
returns-clause-one c = one_fault_so_far
