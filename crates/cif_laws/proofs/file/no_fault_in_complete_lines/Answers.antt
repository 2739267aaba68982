use Rattle.cif_laws.proofs.files.ReportedFaults.{fault_so_far_or_passes, passes_no_fault}
use Rattle.cif_laws.proofs.file.no_fault_in_complete_lines.Goals as goal

pub returns-clause-either : goal.returns-clause-either
returns-clause-either c = fault_so_far_or_passes

pub returns-clause-none : goal.returns-clause-none
returns-clause-none c = passes_no_fault
