use Rattle.cif_laws.proofs.files.FileCauses.{file_or_fault}
use Rattle.cif_laws.proofs.file.file_or_fault.Goals as goal

pub returns : goal.returns
returns c = file_or_fault
