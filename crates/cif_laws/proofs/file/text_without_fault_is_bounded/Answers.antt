use Rattle.cif_laws.proofs.files.ReportedBound as law
use Rattle.cif_laws.proofs.file.text_without_fault_is_bounded.Goals as goal

pub returns : goal.returns
returns c = law.text_without_fault_is_bounded
