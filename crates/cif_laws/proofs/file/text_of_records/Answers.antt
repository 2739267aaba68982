use Rattle.cif_laws.proofs.files.TextLines.{text_iff_lines}
use Rattle.cif_laws.proofs.file.text_of_records.Goals as goal

pub returns : goal.returns
returns c = text_iff_lines
