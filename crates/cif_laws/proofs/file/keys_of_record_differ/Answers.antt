use Rattle.cif_laws.proofs.files.ChangeOrder.{file_keys_differ}
use Rattle.cif_laws.proofs.file.keys_of_record_differ.Goals as goal

pub returns-clause-file : goal.returns-clause-file
returns-clause-file c = file_keys_differ
