use Rattle.cif_laws.proofs.Common.{last_line}
use Rattle.docker_detail.proofs.print.padded_last_line.Goals as goal

pub returns : goal.returns
returns c = c.padded.ensures last_line c.last_line.ensures
