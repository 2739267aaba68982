use Rattle.docker_model.specs.file.Change as model
use Rattle.docker_model.specs.state.Op as ops
use Rattle.cif_laws.proofs.Common.{key_cmp}
use Rattle.docker_join.proofs.MeantOrder.{meant_ascending}
use Rattle.docker_join.specs.Meaning.{row_meant}
use Rattle.docker_state.proofs.state.State.of_rows.Goals as goal

pub from_rows-requires : goal.from_rows-requires
from_rows-requires c = meant_ascending row_meant (λ (a b : model.Key × ops.Entry). key_cmp a.0 b.0) c.args.rows.items c.requires.valid.entries.1
