-- The op that an act leaves under its key.
use Rattle.docker_model.specs.state.Op.{Op, op_of}
use Rattle.cif_change.specs.declared.change.Act.{Act}
use Rattle.cif_change.specs.Meaning.{act_meant}

-- the op of the entry that an act leaves under its key: a put with a body, or a deletion
abbrev pub act_op : Act → Op
act_op act = op_of (act_meant act)
