-- Converts stamps, floors, ops, entries and rows from the code's types to the definitions' types.
use Rattle.std.specs.Prelude.{Option}
use Rattle.std.specs.Option.{option_map}
use Rattle.docker_model.specs.file.Change as changes
use Rattle.docker_model.specs.state.Stamp as model
use Rattle.docker_model.specs.state.Op as ops
use Rattle.docker_model.specs.state.Op.{deleted, lapsed, put_with}
use Rattle.cif_change.specs.Meaning.{body_meant, key_meant}
use Rattle.cif_change.specs.declared.key.Key.{Key}
use Rattle.docker_join.specs.declared.stamp.FileStamp.{FileStamp}
use Rattle.docker_join.specs.declared.stamp.Stamp.{Stamp}
use Rattle.docker_join.specs.declared.entry.Op.{Op}
use Rattle.docker_join.specs.declared.entry.Op.TheVariants as op
use Rattle.docker_join.specs.declared.entry.Entry.{Entry}

-- converts a file stamp from the code's type to the definitions' type
abbrev pub file_stamp_meant : FileStamp → model.FileStamp
file_stamp_meant stamp = record {
  moment = record { day = stamp.day; minute = stamp.minute };
  reference = stamp.reference;
}

-- converts a floor from the code's type to the definitions' type
abbrev pub floor_meant : Option FileStamp → Option model.FileStamp
floor_meant floor = option_map file_stamp_meant floor

-- converts a stamp from the code's type to the definitions' type
abbrev pub stamp_meant : Stamp → model.Stamp
stamp_meant stamp = record { file = file_stamp_meant stamp.file; number = stamp.number }

-- converts an op from the code's type to the definitions' type
abbrev pub op_meant : Op → ops.Op
op_meant op.Deleted = deleted
op_meant op.Lapsed = lapsed
op_meant (op.Put body) = put_with (body_meant body)

-- converts an entry from the code's type to the definitions' type
abbrev pub entry_meant : Entry → ops.Entry
entry_meant entry = record { stamp = stamp_meant entry.stamp; op = op_meant entry.op }

-- converts a row, which is a key with its entry, from the code's type to the definitions' type
abbrev pub row_meant : Key × Entry → changes.Key × ops.Entry
row_meant row = (key_meant row.0, entry_meant row.1)
