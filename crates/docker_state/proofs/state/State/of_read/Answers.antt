-- The result is the state that all changes of the file make.
use Rattle.cif_laws.proofs.Common.{List, map, subst, sym, ◌∙◌, Change}
use Rattle.cif_change.specs.Meaning.{change_meant}
use Rattle.state_index.specs.Rooms.{changed_items}
use Rattle.docker_state.specs.Indexed.{HasRoomIfAny}
use Rattle.docker_state.specs.Meaning.{item_meant}
use Rattle.docker_state.specs.MadeState.{HaveRecords}
use Rattle.docker_state.proofs.FileState.{changes_are, file_records, item_is_of, summary_of_made, valid_of_made}
use Rattle.docker_state.proofs.state.State.of_read.Goals as goal

pub of_changes-requires-clause-records : goal.of_changes-requires-clause-records
of_changes-requires-clause-records c =
    let read = c.records-records.ensures.read in
    subst HaveRecords (sym (changes_are c.args.file c.into_parts.result c.into_parts.ensures.file ∙ read.of_records.changes_are))
    (file_records read.records read.is_file read.few)

pub of_changes-requires-clause-valid : goal.of_changes-requires-clause-valid
of_changes-requires-clause-valid c =
    let read = c.records-records.ensures.read in
    valid_of_made (item_meant c.item_of-item.result) (map change_meant c.into_parts.result.changes.items) read.records
    (item_is_of c.header.result c.args.file.header_line (item_meant c.item_of-item.result) read.records c.header.ensures read.of_records.header_is
    c.item_of-item.ensures)
    (changes_are c.args.file c.into_parts.result c.into_parts.ensures.file ∙ read.of_records.changes_are) read.is_file read.few

pub returns-in-Ok-clause-ok : goal.returns-in-Ok-clause-ok
returns-in-Ok-clause-ok c = λ records of.
    summary_of_made (item_meant c.item_of-item.result) (map change_meant c.into_parts.result.changes.items) records c.in-Ok.state
    (item_is_of c.header.result c.args.file.header_line (item_meant c.item_of-item.result) records c.header.ensures of.header_is c.item_of-item.ensures)
    (changes_are c.args.file c.into_parts.result c.into_parts.ensures.file ∙ of.changes_are) c.in-Ok.ensures.ok

pub of_changes-requires-clause-room : goal.of_changes-requires-clause-room
of_changes-requires-clause-room c =
    subst (λ (made : List Change). HasRoomIfAny (changed_items made) c.args.room)
    (sym (changes_are c.args.file c.into_parts.result c.into_parts.ensures.file)) c.requires
