use Rattle.cif_laws.proofs.Common.{List, map, sym, subst}
use Rattle.cif_change.specs.declared.key.Key.{Key}
use Rattle.docker_join.specs.declared.entry.Entry.{Entry}
use Rattle.docker_join.proofs.MeantOrder.{ascending_meant}
use Rattle.state_index.specs.Rooms.{items_of}
use Rattle.docker_state.specs.Indexed.{HasRoomIfAny, IsIndexIfAny}
use Rattle.docker_state.proofs.IndexRooms.{room_of_changes}
use Rattle.cif_change.specs.Meaning.{change_meant}
use Rattle.docker_join.specs.Meaning.{row_meant}
use Rattle.docker_state.specs.Meaning.{item_meant}
use Rattle.docker_state.specs.MadeState.{IsMadeState}
use Rattle.docker_state.proofs.FileState.{made_records, made_stamped, one_item, made_state, rows_made_by}
use Rattle.docker_state.proofs.state.State.of_changes.Goals as goal

pub last_greatest-rows-requires-clause-records : goal.last_greatest-rows-requires-clause-records
last_greatest-rows-requires-clause-records c = made_records _ c.requires.«records» _ _ c.rows_made-made.ensures.made

pub of_rows-requires-clause-valid : goal.of_rows-requires-clause-valid
of_rows-requires-clause-valid c =
    c.requires.valid _
    (made_state (item_meant c.args.item) (map change_meant c.args.parts.changes.items) c.push_reserved.new.self.items
    c.rows_made-made.result.items c.last_greatest-rows.result.items
    (one_item c.args.item c.in-Ok.ledger.items c.push_reserved.new.self.items c.in-Ok.ensures.items c.push_reserved.ensures.items)
    (made_stamped c.args.item c.stamp.result c.stamp.ensures (map change_meant c.args.parts.changes.items) c.rows_made-made.result.items
    c.rows_made-made.ensures.made)
    c.last_greatest-rows.ensures.ascending c.last_greatest-rows.ensures.greatest)

pub returns-clause-ok : goal.returns-clause-ok
returns-clause-ok c =
    subst (IsMadeState (item_meant c.args.item) (map change_meant c.args.parts.changes.items)) (sym c.of_rows.ensures)
    (made_state (item_meant c.args.item) (map change_meant c.args.parts.changes.items) c.push_reserved.new.self.items
    c.rows_made-made.result.items c.last_greatest-rows.result.items
    (one_item c.args.item c.in-Ok.ledger.items c.push_reserved.new.self.items c.in-Ok.ensures.items c.push_reserved.ensures.items)
    (made_stamped c.args.item c.stamp.result c.stamp.ensures (map change_meant c.args.parts.changes.items) c.rows_made-made.result.items
    c.rows_made-made.ensures.made)
    c.last_greatest-rows.ensures.ascending c.last_greatest-rows.ensures.greatest)

pub refill-requires : goal.refill-requires
refill-requires c = subst (λ (rows : List (Key × Entry)). HasRoomIfAny (items_of (map row_meant rows)) c.args.room) (sym c.as_slice.ensures.value)
    (room_of_changes _ _ (ascending_meant _ _ _ c.last_greatest-rows.ensures.ascending) (rows_made_by _ _ _
    _ c.rows_made-made.ensures.made c.last_greatest-rows.ensures.greatest) _ c.requires.room)

pub of_rows-requires-clause-index : goal.of_rows-requires-clause-index
of_rows-requires-clause-index c =
    subst (λ (rows : List (Key × Entry)). IsIndexIfAny (map row_meant rows) c.refill.new.index) c.as_slice.ensures.value c.refill.ensures.index

pub of_rows-requires-clause-room : goal.of_rows-requires-clause-room
of_rows-requires-clause-room c =
    subst (λ (rows : List (Key × Entry)). HasRoomIfAny (items_of (map row_meant rows)) c.refill.new.index) c.as_slice.ensures.value c.refill.ensures.room
