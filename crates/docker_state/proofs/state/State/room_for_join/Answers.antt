use Rattle.cif_laws.proofs.Common.{List, ◌++◌, ◌∙◌, map, ap, subst, State}
use Rattle.docker_join.specs.Meaning.{row_meant}
use Rattle.state_index.specs.Rooms.{HasRoomFor, items_of}
use Rattle.docker_state.proofs.IndexRooms.{Keyed, room_of_join, room_of_turned_join}
use Rattle.docker_state.proofs.state.State.room_for_join.Goals as goal

pub returns-in_ok-for_join-in-Some-default : goal.returns-in_ok-for_join-in-Some-default
returns-in_ok-for_join-in-Some-default c = λ joined is.
    let own = ap (map row_meant) c.as_slice-rows.ensures.rows ∙ ap (λ (s : State). s.entries) c.self.view_is in
    let theirs = ap (map row_meant) c.as_slice-others.ensures.rows ∙ ap (λ (s : State). s.entries) c.other.view_is in
    room_of_join c.args.self.now c.args.other.now joined is c.in_ok-for_join-in-Some-default.field-0
    (subst (λ (tables : List Keyed × List Keyed). HasRoomFor (items_of tables.0 ++ items_of tables.1) c.in_ok-for_join-in-Some-default.field-0)
    (λ i. (own i, theirs i)) c.in_ok-for_join-in-Some-default.ensures)

pub returns-in_ok-for_join-in-None-Some : goal.returns-in_ok-for_join-in-None-Some
returns-in_ok-for_join-in-None-Some c = λ joined is.
    let own = ap (map row_meant) c.as_slice-rows.ensures.rows ∙ ap (λ (s : State). s.entries) c.self.view_is in
    let theirs = ap (map row_meant) c.as_slice-others.ensures.rows ∙ ap (λ (s : State). s.entries) c.other.view_is in
    room_of_turned_join c.args.self.now c.args.other.now joined is c.in_ok-for_join-in-None-Some.field-0
    (subst (λ (tables : List Keyed × List Keyed). HasRoomFor (items_of tables.0 ++ items_of tables.1) c.in_ok-for_join-in-None-Some.field-0)
    (λ i. (theirs i, own i)) c.in_ok-for_join-in-None-Some.ensures)
