use Rattle.cif_laws.proofs.Common.{map, ◌∙◌, append-nil, flat_map, item_bytes}
use Rattle.docker_state.specs.Meaning.{item_meant}
use Rattle.state_text.proofs.BufferLemmas.{each_given, each_fails, mapped_join, room_then_add, room_fails}
use Rattle.state_text.proofs.write.put_items.Goals as goal

pub returns-in_err-make_room : goal.returns-in_err-make_room
returns-in_err-make_room g c = each_fails (λ xs. flat_map item_bytes (map item_meant xs)) (mapped_join item_bytes item_meant) _ _ c.item-item.result
    (item_bytes (item_meant c.item-item.result)) c.loop-item-test.true c.item-item.is (append-nil _) _ _ _ _ _ _ _ _ _ _
    c.loop-item.invariant.given c.loop-item.invariant.no_failure c.from_residual.ensures.1 (room_fails _ _ _ _ c.in_err-make_room.ensures.gives)

pub loop-item-preserved : goal.loop-item-preserved
loop-item-preserved g c = record {
  given = each_given (λ xs. flat_map item_bytes (map item_meant xs)) (mapped_join item_bytes item_meant) _ _ _ _
      c.loop-item-test.true c.item-item.is (append-nil _) _ _ _ _ _ _
      c.loop-item.invariant.given (room_then_add _ _ _ _ _ _ c.in_ok-make_room.ensures.gives.0 c.add_item.ensures.items);
  no_failure = c.in_ok-make_room.ensures.gives.1 ∙ c.loop-item.invariant.no_failure;
}
