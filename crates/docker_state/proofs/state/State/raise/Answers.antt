use Rattle.cif_laws.proofs.Common.{◌≡◌, ◌≤◌, List, map, ap, sym, ◌∙◌, subst, arith, State, IsValid, raise_horizon}
use Rattle.cif_change.specs.declared.key.Key.{Key}
use Rattle.docker_join.specs.declared.entry.Entry.{Entry}
use Rattle.docker_join.specs.Meaning.{row_meant}
use Rattle.state_index.specs.Rooms.{items_of}
use Rattle.docker_state.specs.Indexed.{HasRoomIfAny, IsIndexIfAny}
use Rattle.docker_state.proofs.IndexRooms.{room_of_lapsed}
use Rattle.state_laws.proofs.joins.RaisedHorizon.{not_greater}
use Rattle.docker_state.proofs.HorizonLemmas.{rows_raised, raised_valid, same_index, same_room}
use Rattle.docker_state.proofs.state.State.raise.Goals as goal

pub refill-requires : goal.refill-requires
refill-requires c = subst (λ (rows : List (Key × Entry)). HasRoomIfAny (items_of (map row_meant rows)) c.self.inside.index) (sym c.as_slice.ensures.rows)
    (room_of_lapsed _ _ _ c.lapse.ensures.lapsed (raised_valid _ _ (omega arith) _ _ _
    c.lapse.ensures.lapsed c.requires c.self.invariant.valid).entries.1 _ c.self.invariant.room)

pub invariant_of-self : goal.invariant_of-self
invariant_of-self c = record {
  valid = raised_valid _ _ (omega arith) _ _ _ c.lapse.ensures.lapsed c.requires c.self.invariant.valid;
  indexed = subst (λ (rows : List (Key × Entry)). IsIndexIfAny (map row_meant rows) c.refill.new.index) c.as_slice.ensures.rows c.refill.ensures.index;
  room = subst (λ (rows : List (Key × Entry)). HasRoomIfAny (items_of (map row_meant rows)) c.refill.new.index) c.as_slice.ensures.rows c.refill.ensures.room;
}

pub invariant_of-self-else-lapse : goal.invariant_of-self-else-lapse
invariant_of-self-else-lapse c = record {
  valid = raised_valid _ _ (omega arith) _ _ _ c.lapse.ensures.lapsed c.requires c.self.invariant.valid;
  indexed = same_index _ _ (c.lapse.ensures.same c.if-lapse.false) _ c.self.invariant.indexed;
  room = same_room _ _ (c.lapse.ensures.same c.if-lapse.false) _ c.self.invariant.room;
}

pub returns-then-lapse : goal.returns-then-lapse
returns-then-lapse c = rows_raised _ _ (omega arith) _ _ _ c.lapse.ensures.lapsed
    ∙ ap (raise_horizon c.args.horizon) c.self.view_is

pub returns-else-lapse : goal.returns-else-lapse
returns-else-lapse c = rows_raised _ _ (omega arith) _ _ _ c.lapse.ensures.lapsed
    ∙ ap (raise_horizon c.args.horizon) c.self.view_is

pub returns-else-self-horizon : goal.returns-else-self-horizon
returns-else-self-horizon c = sym (not_greater _ _ (subst IsValid c.self.view_is c.self.invariant.valid)
    (below (ap (λ (s : State). s.horizon) c.self.view_is)))
  where
    below : c.self.inside.horizon ≡ c.args.self.now.horizon → c.args.horizon ≤ c.args.self.now.horizon
    below same = let above = c.if-self-horizon.false in omega arith
