use Rattle.cif_laws.proofs.Common.{◌++◌, subst, sym, IsFloor, State, IsJoin}
use Rattle.docker_join.specs.Meaning.{floor_meant}
use Rattle.docker_state.proofs.state.State.join_rows.Goals as goal

pub join_opened-joined-requires-clause-floor : goal.join_opened-joined-requires-clause-floor
join_opened-joined-requires-clause-floor c =
    subst (λ (s : State). IsFloor (s.ledger ++ c.args.other.ledger) (floor_meant c.floor_with-floor.result)) (sym c.in-Ok-opened.ensures.parts)
    c.floor_with-floor.ensures

pub refilled-requires : goal.refilled-requires
refilled-requires c =
    c.in-Ok.ensures c.join_opened-joined.result
    (subst (λ (s : State). IsJoin s c.args.other c.join_opened-joined.result) c.in-Ok-opened.ensures.parts c.join_opened-joined.ensures)

pub returns-clause-ok : goal.returns-clause-ok
returns-clause-ok c =
    subst (IsJoin c.args.self c.args.other) (sym c.refilled.ensures)
    (subst (λ (s : State). IsJoin s c.args.other c.join_opened-joined.result) c.in-Ok-opened.ensures.parts c.join_opened-joined.ensures)
