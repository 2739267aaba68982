use Rattle.cif_laws.proofs.Common.{subst, option_map, IsFloor, file_stamp_cmp, on_total, ⊤}
use Rattle.cif_laws.proofs.orders.Orders.{file_stamp_total}
use Rattle.docker_join.specs.Meaning.{file_stamp_meant}
use Rattle.cif_laws.proofs.orders.Greater.{greater_max}
use Rattle.docker_state.proofs.Floors.{neither_full, left_full, right_full, both_full, greater_meant}
use Rattle.docker_state.proofs.floor.common_floor.Goals as goal

pub returns-in-None-None : goal.returns-in-None-None
returns-in-None-None c = λ left right one other. neither_full _ _ (subst (λ f. IsFloor left (option_map file_stamp_meant f)) c.in-None-None.is-0 one)
    (subst (λ f. IsFloor right (option_map file_stamp_meant f)) c.in-None-None.is-1 other)

pub returns-in-Some-None : goal.returns-in-Some-None
returns-in-Some-None c = λ left right one other. left_full _ _ _ (subst (λ f. IsFloor left (option_map file_stamp_meant f)) c.in-Some-None.is-0 one)
    (subst (λ f. IsFloor right (option_map file_stamp_meant f)) c.in-Some-None.is-1 other)

pub returns-in-None-Some : goal.returns-in-None-Some
returns-in-None-Some c = λ left right one other. right_full _ _ _ (subst (λ f. IsFloor left (option_map file_stamp_meant f)) c.in-None-Some.is-0 one)
    (subst (λ f. IsFloor right (option_map file_stamp_meant f)) c.in-None-Some.is-1 other)

pub returns-in-Some-Some : goal.returns-in-Some-Some
returns-in-Some-Some c = λ left right one other.
    both_full left right (file_stamp_meant c.in-Some-Some.one) (file_stamp_meant c.in-Some-Some.other) (file_stamp_meant c.pick.result)
    (subst (λ f. IsFloor left (option_map file_stamp_meant f)) c.in-Some-Some.is-0 one)
    (subst (λ f. IsFloor right (option_map file_stamp_meant f)) c.in-Some-Some.is-1 other)
    (greater_meant file_stamp_meant file_stamp_cmp c.in-Some-Some.one c.in-Some-Some.other c.pick.result
    (rw c.pick.ensures (greater_max (λ _. ⊤) (on_total file_stamp_meant file_stamp_total) c.in-Some-Some.one c.in-Some-Some.other)))
