use Rattle.cif_laws.proofs.Common.{map, ap, ◌∙◌, subst, State, IsValid}
use Rattle.docker_join.specs.Meaning.{row_meant}
use Rattle.docker_state.proofs.UidRows.{live_of_uid}
use Rattle.docker_state.proofs.state.State.of_uid_near.Goals as goal

pub returns : goal.returns
returns c = live_of_uid _ (subst IsValid c.self.view_is c.self.invariant.valid) _ _ _
    (ap (map row_meant) c.as_slice.ensures.rows ∙ ap (λ (s : State). s.entries) c.self.view_is) c.rows_of_uid.ensures _ c.of.ensures
