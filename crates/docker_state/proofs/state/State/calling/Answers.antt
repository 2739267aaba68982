use Rattle.cif_laws.proofs.Common.{◌∙◌, false, map, ap, sym, subst, State, IsValid, live_table}
use Rattle.state_laws.specs.Index.{AreCalling}
use Rattle.docker_join.specs.Meaning.{row_meant}
use Rattle.docker_state.specs.PlaceRows.{rows_here}
use Rattle.docker_state.proofs.SiftedRows.{calling_sifted}
use Rattle.docker_state.proofs.state.State.calling.Goals as goal

pub returns-in-Some : goal.returns-in-Some
returns-in-Some c =
    subst (AreCalling (live_table c.args.self.now) c.args.tiploc.now) (sym c.of.ensures)
    (c.calling.ensures c.args.self.now
    (ap (λ (s : State). s.entries) (sym c.self.view_is) ∙ ap (map row_meant) (sym c.as_slice-rows.ensures.rows)))

pub returns-in-None : goal.returns-in-None
returns-in-None c = subst (AreCalling (live_table c.args.self.now) c.args.tiploc.now) (sym (c.of-in-None-2.ensures ∙ c.of-in-None.ensures
    ∙ ap (rows_here false c.args.tiploc.now) (ap (map row_meant) c.as_slice-rows.ensures.rows ∙ ap (λ (s : State). s.entries) c.self.view_is)))
    (calling_sifted _ (subst IsValid c.self.view_is c.self.invariant.valid) _)
