use Rattle.std.proofs.Common.{subst, OnOk}
use Rattle.cif_device.specs.Device.{Takes}
use Rattle.docker_model.specs.state.State.{State}
use Rattle.docker_model.specs.state.StateText.{dks_2, state_text}
use Rattle.docker_office.proofs.OfficeLemmas.{on_ok_with}
use Rattle.docker_office.proofs.office.Office.send.Goals as goal

pub returns-clause-whole : goal.returns-clause-whole
returns-clause-whole g c = subst (λ (state : State). OnOk c.map_err.result
    (Takes (g.K.Sink.taken c.args.sink.now) (state_text dks_2 state) (g.K.Sink.taken c.write_state.new.sink))) c.self.view_is
    (on_ok_with _ _ _ c.map_err.ensures.variant c.write_state.ensures.whole)
