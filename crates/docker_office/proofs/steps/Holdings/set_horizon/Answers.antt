use Rattle.std.proofs.Common.{◌≡◌, arith, refl, ◌∙◌, ap, get_or}
use Rattle.std.proofs.lemmas.List.{get_or_read_under}
use Rattle.docker_model.specs.state.State.{raise_horizon}
use Rattle.docker_office.specs.Office.{no_state}
use Rattle.docker_office.proofs.MetEvents.{horizon_without_office, horizon_met}
use Rattle.docker_office.proofs.steps.Holdings.set_horizon.Goals as goal

pub returns-then-office-len-clause-met : goal.returns-then-office-len-clause-met
returns-then-office-len-clause-met c = λ known holds. horizon_without_office known c.args.self.now holds c.args.office c.args.day (omega arith)

pub returns-clause-met : goal.returns-clause-met
returns-clause-met c =
    λ known holds.
    let own : c.index_mut.result.now ≡ get_or c.args.self.now.offices.items c.args.office no_state =
    get_or_read_under c.args.self.now.offices.items c.args.office c.len.result c.index_mut.result.now no_state c.index_mut.ensures.value (omega arith)
    (omega arith) in
    horizon_met known c.args.self.now holds c.args.office c.args.day c.set_horizon.new.self _ (omega arith) (omega arith)
    (record { offices = refl; messages = refl }) (c.set_horizon.ensures.raised ∙ ap (raise_horizon c.args.day) own)
