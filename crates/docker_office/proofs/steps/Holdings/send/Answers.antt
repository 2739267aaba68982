use Rattle.std.proofs.Common.{◌≡◌, arith, refl, ◌∙◌, ap, get_or}
use Rattle.std.proofs.lemmas.List.{get_or_read_under}
use Rattle.docker_model.specs.state.StateText.{dks_2, state_text}
use Rattle.docker_office.specs.Office.{no_state}
use Rattle.docker_office.proofs.MetEvents.{send_without_office, send_met, send_without_memory}
use Rattle.docker_office.proofs.steps.Holdings.send.Goals as goal

pub returns-then-office-len-clause-met : goal.returns-then-office-len-clause-met
returns-then-office-len-clause-met c = λ known holds. send_without_office known c.args.self.now holds c.args.office (omega arith)

pub returns-in-Ok-clause-met : goal.returns-in-Ok-clause-met
returns-in-Ok-clause-met c =
    λ known holds.
    let own : c.index.result.now ≡ get_or c.args.self.now.offices.items c.args.office no_state =
    get_or_read_under c.args.self.now.offices.items c.args.office c.len.result c.index.result.now no_state c.index.ensures (omega arith) (omega arith) in
    send_met known c.args.self.now holds c.args.office c.in-Ok.message _ (omega arith) refl c.push_reserved.ensures.items
    (c.in-Ok.ensures ∙ ap (state_text dks_2) own)

pub returns-in-Err-clause-met : goal.returns-in-Err-clause-met
returns-in-Err-clause-met c = λ known holds. send_without_memory known c.args.self.now holds c.args.office (omega arith)
