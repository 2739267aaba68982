use Rattle.cif_laws.proofs.Common.{◌≡◌, List, [], ℕ, Some, refl, ap}
use Rattle.docker_host.specs.Host.{HostView}
use Rattle.offices_agree.proofs.DeskAndOfficeSteps.{both_agree, sinks_have}
use Rattle.offices_agree.proofs.desk_and_office.desk_and_office_agree.Goals as goal

pub returns : goal.returns
returns c =
    let empty : ◌≡◌ {A = List ℕ} c.in-Ok-Ok.output.taken [] = c.in-Ok-Ok.ensures.empty in
    sinks_have c.in_ok-folder-2.field-0.answers.taken c.host-2.inside.output.taken c.lose_and_print.new.host.output
    (ap (λ (host : HostView). host.output) c.host-2.view_is)
    (both_agree _ c.take_apart.new.host _ c.lose_and_print.new.host c.host.inside.folder c.in_ok-folder-2.field-0.folder c.in_ok-folder-2.field-0.answers.taken
    c.in_ok-folder.ensures.full c.in_ok-folder.ensures.update c.in_ok-take_apart.ensures.learn
    (ap (λ (host : HostView). host.history) c.host.view_is) c.in_ok-folder-2.ensures.serves refl (ap (λ (taken : List ℕ). Some taken) empty)
    (ap (λ (host : HostView). host.output) c.host.view_is) c.in_ok-lose_and_print.ensures)
