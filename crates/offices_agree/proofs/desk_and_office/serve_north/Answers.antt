use Rattle.cif_laws.proofs.Common.{rules, tests, Some, refl, sym, ◌∙◌, ap, subst}
use Rattle.docker_host.specs.Streams.{StreamsView}
use Rattle.offices_agree.specs.DeskAndOffice.{AreDone}
use Rattle.offices_agree.proofs.DeskSteps.{served_told}
use Rattle.offices_agree.proofs.desk_and_office.serve_north.Goals as goal

pub returns : goal.returns
returns c =
    let told = served_told _ _ _ _ _ c.serve-status.ensures c.host.view_is (search (rules, tests))
    (ap (λ (streams : StreamsView). streams.input) c.new-4.ensures ∙ ap Some (c.new-3.ensures.left ∙ c.as_bytes.ensures.value))
    (ap (λ (streams : StreamsView). streams.output) c.new-4.ensures ∙ ap Some c.in-Ok-Ok.ensures.empty)
    c.tell.ensures.texts (sym c.into_parts-answers.ensures.output)
    (subst AreDone c.bytes.ensures.bytes c.in_ok-all_done.ensures) c.an_input_has_one_reading.ensures in
    record { serves = told.0 _ refl; sound = told.1 ∙ c.requires.sound }
