use Rattle.cif_laws.proofs.Common.{◌++◌, ◌∷◌, [], Some, List, ap, rules, subst, sym, tests, ◌∙◌, codes, IsValid}
use Rattle.docker_host.specs.History.{Event, placed}
use Rattle.docker_host.specs.Shelf.{ShelfView}
use Rattle.docker_host.specs.Streams.{StreamsView}
use Rattle.docker_desk.proofs.WitnessLemmas.{files_told, sent_text}
use Rattle.docker_desk.proofs.witness.files_of_none.Goals as goal

pub returns : goal.returns
returns c = files_told _ _ _ _ _ _ c.serve-status.ensures c.host.view_is (sent_text _ _ _ _ c.in_ok-text.ensures.empty
    c.in-Ok.ensures.whole c.new-office.ensures.empty c.bytes-bytes.ensures.bytes)
    (search (rules, tests)) (subst IsValid c.new-office.ensures.empty c.state-state.ensures.valid)
    (ap (λ (it : ShelfView). it.events) c.folder.view_is ∙ c.in_ok-put.ensures.placed
    ∙ ap (λ (events : List Event). events ++ placed (codes "S") (Some c.bytes-bytes.result.now) ∷ []) c.new-folder.ensures.events)
    (ap (λ (streams : StreamsView). streams.input) c.new-4.ensures ∙ ap Some c.new-2.ensures.left)
    (ap (λ (streams : StreamsView). streams.output) c.new-4.ensures ∙ ap Some c.in_ok-new.ensures.empty) c.tell.ensures.texts
    (search (rules, tests)) (sym c.into_parts-output.ensures.output)
