use Rattle.cif_laws.proofs.Common.{◌≡◌, ℕ, List, [], ◌∷◌, ◌++◌, Some, ◌∙◌, ap, refl, rules}
use Rattle.docker_host.specs.History.{Event, placed}
use Rattle.docker_program.specs.ShelfRuns.{file_name, state_name}
use Rattle.docker_program.proofs.ShelfRunLemmas.{both_put, take_result}
use Rattle.docker_program.proofs.shelf_runs.take_on_a_shelf.Goals as goal

pub returns : goal.returns
returns c =
    let zero : ◌≡◌ {A = ℕ} c.perform.result 0 = search rules in
    let first : c.put.new.self.events ≡ placed state_name (Some c.args.state.now) ∷ [] =
    c.in-Ok.ensures.placed ∙ ap (λ (events : List Event). events ++ placed state_name (Some c.args.state.now) ∷ []) c.new-folder.ensures.events in
    let put : c.put-2.new.self.events ≡ both_put c.args.state.now c.args.extract.now =
    c.in-Ok-put.ensures.placed ∙ ap (λ (events : List Event). events ++ placed file_name (Some c.args.extract.now) ∷ []) first in
    take_result _ _ _ _ _ _ _ refl zero c.host.view_is put c.tell.ensures.texts c.perform.ensures.performs
