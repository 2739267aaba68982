use Rattle.cif_laws.proofs.Common.{◌≡◌, ℕ, List, [], ◌∷◌, ◌++◌, Some, ◌∙◌, ap, refl, rules, length, changes, lines_of}
use Rattle.docker_host.specs.History.{Event, placed}
use Rattle.docker_cmd.specs.CheckLine.{count_line}
use Rattle.docker_program.specs.ShelfRuns.{file_name}
use Rattle.docker_program.proofs.ShelfRunLemmas.{check_result}
use Rattle.docker_program.proofs.shelf_runs.check_on_a_shelf.Goals as goal

pub returns : goal.returns
returns c =
    let zero : ◌≡◌ {A = ℕ} c.perform.result 0 = search rules in
    let put : c.put.new.self.events ≡ placed file_name (Some c.args.extract.now) ∷ [] =
    c.in-Ok.ensures.placed ∙ ap (λ (events : List Event). events ++ placed file_name (Some c.args.extract.now) ∷ []) c.new-folder.ensures.events in
    let empty : ◌≡◌ {A = List ℕ} c.in-Ok-new.output.taken [] = c.in-Ok-new.ensures.empty in
    let text : c.bytes.result.now ≡ count_line (length (lines_of c.args.extract.now)) (length (changes (lines_of c.args.extract.now))) =
    check_result c.args.extract.now c.bytes.result.now _ _ _ c.perform.new.host c.perform.result refl zero c.host.view_is put
    (ap (λ (taken : List ℕ). Some taken) empty) c.tell.ensures.texts c.perform.ensures.performs (search rules) in
    search rules
