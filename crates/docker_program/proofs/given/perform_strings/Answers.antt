use Rattle.cif_laws.proofs.Common.{List, ◌∙◌, ap, refl, subst}
use Rattle.docker_cmd.specs.Words.{Text, texts}
use Rattle.docker_program.specs.Program.{Performs}
use Rattle.docker_program.proofs.GivenLemmas.{more, performs_misused}
use Rattle.docker_program.proofs.given.perform_strings.Goals as goal

pub returns-in-None : goal.returns-in-None
returns-in-None g c = performs_misused _ _ _ _ _ _ _ (more _ (c.in-None.ensures.many refl)) c.host.view_is c.tell.ensures.status c.tell.ensures.line

-- `search` finds this too, but needs minutes and much memory for a body that performs twice
pub returns-in-Some : goal.returns-in-Some
returns-in-Some g c =
    subst (λ (words : List Text). Performs words g.D.Folder.names_bytes c.args.host.now c.perform.new.host c.perform.result)
    (ap texts c.as_slice.ensures.value ∙ c.in-Some.ensures.words) c.perform.ensures.performs
