use Rattle.std.proofs.Common.{sym, subst}
use Rattle.std.proofs.lemmas.Result.{IfOk-weaker}
use Rattle.docker_bytes.specs.ParserRead.{HasRead}
use Rattle.docker_bytes.proofs.ReadLemmas.{made_itself}
use Rattle.docker_bytes.proofs.state_parser.StateParser.finish.Goals as goal

pub returns-clause-ok : goal.returns-clause-ok
returns-clause-ok c = λ format limit text has. IfOk-weaker c.finish.result _ _ (λ made of. made_itself _ _ _ _ of)
    (c.finish.ensures.ok format limit text (subst (λ p. HasRead p format limit text) (sym c.self.view_is) has))
