use Rattle.std.proofs.Common.{sym, subst}
use Rattle.docker_bytes.specs.ParserRead.{HasRead}
use Rattle.docker_bytes.proofs.state_parser.StateParser.feed.Goals as goal

pub returns-clause-done : goal.returns-clause-done
returns-clause-done c = λ format limit text has whole.
    c.feed.ensures.done format limit text (subst (λ p. HasRead p format limit text) (sym c.self.view_is) has) whole
