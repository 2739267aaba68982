use Rattle.cif_laws.proofs.Common.{ap, sym, ◌∙◌}
use Rattle.docker_desk.specs.Copying.{MatchView}
use Rattle.docker_desk.proofs.MatchLemmas.{goes_on_as}
use Rattle.docker_desk.proofs.matching.MatchingSink.write.Goals as goal

pub returns-then-n-gt0-clause-moved : goal.returns-then-n-gt0-clause-moved
returns-then-n-gt0-clause-moved g c = goes_on_as _ _ _ _ _ _
    (sym c.is_some.ensures ∙ c.if-is_some.false) (ap (λ (it : MatchView). it.taken) c.self.view_is) c.matching_front-n.ensures.same
