use Rattle.cif_laws.proofs.Common.{ap, ◌∙◌, not}
use Rattle.docker_desk.specs.Copying.{MatchView}
use Rattle.docker_desk.proofs.MatchLemmas.{never_whole}
use Rattle.docker_desk.proofs.matching.Matching.is_whole.Goals as goal

pub returns-else-is_none-clause-whole : goal.returns-else-is_none-clause-whole
returns-else-is_none-clause-whole g c = never_whole _ _ _ _ _ _
    (c.is_none.ensures ∙ ap not c.if-is_none.false) (ap (λ (it : MatchView). it.text) c.self.view_is) (ap (λ (it : MatchView). it.taken) c.self.view_is)
    c.self.invariant.2 c.if-is_none.false
