use Rattle.cif_laws.proofs.Common.{sym, ap, ◌∙◌, subst, IsValid}
use Rattle.docker_state.specs.Parts.{under}
use Rattle.state_text.specs.PartsSoFar.{horizon_meant}
use Rattle.state_text.proofs.PartsSoFarLemmas.{under_none}
use Rattle.state_text.proofs.whole.WholeMaker.finish.Goals as goal

pub finish_unindexed_under-requires : goal.finish_unindexed_under-requires
finish_unindexed_under-requires c =
    subst IsValid (ap (λ h. under (horizon_meant h) c.args.self) c.in-Some.is ∙ ap (under c.in-Some.day) (sym c.self.view_is)) c.requires

pub returns-in-Some : goal.returns-in-Some
returns-in-Some c =
    c.finish_unindexed_under.ensures ∙ ap (under c.in-Some.day) c.self.view_is
    ∙ ap (λ h. under (horizon_meant h) c.args.self) (sym c.in-Some.is)

pub returns-in-None : goal.returns-in-None
returns-in-None c = c.finish_unindexed.ensures ∙ under_none _ c.self.invariant ∙ ap (under 0) c.self.view_is
    ∙ ap (λ h. under (horizon_meant h) c.args.self) (sym c.in-None.is)
