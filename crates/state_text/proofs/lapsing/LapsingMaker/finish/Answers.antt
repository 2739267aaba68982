use Rattle.cif_laws.proofs.Common.{ap, sym, ◌∙◌, subst, IsValid, raise_horizon}
use Rattle.docker_state.specs.Parts.{under}
use Rattle.state_text.specs.PartsSoFar.{horizon_meant}
use Rattle.state_text.proofs.LapsingLemmas.{raised_parts, raised_valid}
use Rattle.state_text.proofs.lapsing.LapsingMaker.finish.Goals as goal

pub finish_unindexed_under-requires : goal.finish_unindexed_under-requires
finish_unindexed_under-requires g c =
    raised_valid _ _ (horizon_meant c.args.horizon) _ _ _ c.self.invariant c.later.ensures.later c.later.ensures.day
    (subst (λ state. IsValid (under (horizon_meant c.args.horizon) state)) (sym c.self.view_is) c.requires)

pub returns : goal.returns
returns g c =
    let horizon = horizon_meant c.args.horizon in
    c.finish_unindexed_under.ensures
    ∙ raised_parts _ _ horizon _ _ _ c.self.invariant c.later.ensures.later (subst (λ state. IsValid (under horizon state)) (sym c.self.view_is) c.requires)
    ∙ ap (λ state. raise_horizon g.D.HorizonDay.day (under horizon state)) c.self.view_is
