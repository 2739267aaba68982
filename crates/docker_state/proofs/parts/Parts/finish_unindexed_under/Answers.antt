use Rattle.cif_laws.proofs.Common.{ap, sym, subst, ◌∙◌, State, IsValid}
use Rattle.docker_state.specs.Meaning.{state_meant}
use Rattle.docker_state.specs.Parts.{under}
use Rattle.docker_state.proofs.parts.Parts.finish_unindexed_under.Goals as goal

pub of_rows-requires-clause-valid : goal.of_rows-requires-clause-valid
of_rows-requires-clause-valid c =
    subst (λ day. IsValid (state_meant day c.self.inside.ledger.items c.self.inside.entries.items)) (sym c.number.ensures.value)
    (subst (λ (parts : State). IsValid (under c.args.horizon parts)) (sym c.self.view_is) c.requires)

pub returns : goal.returns
returns c =
    c.of_rows.ensures ∙ ap (λ day. state_meant day c.self.inside.ledger.items c.self.inside.entries.items) c.number.ensures.value
    ∙ ap (under c.args.horizon) c.self.view_is
