use Rattle.cif_laws.proofs.Common.{◌++◌, ◌∷◌, [], ◌∙◌, ap, State}
use Rattle.cif_change.specs.Meaning.{key_meant}
use Rattle.docker_join.specs.Meaning.{entry_meant}
use Rattle.docker_excerpt.proofs.GivenEntries.{valid_with, last_with}
use Rattle.docker_excerpt.proofs.ledger.Ledger.with.Goals as goal

pub returns-clause-valid : goal.returns-clause-valid
returns-clause-valid c =
    let it = c.self.inside in
    valid_with _ _ _ _ _ c.self.view_is c.self.invariant _ _ c.requires.here c.requires.op _
    (c.with.ensures ∙ ap (λ (told : State). told.entries ++ (key_meant c.args.key.now, entry_meant c.args.entry.now) ∷ []) c.self.view_is)

pub returns-clause-last : goal.returns-clause-last
returns-clause-last c = last_with _ _ _ _ c.with.ensures
