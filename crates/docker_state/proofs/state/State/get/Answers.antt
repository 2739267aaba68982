use Rattle.cif_laws.proofs.Common.{ap, ◌∙◌, option_map}
use Rattle.cif_change.specs.Meaning.{key_meant}
use Rattle.docker_join.specs.Meaning.{entry_meant}
use Rattle.docker_state.proofs.StateLemmas.{entry_of_rows}
use Rattle.docker_state.proofs.state.State.get.Goals as goal

pub returns-clause-entry : goal.returns-clause-entry
returns-clause-entry c =
    rw (← c.self.view_is)
    (ap (option_map entry_meant) c.get.ensures
    ∙ entry_of_rows c.self.inside.horizon c.self.inside.ledger.items c.self.inside.entries (key_meant c.args.key.now))
