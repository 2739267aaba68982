use Rattle.docker_desk.proofs.GainLemmas.{may_place_version, places_version}
use Rattle.docker_desk.proofs.laws.saves_are_versions.Goals as goal

pub returns-clause-saved : goal.returns-clause-saved
returns-clause-saved c = λ setting first before after steps old earlier own gains answer begins holds are gained does.
    places_version earlier setting first before after steps old own gains answer begins holds are gained does

pub returns-clause-refused : goal.returns-clause-refused
returns-clause-refused c = λ setting first before after steps old earlier own gains fault begins holds are gained does.
    may_place_version earlier setting first before after steps old own gains fault begins holds are gained does
