use Rattle.docker_desk.proofs.FixedLemmas.{plain_places}
use Rattle.docker_desk.proofs.laws.places_are_of_the_plain_table.Goals as goal

pub returns : goal.returns
returns c = plain_places
