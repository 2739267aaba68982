-- An origin has one time, its departure.
use Rattle.cif_laws.proofs.Common.{rules}
use Rattle.cif_change.proofs.JourneyLemmas.{origin_time}
use Rattle.docker_excerpt.proofs.midnights.past_origin.Goals as goal

pub returns-in-Ok : goal.returns-in-Ok
returns-in-Ok c = search (rules, origin_time)
