-- A terminus has one time, its arrival.
use Rattle.cif_laws.proofs.Common.{rules}
use Rattle.cif_change.proofs.JourneyLemmas.{terminus_time}
use Rattle.docker_excerpt.proofs.midnights.past_terminus.Goals as goal

pub returns-in-Ok : goal.returns-in-Ok
returns-in-Ok c = search (rules, terminus_time)
