-- An intermediate location has up to three times: its arrival, its pass and its departure.
use Rattle.cif_laws.proofs.Common.{rules}
use Rattle.cif_change.proofs.JourneyLemmas.{call_times}
use Rattle.docker_excerpt.proofs.MidnightLemmas.{three_times}
use Rattle.docker_excerpt.proofs.midnights.past_call.Goals as goal

pub returns-in-Ok : goal.returns-in-Ok
returns-in-Ok c = search (rules, three_times, call_times)
