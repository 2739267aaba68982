-- An example of a run: what the offices know, and what the messages carry, after the run.
use Rattle.cif_laws.proofs.Common.{◌≡◌, ℕ, List, [], ◌∷◌, map, refl, Reply, done, RunEvent, take_file, send_state, deliver, reload, horizon_event, Known}
use Rattle.cif_laws.proofs.Common.{KnownSets, known_sets}
use Rattle.docker_model.specs.run.Run.{refused, no_office}

-- the events of the example. The text of one empty line is used instead of a file's text
abbrev events : List RunEvent
events =
    take_file 0 (10 ∷ []) 5 ∷ send_state 0 ∷ horizon_event 0 23542 ∷ send_state 0 ∷ deliver 1 0 ∷ deliver 1 1 ∷ reload 0 0 ∷ horizon_event 2 23542 ∷ []

abbrev replies : List Reply
replies = done ∷ done ∷ done ∷ done ∷ done ∷ done ∷ done ∷ refused no_office ∷ []

abbrev known : KnownSets
known = known_sets 2 events replies

abbrev horizons : List Known → List ℕ
horizons xs = map (λ (one : Known). one.horizon) xs

-- office 0 loses its horizon when it reloads a message that it sent before it set the horizon
offices_at_end : horizons known.offices ≡ 0 ∷ 23542 ∷ []
offices_at_end = refl

messages_at_end : horizons known.messages ≡ 0 ∷ 23542 ∷ []
messages_at_end = refl
