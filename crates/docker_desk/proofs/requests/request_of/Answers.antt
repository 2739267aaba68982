use Rattle.cif_laws.proofs.Common.{rules}
use Rattle.docker_desk.proofs.requests.request_of.Goals as goal

pub returns-in_err-place-in-Docker : goal.returns-in_err-place-in-Docker
returns-in_err-place-in-Docker c = rw c.in-Docker.is (rw c.from_residual.ensures
    (λ request makes. c.in_err-place-in-Docker.ensures.none (search rules) makes.0 makes.1.0 makes.1.1.0))

pub returns-in_err-uid-in-Train : goal.returns-in_err-uid-in-Train
returns-in_err-uid-in-Train c = rw c.in-Train.is (rw c.from_residual-in_err-uid-in-Train.ensures
    (λ request makes. c.in_err-uid-in-Train.ensures.none (search rules) makes.0 makes.1.0 makes.1.1.0))

pub returns-in_err-identity-in-Trains : goal.returns-in_err-identity-in-Trains
returns-in_err-identity-in-Trains c = rw c.in-Trains.is (rw c.from_residual-in_err-identity-in-Trains.ensures
    (λ request makes. c.in_err-identity-in-Trains.ensures.none (search rules) makes.0 makes.1.0 makes.1.1.0))

pub returns-in_err-day-in-Horizon : goal.returns-in_err-day-in-Horizon
returns-in_err-day-in-Horizon c = rw c.in-Horizon.is (rw c.from_residual-in_err-day-in-Horizon.ensures
    (λ request makes. c.in_err-day-in-Horizon.ensures.none (search rules) makes.0 makes.1.0))
