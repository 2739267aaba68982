-- The train of a docker line starts on the docker's day or on one of the two days before it. A walk
-- over a whole table finds each docker line of a place.
use Rattle.cif_laws.proofs.Common.{ℕ, ◌+◌, ◌≤◌, List, schedule_key, association_key, schedule_body, association_body, Table, HasGoodBodies, Row, AreRowsOf}
use Rattle.cif_laws.proofs.Common.{DockerLine, IsAssociationLine, IsEventLine}
use Rattle.docker_laws.specs.Gathering.{IsWalk}
use Rattle.docker_laws.proofs.dockers.StartDays.{event_within}
use Rattle.docker_laws.proofs.dockers.FewMidnights.{bodies_few}

-- the train of an event line starts on the docker's day or on one of the two days before it
pub event_near : (live : Table) (place : List ℕ) (day : ℕ) (line : DockerLine) → HasGoodBodies live → (made : IsEventLine live place day line)
    → (made.start ≤ day) × (day ≤ made.start + 2)
event_near live place day line good made =
    event_within made.start made.schedule made.event day (bodies_few live good made.key made.schedule made.train_runs.chosen.running.is_live) made.today

-- the base train of an association line starts on the docker's day or on one of the two days before
-- it
pub association_near : (live : Table) (place : List ℕ) (day : ℕ) (line : DockerLine) → HasGoodBodies live → (made : IsAssociationLine live place day line)
    → (made.start ≤ day) × (day ≤ made.start + 2)
association_near live place day line good made =
    event_within made.start made.base made.event day (bodies_few live good made.base_key made.base made.base_runs.chosen.running.is_live) made.today

-- the rows of a whole table are enough to find all docker lines of any place: they satisfy `IsWalk`
pub whole_walk : (live : Table) (place : List ℕ) (rows : List Row) → AreRowsOf live rows → IsWalk live place rows
whole_walk live place rows are = record {
  ascending = are.ascending;
  each = λ key body among. (are.members key body).0 among;
  schedules = λ key lines is calls. (are.members (schedule_key key) (schedule_body lines)).1 is;
  associations = λ key line is here. (are.members (association_key key) (association_body line)).1 is;
}
