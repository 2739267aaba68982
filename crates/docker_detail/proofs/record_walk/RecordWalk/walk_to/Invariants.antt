use Rattle.cif_laws.proofs.Common.{◌≡◌, ℕ, ◌≤◌, length}
use Rattle.docker_detail.specs.Meaning.{CanWalk, place_ahead}
use Rattle.docker_detail.proofs.record_walk.RecordWalk.walk_to.Given as goal

-- the walk can still find the event with the number, and each later event
abbrev pub invariant-loop-line : goal.invariant-loop-line
invariant-loop-line l = record {
  ahead : (later : ℕ) → l.number ≤ later → place_ahead l.self later ≡ place_ahead l.initial.self later;
  can : CanWalk l.self;
}

abbrev pub decreases-loop-line : goal.decreases-loop-line
decreases-loop-line l = length l.self.rest.now
