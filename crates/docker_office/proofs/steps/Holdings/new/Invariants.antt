use Rattle.std.proofs.Common.{◌≡◌, ◌≤◌, [], length, All, vec_capacity}
use Rattle.docker_model.specs.state.Summary.{IsSummary}
use Rattle.docker_office.proofs.steps.Holdings.new.Given as goal

abbrev pub invariant-loop : goal.invariant-loop
invariant-loop l = record {
  many : length l.known.items ≡ l.counter;
  each : All (IsSummary [] 0) l.known.items;
  room : l.offices ≤ vec_capacity l.known;
}
