use Rattle.std.proofs.Common.{◌≡◌, ◌≤◌, take, length, vec_len, vec_capacity}
use Rattle.docker_office.specs.RunMeaning.{events_meant}
use Rattle.docker_office.proofs.RunSoFar.{HasRun}
use Rattle.docker_office.proofs.runs.run.Given as goal

abbrev pub invariant-loop-event : goal.invariant-loop-event
invariant-loop-event l = record {
  run : HasRun l.offices (events_meant (take l.event-index l.fn.events)) l.replies.items l.held;
  many : vec_len l.replies ≡ l.event-index;
  room : length l.fn.events ≤ vec_capacity l.replies;
  few : vec_len l.held.messages ≤ l.event-index;
  slots : length l.fn.events ≤ vec_capacity l.held.messages;
}
