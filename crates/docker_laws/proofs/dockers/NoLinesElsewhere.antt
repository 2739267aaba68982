-- A schedule that doesn't call at a place has no docker line at the place.
use Rattle.cif_laws.proofs.Common.{◌≡◌, ℕ, List, [], sym, ◌∙◌, true, false, cond, Contains, Option, calls_at, ScheduleKey, Train}
use Rattle.docker_laws.specs.Gathering.{start_days, runs_by, event_lines, schedule_lines}
use Rattle.cif_laws.proofs.lists.Membership.{nil-Contains, Contains-flat_map}
use Rattle.docker_laws.proofs.dockers.Events.{event_calls}
use Rattle.docker_laws.proofs.dockers.ScheduleLines.{event_lines_back}
use Rattle.state_laws.proofs.indexes.CallsTest.{calls_test, no_member}

-- a schedule that doesn't call at the place has no docker line at the place
pub no_lines_elsewhere : (trains : List ℕ → ℕ → Option Train) (place : List ℕ) (day : ℕ) (key : ScheduleKey) (lines : List (List ℕ))
    → calls_at place lines ≡ false → schedule_lines trains place day key lines ≡ []
no_lines_elsewhere trains place day key lines elsewhere = no_member (schedule_lines trains place day key lines) (λ line among.
    let found = Contains-flat_map (λ start. cond (runs_by (trains key.uid start) key) (event_lines place day start key lines) []) (start_days day) line among in
    (elim (runs_by (trains key.uid found.0) key) as (λ b. Contains (cond b (event_lines place day found.0 key lines) []) line → ⊥) [
      | false ↦ λ inside. nil-Contains line inside
      | true ↦ λ inside. let made = event_lines_back place day found.0 key lines line inside in
          true_false (sym ((calls_test place lines).1 (event_calls lines made.event place made.among made.here)) ∙ elsewhere)
    ]) found.2)
  where
    true_false : true ≡ false → ⊥
    true_false h = cc
