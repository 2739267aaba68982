-- The choice of a schedule for a UID, and of an association for a group, by a walk over rows: the
-- best schedule or association after each row.
use Rattle.std.specs.Prelude.{ℕ, List, Option}
use Rattle.std.specs.Ordering.{on}
use Rattle.docker_model.specs.file.Change.{Key, association_key, schedule_key, Body, association_body, schedule_body}
use Rattle.docker_model.specs.state.Row.{Row}
use Rattle.docker_model.specs.docker.Choice.{schedule_choice_cmp, association_choice_cmp, Group, Train}
use Rattle.docker_laws.specs.LiveRows.{Link, schedules_in, associations_in, is_running, is_linked}
use Rattle.docker_laws.specs.Best.{IsBest, with_one_more}

-- `found` is the schedule that is chosen from these rows for the UID on the day. Of the UID's
-- schedules that run on the day, it comes first in the order of choice. If no schedule of the UID
-- runs on the day, `found` is `None`
abbrev pub IsChosenSoFar : List ℕ → ℕ → List Row → Option Train → Type 0
IsChosenSoFar uid day rows found = IsBest (on (λ (train : Train). train.key) schedule_choice_cmp) (is_running uid day) (schedules_in rows) found

-- the schedule that is chosen after the walk passes one more row
abbrev pub next_chosen : List ℕ → ℕ → Option Train → Key → Body → Option Train
next_chosen uid day found (schedule_key key) (schedule_body lines) =
    with_one_more (on (λ (train : Train). train.key) schedule_choice_cmp) (is_running uid day) found (record { key = key; lines = lines })
next_chosen uid day found _ _ = found

-- `found` is the association that is chosen from these rows for the group and the base train's
-- start day. Of the group's associations that apply on this day, it comes first in the order of
-- choice. If none applies, `found` is `None`
abbrev pub IsLinkSoFar : Group → ℕ → List Row → Option Link → Type 0
IsLinkSoFar group day rows found = IsBest (on (λ (link : Link). link.key) association_choice_cmp) (is_linked group day) (associations_in rows) found

-- the association that is chosen after the walk passes one more row
abbrev pub next_link : Group → ℕ → Option Link → Key → Body → Option Link
next_link group day found (association_key key) (association_body line) =
    with_one_more (on (λ (link : Link). link.key) association_choice_cmp) (is_linked group day) found (record { key = key; line = line })
next_link group day found _ _ = found
