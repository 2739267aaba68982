-- The extract that a schedule came from, and the schedules of the trains on a docker's lines.
use Rattle.std.specs.Prelude.{◌≡◌, ◌≤◌, ℕ, List, Some, Contains}
use Rattle.docker_model.specs.file.Change.{Change, changes, schedule_key, schedule_body, put}
use Rattle.docker_model.specs.state.Stamp.{Stamp, file_stamp_of}
use Rattle.docker_model.specs.state.State.{State}
use Rattle.docker_model.specs.docker.Choice.{IsCancellation, Train}
use Rattle.docker_model.specs.lists.TrainText.{Stamped, IsFoundFor}

-- the change that this schedule comes from. The stamp has the record number of the change
abbrev pub change_of : Stamped → Change
change_of found = record {
  number = found.stamp.number;
  key = schedule_key found.schedule.key;
  act = put (schedule_body found.schedule.lines);
}

-- says that the schedule came from one of these files. This file has the stamp's date, time and
-- reference, and the schedule comes from one of the file's changes
pub record CameFrom (files : List (List (List ℕ))) (found : Stamped) : Type 0 where
  pub file : List (List ℕ)
  pub among : Contains files file
  pub stamped : file_stamp_of file ≡ found.stamp.file
  pub changed : Contains (changes file) (change_of found)

-- says that the schedule is found for the UID on the day, that it isn't a cancellation, and that
-- the day isn't before the horizon
pub record IsFoundToRun (state : State) (uid : List ℕ) (day : ℕ) (schedule : Train) : Type 0 where
  pub answered : state.horizon ≤ day
  pub stamp : Stamp
  pub found : IsFoundFor state uid day (Some (record { schedule = schedule; stamp = stamp }))
  pub runs : ¬ IsCancellation schedule.key.indicator
