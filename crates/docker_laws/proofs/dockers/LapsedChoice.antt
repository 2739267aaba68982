-- A horizon may make rows of a table lapse. On each day that isn't before the horizon, the same
-- schedules and associations are chosen from the table before and after its rows lapse. A schedule
-- or an association that runs on such a day doesn't lapse.
use Rattle.cif_laws.proofs.Common.{ℕ, ◌≤◌, List, rules, ◌↔◌, IsTrue, leb-true, end_number, no_end_number, AssociationKey, ScheduleKey, readable_end, Table}
use Rattle.cif_laws.proofs.Common.{lapse_table, IsRunning, IsChosen, TrainRuns, Group, IsAssociated, IsChosenAssociation}
use Rattle.docker_model.specs.docker.Choice.{runs_within}
use Rattle.cif_laws.proofs.lists.BoolsAndOptions.{both}
use Rattle.state_laws.proofs.states.TableLapsed.{live_stays, was_live}

-- a schedule or an association that runs on a day doesn't end before that day
within_end : (first last days : List ℕ) (day : ℕ) → IsTrue (runs_within first last days day) → day ≤ end_number last
within_end = search (rules, both, leb-true)

-- if a day isn't before the horizon, and an end date isn't before the day, the end date isn't
-- before the horizon
end_reached : (horizon day : ℕ) (last : List ℕ) → horizon ≤ no_end_number → horizon ≤ day → day ≤ end_number last → horizon ≤ readable_end last
end_reached = search rules

module _ (horizon : ℕ) (bound : horizon ≤ no_end_number) (live : Table) where
  module _ (day : ℕ) (from : horizon ≤ day) where
    -- ---- lapsing leaves the chosen schedules unchanged
    pub running_forth : (uid : List ℕ) (key : ScheduleKey) (lines : List (List ℕ)) → IsRunning live uid day key lines
        → IsRunning (lapse_table horizon live) uid day key lines
    running_forth uid key lines is = search (rules, live_stays, end_reached, within_end)

    pub running_back : (uid : List ℕ) (key : ScheduleKey) (lines : List (List ℕ)) → IsRunning (lapse_table horizon live) uid day key lines
        → IsRunning live uid day key lines
    running_back = search (rules, was_live)

    -- on a day that isn't before the horizon, the same schedule of a UID is chosen from the table
    -- before and after its rows lapse
    pub chosen_iff : (uid : List ℕ) (key : ScheduleKey) (lines : List (List ℕ)) → IsChosen live uid day key lines ↔ IsChosen
        (lapse_table horizon live) uid day key lines
    chosen_iff uid key lines = (
      λ is. record {
        running = running_forth _ _ _ is.running;
        first = λ other others runs. is.first other others (running_back _ _ _ runs);
      },
      λ is. record {
        running = running_back _ _ _ is.running;
        first = λ other others runs. is.first other others (running_forth _ _ _ runs);
      },
    )

    -- on a day that isn't before the horizon, the table has the same train of a UID before and
    -- after its rows lapse
    pub train_iff : (uid : List ℕ) (key : ScheduleKey) (lines : List (List ℕ)) → TrainRuns live uid day key lines ↔ TrainRuns
        (lapse_table horizon live) uid day key lines
    train_iff uid key lines = (
      λ is. record { chosen = (chosen_iff uid key lines).0 is.chosen; no_cancellation = is.no_cancellation },
      λ is. record { chosen = (chosen_iff uid key lines).1 is.chosen; no_cancellation = is.no_cancellation },
    )

    -- ---- lapsing leaves the chosen associations unchanged
    pub associated_forth : (group : Group) (key : AssociationKey) (line : List ℕ) → IsAssociated live group day key line
        → IsAssociated (lapse_table horizon live) group day key line
    associated_forth group key line is = search (rules, live_stays, end_reached, within_end)

    pub associated_back : (group : Group) (key : AssociationKey) (line : List ℕ) → IsAssociated (lapse_table horizon live) group day key line
        → IsAssociated live group day key line
    associated_back = search (rules, was_live)

    -- on a day that isn't before the horizon, the same association of a group is chosen from the
    -- table before and after its rows lapse
    pub association_iff : (group : Group) (key : AssociationKey) (line : List ℕ) → IsChosenAssociation live group day key line ↔ IsChosenAssociation
        (lapse_table horizon live) group day key line
    association_iff group key line = (
      λ is. record {
        associated = associated_forth _ _ _ is.associated;
        first = λ other others runs. is.first other others (associated_back _ _ _ runs);
      },
      λ is. record {
        associated = associated_back _ _ _ is.associated;
        first = λ other others runs. is.first other others (associated_forth _ _ _ runs);
      },
    )
