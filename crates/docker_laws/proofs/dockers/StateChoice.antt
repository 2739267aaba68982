-- On each day that isn't before the horizon, the same schedules and associations are chosen from a
-- state before and after its entries lapse.
use Rattle.cif_laws.proofs.Common.{ℕ, ◌≤◌, List, subst, sym, ◌↔◌, IsDay, AssociationKey, ScheduleKey, State, live_table, lapse_state, Group, IsChosen}
use Rattle.cif_laws.proofs.Common.{IsChosenAssociation, TrainRuns}
use Rattle.state_laws.proofs.states.TableLapsed.{live_lapsed}
use Rattle.docker_laws.proofs.dockers.LapsedChoice.{chosen_iff, train_iff, association_iff}
use Rattle.docker_laws.proofs.dockers.PrintedDocker.{day_bound}

-- on a day that isn't before the horizon, the same schedule is chosen from a state before and after
-- its entries lapse
pub state_chosen_iff : (horizon : ℕ) (state : State) (uid : List ℕ) (day : ℕ) (key : ScheduleKey) (lines : List (List ℕ)) → IsDay horizon → horizon ≤ day
    → IsChosen (live_table state) uid day key lines ↔ IsChosen (live_table (lapse_state horizon state)) uid day key lines
state_chosen_iff horizon state uid day key lines is_day from =
    subst (λ table. IsChosen (live_table state) uid day key lines ↔ IsChosen table uid day key lines) (sym (live_lapsed horizon state))
    (chosen_iff horizon (day_bound horizon is_day) (live_table state) day from uid key lines)

-- on a day that isn't before the horizon, a state has the same train of each UID before and after
-- its entries lapse
pub state_train_iff : (horizon : ℕ) (state : State) (uid : List ℕ) (day : ℕ) (key : ScheduleKey) (lines : List (List ℕ)) → IsDay horizon → horizon ≤ day
    → TrainRuns (live_table state) uid day key lines ↔ TrainRuns (live_table (lapse_state horizon state)) uid day key lines
state_train_iff horizon state uid day key lines is_day from =
    subst (λ table. TrainRuns (live_table state) uid day key lines ↔ TrainRuns table uid day key lines) (sym (live_lapsed horizon state))
    (train_iff horizon (day_bound horizon is_day) (live_table state) day from uid key lines)

-- on a day that isn't before the horizon, the same association is chosen from a state before and
-- after its entries lapse
pub state_association_iff : (horizon : ℕ) (state : State) (group : Group) (day : ℕ) (key : AssociationKey) (line : List ℕ) → IsDay horizon → horizon ≤ day
    → IsChosenAssociation (live_table state) group day key line ↔ IsChosenAssociation (live_table (lapse_state horizon state)) group day key line
state_association_iff horizon state group day key line is_day from =
    subst (λ table. IsChosenAssociation (live_table state) group day key line ↔ IsChosenAssociation table group day key line) (sym (live_lapsed horizon state))
    (association_iff horizon (day_bound horizon is_day) (live_table state) day from group key line)
