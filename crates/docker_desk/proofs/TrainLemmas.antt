-- The known files determine the schedules that `train` shows, and the trains that `trains` lists.
use Rattle.cif_laws.proofs.Common.{◌≡◌, ◌≤◌, ℕ, List, Some, subst, rules, Option, option_map, IsDay, IsChosenOn, HaveSameFiles, Known, State, live_table}
use Rattle.cif_laws.proofs.Common.{HaveDistinctMoments, IsSummary, IsPlainTable, Table, IsTrainText, Stamped}
use Rattle.docker_model.specs.run.Run.{Files}
use Rattle.state_laws.proofs.states.OnePlainTable.{some_plain_table}
use Rattle.docker_train.specs.Origin.{CameFrom}
use Rattle.docker_model.specs.lists.TrainsText.{IsTrainsText}
use Rattle.docker_model.specs.lists.TrainText.{IsFoundFor}
use Rattle.docker_desk.specs.Learning.{IsKnown, IsTrainOf, ListsTrainsAs}

-- each schedule that is found in a summary came from one of the summary's files
abbrev pub FoundCameFrom : Type 0
FoundCameFrom =
    (files : Files) (horizon : ℕ) (state : State) (uid : List ℕ) (day : ℕ) (found : Stamped) → IsSummary files horizon state
    → IsFoundFor state uid day (Some found) → CameFrom files found

-- suppose that there is a plain table of the files, and that the day isn't before the horizon. If a
-- schedule is found in the files' summary, it is the schedule chosen from the plain table
abbrev pub FoundIsPlain : Type 0
FoundIsPlain =
    (files : Files) (horizon : ℕ) (state : State) (table : Table) (uid : List ℕ) (day : ℕ) (found : Option Stamped) → IsSummary files horizon state
    → IsPlainTable files table → IsDay horizon → horizon ≤ day → IsFoundFor state uid day found
    → IsChosenOn table uid day (option_map (λ (it : Stamped). it.schedule) found)

-- if a text shows the schedule that a state has for a UID on a day, this schedule came from a known
-- file. If there is a plain table of the known files, it is also the schedule chosen from this
-- table
pub train_known : FoundCameFrom → FoundIsPlain → (known : Known) (state : State) (uid : List ℕ) (day : ℕ) (text : List ℕ) → IsKnown known state
    → IsTrainText state uid day text → state.horizon ≤ day → IsTrainOf known uid day text
train_known came_from is_plain known state uid day text is train from = record {
  found = train.0;
  text_is = train.2;
  came = λ it same. came_from known.files known.horizon state uid day it is.is (subst (λ found. IsFoundFor state uid day found) same train.1);
  plain = search (rules, is.is.horizon_is);
}

-- two summaries of the same files have the same list of trains for each day that isn't before
-- either horizon
abbrev pub FilesFixLists : Type 0
FilesFixLists =
    (files others : Files) (horizon theirs : ℕ) (one two : State) → HaveSameFiles files others → IsDay horizon → IsDay theirs
    → IsSummary files horizon one → IsSummary others theirs two → (identity : List ℕ) (day : ℕ) → horizon ≤ day → theirs ≤ day → (text other : List ℕ)
    → IsTrainsText (live_table one) identity day text → IsTrainsText (live_table two) identity day other → text ≡ other

-- suppose that there is a plain table of the files, and that the day isn't before the horizon. The
-- list of trains of the files' summary is the list of the plain table
abbrev pub ListIsPlain : Type 0
ListIsPlain =
    (files : Files) (horizon : ℕ) (state : State) (table : Table) (identity : List ℕ) (day : ℕ) (text : List ℕ) → IsSummary files horizon state
    → IsPlainTable files table → IsDay horizon → horizon ≤ day → IsTrainsText (live_table state) identity day text → IsTrainsText table identity day text

-- two states that know the same files have the same list of trains for each day that isn't before
-- either state's horizon
pub one_list_known : FilesFixLists → (first second : Known) (one two : State) → IsKnown first one → IsKnown second two
    → HaveSameFiles first.files second.files → (identity : List ℕ) (day : ℕ) → one.horizon ≤ day → two.horizon ≤ day → (text other : List ℕ)
    → IsTrainsText (live_table one) identity day text → IsTrainsText (live_table two) identity day other → text ≡ other
one_list_known fixes first second one two left right same identity day from from_too =
    fixes first.files second.files first.horizon second.horizon one two same left.good.1 right.good.1 left.is right.is identity day
    (subst (λ h. h ≤ day) left.is.horizon_is from) (subst (λ h. h ≤ day) right.is.horizon_is from_too)

-- if no two known files have the same moment, the state's list of trains is the list of the plain
-- table
pub plain_list_known : ListIsPlain → (known : Known) (state : State) → IsKnown known state → HaveDistinctMoments known.files
    → (plain : Table) × IsPlainTable known.files plain × ListsTrainsAs state plain
plain_list_known is_plain known state is distinct =
    let plain = some_plain_table _ distinct in (
      plain.0,
      plain.1,
      λ identity day text from.
          is_plain known.files known.horizon state plain.0 identity day text is.is plain.1 is.good.1 (subst (λ h. h ≤ day) is.is.horizon_is from),
    )
