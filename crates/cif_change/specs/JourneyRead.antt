-- Defines what the reader of a schedule remembers of the lines that it has taken.
use Rattle.std.specs.Prelude.{◌≡◌, ◌↔◌, ℕ, Bool, option_map, true, false, List, [], Option, None, Some, ◌∷◌, ◌++◌, map}
use Rattle.docker_model.specs.file.File.{first_record, BeginsSchedule, IsSchedule}
use Rattle.docker_model.specs.records.Field.{is_deletion}
use Rattle.docker_model.specs.file.Journey.{times_of, times_along, midnights}
use Rattle.docker_model.specs.records.Record.{Kind}
use Rattle.docker_model.specs.file.FileFault as fault
use Rattle.cif_laws.specs.ScheduleFault.{IsScheduleFault}
use Rattle.cif_laws.specs.TimesSoFar.{last_of, later_or}
use Rattle.cif_laws.specs.ScheduleStage.{after_basic, after_details, in_journey, after_journey, stage_of, stage_after, may_lack}
use Rattle.cif_laws.specs.ScheduleStage as place
use Rattle.cif_line.specs.CallRead.{number_meant}
use Rattle.cif_change.specs.declared.cause.FileCause.{FileCause}
use Rattle.cif_change.specs.declared.journey_times.LineTimes.{LineTimes}
use Rattle.cif_change.specs.declared.progress.Progress.{Progress}
use Rattle.cif_change.specs.declared.stage.ScheduleStage.{ScheduleStage}
use Rattle.cif_change.specs.declared.stage.ScheduleStage.TheVariants.{AfterBasic, AfterDetails, InJourney, AfterJourney}
use Rattle.cif_change.specs.Cause.{cause_meant}

-- converts a stage from the code's type to the definitions' type
abbrev pub stage_meant : ScheduleStage → place.Stage
stage_meant AfterBasic = after_basic
stage_meant AfterDetails = after_details
stage_meant InJourney = in_journey
stage_meant AfterJourney = after_journey

-- What the reader remembers: the stage, how often the schedule has passed midnight, and the last
-- time, or 0 before the first time. The reader also remembers whether the schedule is a deletion,
-- and whether the schedule may end without a journey.
pub record JourneyState : Type 0 where
  pub stage : Option place.Stage
  pub deletion : Bool
  pub lacking : Bool
  pub falls : ℕ
  pub last : ℕ

-- Says that the reader has taken exactly these lines, and that what it remembers is right. It
-- remembers the stage, whether the schedule is a deletion, whether it may end without a journey,
-- the count of midnights, and the last time. In a deletion the count and the time don't matter.
pub record HasLines (journey : JourneyState) (lines : List (List ℕ)) : Type 0 where
  pub stage_is : journey.stage ≡ stage_of lines
  pub fresh : journey.stage ≡ None → lines ≡ []
  pub deletion_is : journey.deletion ≡ is_deletion (first_record lines)
  pub lacking_is : journey.lacking ≡ may_lack (first_record lines)
  pub falls_are : journey.deletion ≡ false → journey.falls ≡ midnights lines
  pub last_is : journey.deletion ≡ false → Some journey.last ≡ later_or (last_of (times_along lines)) (Some 0)

-- Says that no schedule begins with the earlier lines followed by this line, and that this is the
-- cause. `None` means that memory ran out, which is never the cause.
abbrev pub IsScheduleCause : List (List ℕ) → List ℕ → Option fault.FileCause → Type 0
IsScheduleCause earlier line None = ⊥
IsScheduleCause earlier line (Some cause) = IsScheduleFault earlier line cause

-- converts an optional time to a list with this time, or to the empty list
abbrev pub time_list : Option ℕ → List ℕ
time_list None = []
time_list (Some time) = time ∷ []

-- converts the times of a line, as the code keeps them, to a list of at most three times
abbrev pub times_list : LineTimes → List ℕ
times_list times =
    time_list (number_meant times.first) ++ time_list (number_meant times.second) ++ time_list (number_meant times.third)

-- Says that these are the scheduled times of this line, in order.
abbrev pub AreTimesOf : List ℕ → LineTimes → Type 0
AreTimesOf line times = map (λ time. time.1) (times_of line) ≡ times_list times

-- the stage after a line of this kind. The result is `None` if a line of this kind can't come next,
-- or if no line was taken yet
abbrev pub stage_then : Option place.Stage → Option Kind → Option place.Stage
stage_then None kind = None
stage_then (Some stage) kind = stage_after stage kind

-- whether a schedule may end at this stage. `lacking` says whether the schedule may end without a
-- journey. Before the first line a schedule can't end.
abbrev pub may_end_by : Option place.Stage → Bool → Bool
may_end_by (Some after_journey) lacking = true
may_end_by (Some in_journey) lacking = false
may_end_by (Some _) lacking = lacking
may_end_by None lacking = false

-- converts a `Progress` of the code to a `JourneyState`
abbrev pub progress_meant : Progress → JourneyState
progress_meant progress = record {
  stage = option_map stage_meant progress.stage;
  deletion = progress.deletion;
  lacking = progress.lacking;
  falls = progress.clock.falls;
  last = progress.clock.last;
}

-- whether the terminus has been read at this stage, so that the journey is complete
abbrev pub is_over_by : Option place.Stage → Bool
is_over_by (Some after_journey) = true
is_over_by _ = false

-- ---- what the reader does with a line

-- Says that the new progress is the old progress with one more line taken.
abbrev pub Advances : Progress → List ℕ → Progress → Type 0
Advances old line new =
    (lines : List (List ℕ)) → HasLines (progress_meant old) lines → HasLines (progress_meant new) (lines ++ line ∷ [])

-- Says that a proposition holds if and only if some schedule begins with the lines already taken
-- and then this line.
abbrev pub JudgesLine : JourneyState → List ℕ → Type 0 → Type 0
JudgesLine journey line holds = (lines : List (List ℕ)) → HasLines journey lines → holds ↔ BeginsSchedule (lines ++ line ∷ [])

-- Says that this is the cause for which the line is refused: no schedule begins with the lines
-- already taken and then this line.
abbrev pub FaultsLine : JourneyState → List ℕ → FileCause → Type 0
FaultsLine journey line cause = (lines : List (List ℕ)) → HasLines journey lines → IsScheduleCause lines line (cause_meant cause)

-- Says that a proposition holds if and only if the lines taken are a whole schedule.
abbrev pub JudgesWhole : JourneyState → Type 0 → Type 0
JudgesWhole journey holds = (lines : List (List ℕ)) → HasLines journey lines → holds ↔ IsSchedule lines
