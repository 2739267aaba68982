-- Lemmas on what the reader of a schedule remembers of the lines it has taken, and why it accepts or refuses the next line.
use Rattle.cif_laws.proofs.Common.{◌≡◌, ℕ, ◌+◌, ◌≤◌, ◌<◌, Bool, true, false, cond, List, [], ◌∷◌, ◌++◌, map, rules, subst, refl, ap, sym, ◌∙◌, Some, None}
use Rattle.cif_laws.proofs.Common.{arith, append-nil, append_assoc, Option, IsTrue, ◌↔◌, ◌||◌, ◌&&◌, nat_le, is_some, is_none, IsOk, OnOk, IfErr, Result}
use Rattle.cif_laws.proofs.Common.{le-leb, le-ltb, leb-true, Kind, kind_of, IsRecord, HasKind, basic_schedule, origin_location, intermediate_location}
use Rattle.cif_laws.proofs.Common.{terminating_location, columns, half_minutes, scheduled_time, first_record, IsSchedule, BeginsSchedule, is_deletion}
use Rattle.cif_laws.proofs.Common.{HasGoodFields, leftmost_bad_field, bad_kind, bad_place, Occasion, arrival, departure, timed, times_of, times_by_kind}
use Rattle.cif_laws.proofs.Common.{times_along, midnights}
use Rattle.docker_model.specs.file.FileFault as fault
use Rattle.cif_laws.specs.RecordCause.{field_cause, schedule_cause, first_line_cause}
use Rattle.cif_laws.specs.ScheduleFault.{IsScheduleFault}
use Rattle.cif_laws.proofs.records.Columns.{good_fields}
use Rattle.cif_laws.proofs.records.ScheduledTimes.{time_there}
use Rattle.cif_laws.specs.RecordTest.{is_record, has_good_fields}
use Rattle.cif_laws.proofs.lists.BoolsAndOptions.{test_by_none, some_by_test}
use Rattle.cif_laws.proofs.records.RecordTests.{record_iff_test, midnights_step, last_time_step, no_times, no_times_before}
use Rattle.cif_laws.specs.TimesSoFar.{last_of, falls_after, later_or}
use Rattle.cif_laws.specs.ScheduleStage.{Stage, after_basic, stage_after}
use Rattle.cif_laws.specs.ScheduleStage.{is_basic_kind, stage_of, may_lack, may_end, is_first_line, is_sound_next, next_stage}
use Rattle.cif_laws.proofs.schedules.ScheduleStages.{no_stage_of_none, stage_of_more, first_line_iff_test}
use Rattle.cif_laws.proofs.schedules.ScheduleStages.{schedule_iff_stage, begins_iff_stage, sound_next_by_count}
use Rattle.cif_laws.proofs.schedules.ScheduleCauses.{first_line_fault, schedule_fault}
use Rattle.cif_change.specs.declared.cause.FileCause.{FileCause}
use Rattle.cif_change.specs.Cause.{cause_meant}
use Rattle.cif_change.specs.JourneyRead.{JourneyState, stage_then, HasLines, IsScheduleCause, may_end_by, time_list, FaultsLine}

abbrev Lines : Type 0
Lines = List (List ℕ)

abbrev no_stage : Option Stage
no_stage = None

-- ---- the end of a schedule

-- whether the schedule may end is determined by the stage and by `lacking`, which the reader
-- remembers
may_end_iff : (stage : Option Stage) (lines : Lines) (lacking : Bool) → lacking ≡ may_lack (first_record lines)
    → IsTrue (may_end_by stage lacking) ↔ ((last : Stage) × (stage ≡ Some last) × (may_end last lines ≡ true))
may_end_iff = search rules

-- the test `may_end_by` passes for the stage and for `lacking`, as the reader remembers them, if
-- and only if the lines taken are a whole schedule
pub complete_by : (journey : JourneyState) (lines : Lines) (result : Bool) → result ≡ may_end_by journey.stage journey.lacking → HasLines journey lines
    → IsTrue result ↔ IsSchedule lines
complete_by journey lines result told has =
    let ends = may_end_iff journey.stage lines journey.lacking has.lacking_is in
    let whole = schedule_iff_stage lines in (
      λ test. let at = ends.0 (sym told ∙ test) in whole.1 (at.0, record { found = sym has.stage_is ∙ at.1; may = at.2 }),
      λ is. let at = whole.0 is in told ∙ ends.1 (at.0, has.stage_is ∙ at.1.found, at.1.may),
    )

-- ---- the next line

-- the stage after the next line, or `None` if the line is refused. The first line must be a basic
-- schedule
abbrev pub next_by : Option Stage → Lines → List ℕ → Option Stage
next_by None lines line = cond (is_first_line line) (Some after_basic) None
next_by (Some stage) lines line = next_stage stage lines line

-- the cause for which a line is refused if there is no stage after the line
abbrev pub cause_by : Option Stage → List ℕ → fault.FileCause
cause_by None line = first_line_cause line
cause_by (Some stage) line = schedule_cause stage line

-- lines that end with this line begin a schedule if and only if they lead the reader to a stage
begins_iff : (lines : Lines) (line : List ℕ) → BeginsSchedule (lines ++ line ∷ []) ↔ (is_some (stage_of (lines ++ line ∷ [])) ≡ true)
begins_iff [] line = search (rules, begins_iff_stage line [], some_by_test)
begins_iff (basic ∷ rest) line = search (rules, begins_iff_stage basic (rest ++ line ∷ []), some_by_test)

next_is_stage : (journey : JourneyState) (lines : Lines) (line : List ℕ) → HasLines journey lines
    → next_by journey.stage lines line ≡ stage_of (lines ++ line ∷ [])
next_is_stage journey lines line has =
    (elim journey.stage as (λ stage. journey.stage ≡ stage → next_by stage lines line ≡ stage_of (lines ++ line ∷ [])) [
      | None ↦ λ h. subst (λ l. next_by None l line ≡ stage_of (l ++ line ∷ [])) (sym (has.fresh h)) refl
      | Some stage ↦ λ h. sym (stage_of_more lines stage line (sym has.stage_is ∙ h))
    ]) refl

not_first : (b : Bool) → cond b (Some after_basic) None ≡ no_stage → b ≡ false
not_first = search rules

fault_by : (journey : JourneyState) (lines : Lines) (line : List ℕ) → HasLines journey lines → IsRecord line → next_by journey.stage lines line ≡ None
    → IsScheduleFault lines line (cause_by journey.stage line)
fault_by journey lines line has is = (elim journey.stage as (λ stage. journey.stage ≡ stage → next_by stage lines line ≡ None
    → IsScheduleFault lines line (cause_by stage line)) [
      | None ↦ λ h told. subst (λ l. IsScheduleFault l line (first_line_cause line)) (sym (has.fresh h)) (first_line_fault line is (not_first _ told))
      | Some stage ↦ λ h told. schedule_fault lines stage line (sym has.stage_is ∙ h) is told
    ]) refl

-- if there is no stage after a line, the line is refused for the cause that `cause_by` gives
pub refused_by : (journey : JourneyState) (lines : Lines) (line : List ℕ) (cause : fault.FileCause) → HasLines journey lines → IsRecord line
    → next_by journey.stage lines line ≡ None → cause_by journey.stage line ≡ cause → IsScheduleFault lines line cause
refused_by journey lines line cause has is nowhere same = subst (IsScheduleFault lines line) same (fault_by journey lines line has is nowhere)

-- suppose a result is `Ok` if and only if there is a stage after the line. Then the result is `Ok` if and only if some schedule begins with the lines taken
-- followed by this line
pub judged_ok : {A : Type 0} (answer : Result A FileCause) (journey : JourneyState) (lines : Lines) (line : List ℕ) → HasLines journey lines → IsRecord line
    → IsOk answer ↔ (is_some (next_by journey.stage lines line) ≡ true) → IsOk answer ↔ BeginsSchedule (lines ++ line ∷ [])
judged_ok answer journey lines line has is iff =
    let same = ap (λ (next : Option Stage). is_some next) (next_is_stage journey lines line has) in
    let begins = begins_iff lines line in
    (λ ok. begins.1 (sym same ∙ iff.0 ok), λ told. iff.1 (same ∙ begins.0 told))

-- suppose that a result is `Ok` if and only if there is a stage after the line, and that its error
-- is otherwise the cause that `cause_by` gives. Then this error is the cause for which the line is
-- refused after the lines that were taken
pub judged_err : {A : Type 0} (answer : Result A FileCause) (journey : JourneyState) (lines : Lines) (line : List ℕ) (told : fault.FileCause)
    → HasLines journey lines → IsRecord line
    → IsOk answer ↔ (is_some (next_by journey.stage lines line) ≡ true) → told ≡ cause_by journey.stage line
    → IfErr answer (λ cause. cause_meant cause ≡ Some told)
    → IfErr answer (λ cause. IsScheduleCause lines line (cause_meant cause))
judged_err = search (rules, fault_by)

some_if : (b : Bool) (stage : Stage) → is_some (cond b (Some stage) None) ≡ b
some_if = search rules

-- if no line has been taken yet, a line leads to a stage if and only if the line is a basic
-- schedule with good fields
pub first_test : (journey : JourneyState) (lines : Lines) (line : List ℕ) → journey.stage ≡ None
    → is_some (next_by journey.stage lines line) ≡ is_first_line line
first_test journey lines line at = (λ i. is_some (next_by (at i) lines line)) ∙ some_if (is_first_line line) after_basic

-- Says that the reader is at a stage, that a line of this kind may come next, and that `next` is the stage after the line.
pub record LeadsOn (stage : Option Stage) (kind : Option Kind) (next : Stage) : Type 0 where
  pub here : Stage
  pub at : stage ≡ Some here
  pub after : stage_after here kind ≡ Some next

-- if there is a stage after a line of this kind, the reader was at a stage before the line
pub leads_on : (stage : Option Stage) (kind : Option Kind) (next : Stage) → stage_then stage kind ≡ Some next → LeadsOn stage kind next
leads_on = search rules

-- if a line's kind may come next, there is a stage after the line if and only if its fields and times are sound
pub next_test : (journey : JourneyState) (lines : Lines) (line : List ℕ) (next : Stage) → IsRecord line → stage_then journey.stage (kind_of line) ≡ Some next
    → is_some (next_by journey.stage lines line) ≡ is_sound_next lines line
next_test journey lines line next is led =
    let on = leads_on journey.stage (kind_of line) next led in
    (λ i. is_some (next_by (on.at i) lines line))
    ∙ (λ i. is_some (cond ((record_iff_test line).0 is i && is_sound_next lines line) (on.after i) None))
    ∙ some_if (is_sound_next lines line) next

-- a line of a kind that may come next is refused either for its leftmost bad field or for a third midnight
pub next_cause : (journey : JourneyState) (line : List ℕ) (next : Stage) → stage_then journey.stage (kind_of line) ≡ Some next
    → field_cause line ≡ cause_by journey.stage line
next_cause = search (rules, leads_on, no_stage_of_none)

-- if a proposition holds if and only if one test passes, it holds if and only if an equal test passes
pub iff_along : (P : Type 0) (a b : Bool) → a ≡ b → P ↔ (b ≡ true) → P ↔ (a ≡ true)
iff_along P a b same iff = (λ p. same ∙ iff.0 p, λ test. iff.1 (sym same ∙ test))

none_if : (b : Bool) (stage : Option Stage) → stage ≡ None → cond b stage None ≡ None
none_if = search rules

no_basic : (b c : Bool) → cond (b && false && c) (Some after_basic) None ≡ no_stage
no_basic = search rules

-- a line that doesn't begin with the identity of a kind of record is refused with the cause `Kind`, whichever lines precede it
pub unknown_kind : (journey : JourneyState) (lines : Lines) (line : List ℕ) → HasLines journey lines → IsRecord line → kind_of line ≡ None
    → IsScheduleFault lines line fault.bad_kind
unknown_kind journey lines line has is none = refused_by journey lines line fault.bad_kind has is (nowhere journey.stage) (cause journey.stage)
  where
    nowhere : (stage : Option Stage) → next_by stage lines line ≡ None
    nowhere None = (λ i. cond (is_record line && is_basic_kind (none i) && has_good_fields line) (Some after_basic) None)
        ∙ no_basic (is_record line) (has_good_fields line)
    nowhere (Some stage) = none_if (is_record line && is_sound_next lines line) _ (ap (stage_after stage) none ∙ no_stage_of_none stage)

    cause : (stage : Option Stage) → cause_by stage line ≡ fault.bad_kind
    cause None = λ i. cond (is_none (none i)) bad_kind (cond (is_basic_kind (kind_of line)) (field_cause line) bad_place)
    cause (Some stage) = λ i. cond (is_none (none i)) bad_kind (cond (is_none (stage_after stage (kind_of line))) bad_place (field_cause line))

-- if a record of this kind can't come next, the line is refused with the cause `Place`
pub out_of_place : (journey : JourneyState) (lines : Lines) (line : List ℕ) (stage : Stage) (kind : Kind) → HasLines journey lines → IsRecord line
    → journey.stage ≡ Some stage → kind_of line ≡ Some kind
    → stage_after stage (Some kind) ≡ None → IsScheduleFault lines line fault.bad_place
out_of_place journey lines line stage kind has is at known none = refused_by _ _ _ _ has is
    ((λ i. next_by (at i) lines line) ∙ none_if (is_record line && is_sound_next lines line) _ (ap (stage_after stage) known ∙ none))
    ((λ i. cause_by (at i) line) ∙ (λ i. cond (is_none (known i)) bad_kind (cond (is_none (stage_after stage (known i))) bad_place (field_cause line))) ∙
    (λ i. cond (is_none (none i)) bad_place (field_cause line)))

-- ---- the times of the next line

-- The midnights passed at an optional time and at the times after it can be counted in two steps.
-- First count at the optional time, and then at the times after it.
pub falls_in_turn : (last first : Option ℕ) (rest : List ℕ) → falls_after last (time_list first ++ rest) ≡ falls_after last (time_list first) + falls_after
    (later_or first last) rest
falls_in_turn = search rules

-- after three optional times, the last time is the last of the times that are present. If none is
-- present, the last time stays the same
pub last_in_turn : (last first second third : Option ℕ) → later_or third (later_or second (later_or first last)) ≡ later_or
    (last_of (time_list first ++ time_list second ++ time_list third)) last
last_in_turn = search rules

-- if there is no last time yet, the midnights can be counted as if the last time were 0, since no
-- time is below 0
falls_from_zero : (last : Option ℕ) (times : List ℕ) → falls_after (later_or last (Some 0)) times ≡ falls_after last times
falls_from_zero = search (rules, le-ltb)

-- `later_or` is associative: the last time of three lists of times doesn't depend on which two
-- lists are combined first
later_in_turn : (third second first : Option ℕ) → later_or third (later_or second first) ≡ later_or (later_or third second) first
later_in_turn = search rules

one_line : (line : List ℕ) → times_along (line ∷ []) ≡ map (λ (time : Occasion × ℕ). time.1) (times_of line)
one_line line = ap (map (λ (time : Occasion × ℕ). time.1)) (append-nil (times_of line))

-- ---- what the reader remembers after the next line

-- taking another line doesn't change the first line
first_stays : (lines : Lines) (stage : Stage) (line : List ℕ) → stage_of lines ≡ Some stage → first_record (lines ++ line ∷ []) ≡ first_record lines
first_stays = search rules

next_is : (lines : Lines) (line : List ℕ) (stage next : Stage) → stage_of lines ≡ Some stage → IsRecord line → is_sound_next lines line ≡ true
    → stage_after stage (kind_of line) ≡ Some next
    → stage_of (lines ++ line ∷ []) ≡ Some next
next_is lines line stage next at is sound after = stage_of_more lines _ line at
    ∙ (λ i. cond ((record_iff_test _).0 is i && is_sound_next lines line) (stage_after stage (kind_of line)) None)
    ∙ (λ i. cond (sound i) (stage_after stage (kind_of line)) None)
    ∙ after

deletion_sound : (lines : Lines) (line : List ℕ) → is_deletion (first_record lines) ≡ true → is_sound_next lines line ≡ true
deletion_sound lines line told = λ i. told i || (has_good_fields line && nat_le (midnights (lines ++ line ∷ [])) 2)

-- the midnights that the schedule passes at the next line can be counted from the last time that
-- the reader remembers
falls_so_far : (journey : JourneyState) (lines : Lines) (line : List ℕ) → HasLines journey lines → journey.deletion ≡ false
    → falls_after (last_of (times_along lines)) (times_along (line ∷ [])) ≡ falls_after (Some journey.last) (times_along (line ∷ []))
falls_so_far journey lines line has kept = sym (falls_from_zero _ _)
    ∙ (λ i. falls_after (sym (has.last_is kept) i) (times_along (line ∷ [])))

-- a line is sound if and only if its fields are good and, with its times, the schedule passes midnight at most twice
sound_by_falls : (journey : JourneyState) (lines : Lines) (line : List ℕ) (more : ℕ) → HasLines journey lines → journey.deletion ≡ false
    → more ≡ journey.falls + falls_after (Some journey.last) (times_along (line ∷ [])) → is_sound_next lines line ≡ (has_good_fields line && nat_le more 2)
sound_by_falls = search (rules, sound_next_by_count, falls_so_far)

-- the number of midnights passed up to the last of three optional times is the sum of the counts
-- for each time in turn
pub falls_of_three : (falls : ℕ) (last first second third : Option ℕ)
    → ((falls + falls_after last (time_list first)) + falls_after (later_or first last) (time_list second)) + falls_after
    (later_or second (later_or first last)) (time_list third)
    ≡ falls + falls_after last (time_list first ++ time_list second ++ time_list third)
falls_of_three = search (rules, append_assoc, falls_in_turn)

-- ---- the times of a line of each kind

-- an origin has one time, in columns 11 to 15
pub origin_time : (line : List ℕ) → HasKind origin_location line → HasGoodFields line
    → map (λ (time : Occasion × ℕ). time.1) (times_of line) ≡ half_minutes (columns 11 15 line) ∷ []
origin_time line is good = (λ i. map (λ (time : Occasion × ℕ). time.1) (times_by_kind (is i) line))
    ∙ ap (λ time. map (λ (t : Occasion × ℕ). t.1) (timed departure time)) (time_there (columns 11 15 line) (good_fields _ line is good).1.0)

-- a terminus has one time, in columns 11 to 15
pub terminus_time : (line : List ℕ) → HasKind terminating_location line → HasGoodFields line
    → map (λ (time : Occasion × ℕ). time.1) (times_of line) ≡ half_minutes (columns 11 15 line) ∷ []
terminus_time line is good = (λ i. map (λ (time : Occasion × ℕ). time.1) (times_by_kind (is i) line))
    ∙ ap (λ time. map (λ (t : Occasion × ℕ). t.1) (timed arrival time)) (time_there (columns 11 15 line) (good_fields _ line is good).1.0)

-- an intermediate location has up to three times: its arrival, its pass and its departure, in this order
pub call_times : (line : List ℕ) (first second third : Option ℕ) → HasKind intermediate_location line
    → first ≡ scheduled_time (columns 11 15 line) → second ≡ scheduled_time (columns 21 25 line) → third ≡ scheduled_time (columns 16 20 line)
    → map (λ (time : Occasion × ℕ). time.1) (times_of line) ≡ time_list first ++ time_list second ++ time_list third
call_times = search rules

-- ---- the first line

-- a basic schedule with good fields can be the first line of a schedule
pub first_line_is : (line : List ℕ) → IsRecord line → HasKind basic_schedule line → HasGoodFields line → is_first_line line ≡ true
first_line_is line is kind fields = (first_line_iff_test line).0 (record { is = is; kind = kind; fields = fields })

-- after a basic schedule, the reader remembers the stage, whether the schedule is a deletion, and
-- whether it may end without a journey. It remembers no midnight and no last time
pub basic_read : (line : List ℕ) (journey : JourneyState) → is_first_line line ≡ true → journey.stage ≡ Some after_basic
    → journey.deletion ≡ is_deletion line → journey.lacking ≡ may_lack line
    → journey.falls ≡ 0 → journey.last ≡ 0 → HasLines journey (line ∷ [])
basic_read = search (rules, no_times, first_line_iff_test, no_times_before)

-- ---- the next line, if a record of its kind may come next

-- in a deletion, a line of a kind that may come next changes only the stage that the reader remembers
pub deletion_read : (journey : JourneyState) (lines : Lines) (line : List ℕ) (next : Stage) → HasLines journey lines → IsRecord line
    → stage_then journey.stage (kind_of line) ≡ Some next
    → journey.deletion ≡ true → HasLines (record journey { stage = Some next }) (lines ++ line ∷ [])
deletion_read journey lines line next has is led deletion =
    let on = leads_on journey.stage (kind_of line) next led in
    let stage_is : stage_of lines ≡ Some on.here = sym has.stage_is ∙ on.at in
    let first = first_stays lines on.here line stage_is in
    record {
      stage_is = sym (next_is lines line on.here next stage_is is (deletion_sound lines line (sym has.deletion_is ∙ deletion)) on.after);
      fresh = λ none. absurd cc;
      deletion_is = has.deletion_is ∙ ap is_deletion (sym first);
      lacking_is = has.lacking_is ∙ ap may_lack (sym first);
      falls_are = λ kept. let bad : true ≡ false = sym deletion ∙ kept in cc;
      last_is = λ kept. let bad : true ≡ false = sym deletion ∙ kept in cc;
    }

-- Says that a line has these times and that, after the line, `more` is the number of midnights that the schedule has passed and `later` is its last time.
pub record IsTimed (journey : JourneyState) (line : List ℕ) (first second third : Option ℕ) (more later : ℕ) : Type 0 where
  pub times : map (λ (time : Occasion × ℕ). time.1) (times_of line) ≡ time_list first ++ time_list second ++ time_list third
  pub falls : more ≡ journey.falls + falls_after (Some journey.last) (time_list first ++ time_list second ++ time_list third)
  pub last : Some later ≡ later_or third (later_or second (later_or first (Some journey.last)))

module _ (journey : JourneyState) (lines : Lines) (line : List ℕ) (first second third : Option ℕ) (more later : ℕ) (has : HasLines journey lines)
    (kept : journey.deletion ≡ false) (fields : HasGoodFields line) (told : IsTimed journey line first second third more later) where
  timed_falls : more ≡ journey.falls + falls_after (Some journey.last) (times_along (line ∷ []))
  timed_falls = search (rules, one_line)

  -- a line with good fields is sound if and only if the schedule, with the line's times, passes midnight at most twice
  sound_test : is_sound_next lines line ≡ nat_le more 2
  sound_test = sound_by_falls journey lines line more has kept timed_falls ∙ (λ i. test_by_none (leftmost_bad_field line) fields i && nat_le more 2)

  -- a line with good fields is sound if the schedule, with the line's times, passes midnight at most twice
  pub sound_by_few : more ≤ 2 → is_sound_next lines line ≡ true
  sound_by_few few = sound_test ∙ le-leb more 2 few

  -- a line isn't sound if the schedule, with the line's times, passes midnight more than twice
  pub unsound_by_many : 2 < more → ¬ (is_sound_next lines line ≡ true)
  unsound_by_many many sound = let few = leb-true more 2 (sym sound_test ∙ sound) in omega arith

  -- unless the schedule is a deletion, the reader can take a sound line. It then remembers the next
  -- stage, the new count of midnights and the new last time
  pub sound_read : (next : Stage) → IsRecord line → stage_then journey.stage (kind_of line) ≡ Some next → more ≤ 2
      → HasLines (record journey { stage = Some next; falls = more; last = later }) (lines ++ line ∷ [])
  sound_read next is led few =
      let on = leads_on journey.stage (kind_of line) next led in
      let stage_is : stage_of lines ≡ Some on.here = sym has.stage_is ∙ on.at in
      let front = first_stays lines on.here line stage_is in
      record {
        stage_is = sym (next_is lines line on.here next stage_is is (sound_by_few few) on.after);
        fresh = λ none. absurd cc;
        deletion_is = has.deletion_is ∙ ap is_deletion (sym front);
        lacking_is = has.lacking_is ∙ ap may_lack (sym front);
        falls_are = λ _.
            timed_falls ∙ (λ i. has.falls_are kept i + sym (falls_so_far journey lines line has kept) i) ∙ sym (midnights_step lines line);
        last_is = λ _.
            told.last
            ∙ last_in_turn (Some journey.last) first second third
            ∙ (λ i. later_or (last_of (sym (one_line line ∙ told.times) i)) (has.last_is kept i))
            ∙ later_in_turn (last_of (times_along (line ∷ []))) (last_of (times_along lines)) (Some 0)
            ∙ (λ i. later_or (sym (last_time_step lines line) i) (Some 0));
      }

-- ---- the result of taking a line

-- if a fact holds whenever the result is `Ok`, and the result is `Ok`, the fact holds
pub of_ok : {A E P : Type 0} (answer : Result A E) → OnOk answer P → IsOk answer → P
of_ok = search rules

-- a cause that is right whichever lines the reader may have taken satisfies `FaultsLine`
pub faults_line : {A : Type 0} (answer : Result A FileCause) (journey : JourneyState) (line : List ℕ)
    → ((lines : Lines) → HasLines journey lines → IfErr answer (λ cause. IsScheduleCause lines line (cause_meant cause)))
    → IfErr answer (FaultsLine journey line)
faults_line = search rules
