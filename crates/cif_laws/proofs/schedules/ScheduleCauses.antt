-- The cause of the fault at a record that can't continue a schedule, given the reader's stage
-- before the record. The cause is the same when the schedule is read as part of a file.
use Rattle.cif_laws.proofs.Common.{◌≡◌, ℕ, List, refl, ap, ◌<◌, ◌⊎◌, inl, inr, sym, ◌∙◌, ◌≤◌, None, rules, [], arith, ◌∷◌, Bool, true, false, cond, Some, ◌++◌}
use Rattle.cif_laws.proofs.Common.{subst, length, Option, is_none, is_some, option_map, ◌&&◌, cases_order, lt-leb, Lines, kind_of, Kind, basic_schedule}
use Rattle.cif_laws.proofs.Common.{IsRecord, leftmost_bad_field, is_deletion, midnights, BeginsSchedule, first_record, follows_basic, FileCause, bad_kind}
use Rattle.cif_laws.proofs.Common.{bad_place, bad_field, third_midnight, cause_rank}
use Rattle.cif_laws.specs.ScheduleFault.{HoldsInSchedule, IsScheduleFault, IsOutOfSchedule}
use Rattle.cif_laws.specs.RecordTest.{is_record, has_good_fields}
use Rattle.cif_laws.specs.ScheduleStage.{after_basic, is_first_line, is_basic_kind, Stage, next_stage, stage_of, stage_after, may_end, is_sound_next}
use Rattle.cif_laws.specs.FileStage.{unit_by_kind, in_schedule, place_in, in_stage_or, next_place, Place, between_units, IsPlaceOf}
use Rattle.cif_laws.specs.RecordCause.{with_column, field_cause, first_line_cause, schedule_cause, is_after_end}
use Rattle.cif_laws.specs.RecordCause.{kind_cause, cause_of}
use Rattle.cif_laws.proofs.files.OneFileFault.{column_told, same_cause}
use Rattle.cif_laws.proofs.records.RecordTests.{record_iff_test, no_bad_byte}
use Rattle.cif_laws.proofs.schedules.ScheduleStages.{begins_iff_stage, witness, witness_kind, witness_record, witness_fields, front_of_basic}
use Rattle.cif_laws.proofs.schedules.ScheduleStages.{front_begins, first_line_iff_test, no_lines_begin, next_line_by_test, begins_more_iff}
use Rattle.cif_laws.proofs.schedules.ScheduleStages.{IsSound, IsFront, details_of, midnights_of_journey, test_by_next_line, front_of_stage}
use Rattle.cif_laws.proofs.schedules.ScheduleStages.{schedule_out_of_place, schedule_in_place, IsNoNextLine, no_next_line}
use Rattle.cif_laws.proofs.files.FileStages.{stage_stops, tracked_place}
use Rattle.cif_laws.proofs.lists.BoolsAndOptions.{when_some}
use Rattle.cif_laws.proofs.schedules.ScheduleFronts.{begins_decided}

-- ---- the fault at a record that can't continue a schedule has at most one cause

-- the fault at a line that can't continue a schedule has at most one cause
pub one_schedule_cause : (earlier : Lines) (line : List ℕ) (first second : FileCause) → IsScheduleFault earlier line first → IsScheduleFault earlier line second
    → first ≡ second
one_schedule_cause = search (rules, cases_order, same_cause, column_told)

-- ---- if a record can't be the first record of a schedule, the cause of its fault is
-- `first_line_cause`

-- if the conditions of all causes with a rank below `rank` are false, none of these causes applies
none_below : (earlier : Lines) (line : List ℕ) (rank : ℕ) → rank ≤ 7 → (4 < rank → ¬ (kind_of line ≡ None)) → (5 < rank → ¬ IsOutOfSchedule earlier line)
    → (6 < rank → leftmost_bad_field line ≡ None)
    → (other : FileCause) → cause_rank other < rank → ¬ HoldsInSchedule earlier line other
none_below = search rules

-- a record that begins a schedule passes the test `is_first_line`
begins_first : (line : List ℕ) → BeginsSchedule (line ∷ []) → is_first_line line ≡ true
begins_first line begins = (when_some (is_first_line line) (Some after_basic) _ ((begins_iff_stage line []).0 begins).1).0

basic_is : (kind : Option Kind) → is_basic_kind kind ≡ true → kind ≡ Some basic_schedule
basic_is = search rules

-- a good basic schedule begins some schedule
witness_begins : BeginsSchedule (witness basic_schedule ∷ [])
witness_begins = front_begins after_basic (witness basic_schedule ∷ [])
    (search (rules, front_of_basic, witness, record_iff_test, witness_record, witness_kind, witness_fields))

kind_is_known : (line : List ℕ) (kind : Kind) → kind_of line ≡ Some kind → ¬ (kind_of line ≡ None)
kind_is_known line kind is none = let bad : None ≡ Some kind = sym none ∙ is in cc

-- if a record can't be the first record of a schedule, the cause of its fault is `first_line_cause`
pub first_line_fault : (line : List ℕ) → IsRecord line → is_first_line line ≡ false → IsScheduleFault [] line (first_line_cause line)
first_line_fault line is test = by (kind_of line) refl
  where
    here : ¬ BeginsSchedule (line ∷ [])
    here begins = let bad : true ≡ false = sym (begins_first line begins) ∙ test in cc

    out : is_basic_kind (kind_of line) ≡ false → IsOutOfSchedule [] line
    out other next same begins = search (rules, first_line_iff_test, begins_first)

    inside : kind_of line ≡ Some basic_schedule → ¬ IsOutOfSchedule [] line
    inside kind outside = outside (witness basic_schedule) (witness_kind basic_schedule ∙ sym kind) witness_begins

    field : (bad : Option ℕ) → leftmost_bad_field line ≡ bad → kind_of line ≡ Some basic_schedule
        → IsScheduleFault [] line (with_column bad_field bad third_midnight)
    field None h kind = search (rules, first_line_iff_test)
    field (Some at) h kind = search (rules, no_lines_begin, none_below, kind_is_known, here, inside)

    placed : (kind : Kind) → kind_of line ≡ Some kind → (b : Bool) → is_basic_kind (Some kind) ≡ b
        → IsScheduleFault [] line (cond b (field_cause line) bad_place)
    placed kind h true basic = field (leftmost_bad_field line) refl (h ∙ basic_is (Some kind) basic)
    placed kind h false basic = search (rules, no_lines_begin, none_below, kind_is_known)

    by : (kind : Option Kind) → kind_of line ≡ kind
        → IsScheduleFault [] line (cond (is_none kind) bad_kind (cond (is_basic_kind kind) (field_cause line) bad_place))
    by None h = search (rules, no_lines_begin, none_below)
    by (Some kind) h = placed kind h (is_basic_kind (Some kind)) refl

-- ---- if a later record can't continue the schedule, the cause of its fault is `schedule_cause`

-- if a record leads to a next stage, the records up to and including this record begin a schedule
pub begins_next_stage : (lines : Lines) (stage : Stage) (line : List ℕ) (next : Stage) → stage_of lines ≡ Some stage → next_stage stage lines line ≡ Some next
    → BeginsSchedule (lines ++ line ∷ [])
begins_next_stage [] stage line next at found = cc
begins_next_stage (basic ∷ rest) stage line next at found = (begins_more_iff _ _ _ _ at).1 (next, next_line_by_test _ _ _ _ found)

-- suppose that a reader is at a stage after some records. If these records and one more record
-- begin no schedule, this record leads to no next stage
pub no_next_stage : (lines : Lines) (stage : Stage) (line : List ℕ) → stage_of lines ≡ Some stage → ¬ BeginsSchedule (lines ++ line ∷ [])
    → next_stage stage lines line ≡ None
no_next_stage lines stage line at here = (elim (next_stage stage lines line) as (λ next. next_stage stage lines line ≡ next → next ≡ None) [
  | None ↦ λ h. refl
  | Some next ↦ λ h. absurd (here (begins_next_stage lines stage line next at h))
]) refl

-- if a record leads to no next stage, the cause of its fault is `schedule_cause`
pub schedule_fault : (earlier : Lines) (stage : Stage) (line : List ℕ) → stage_of earlier ≡ Some stage → IsRecord line → next_stage stage earlier line ≡ None
    → IsScheduleFault earlier line (schedule_cause stage line)
schedule_fault [] stage line at is nowhere = cc
schedule_fault (basic ∷ rest) stage line at is nowhere = by (kind_of line) refl
  where
    front : IsFront stage (basic ∷ rest)
    front = front_of_stage (basic ∷ rest) stage at

    begin : BeginsSchedule (basic ∷ rest)
    begin = (begins_iff_stage basic rest).1 (stage, at)

    here : ¬ BeginsSchedule (basic ∷ rest ++ line ∷ [])
    here begins =
        let told = (begins_more_iff basic rest stage line at).0 begins in
        let bad : None ≡ Some told.0 = sym nowhere ∙ test_by_next_line stage (basic ∷ rest) line told.0 told.1 in cc

    inside : (kind : Kind) (next : Stage) → kind_of line ≡ Some kind → stage_after stage (Some kind) ≡ Some next → ¬ IsOutOfSchedule (basic ∷ rest) line
    inside kind next h after out = out (witness kind) (witness_kind kind ∙ sym h) (schedule_in_place basic rest stage kind next at after)

    few : is_deletion (first_record (basic ∷ rest)) ≡ false → IsSound front.basic front.journey → midnights (basic ∷ rest) ≤ 2
    few kept (inl deletion) = let bad : true ≡ false = sym (subst (λ l. is_deletion (first_record l) ≡ true) (sym front.whole) deletion) ∙ kept in cc
    few kept (inr good) = search (rules, midnights_of_journey, details_of, front.whole, front.basic, front.extra, front.journey, front.kind, front.shape)

    told : (kind : Kind) (next : Stage) → kind_of line ≡ Some kind → stage_after stage (Some kind) ≡ Some next → IsNoNextLine stage (basic ∷ rest) line
        → IsScheduleFault (basic ∷ rest) line (field_cause line)
    told kind next h after (inl out) = let bad : Some next ≡ None = sym after ∙ ap (stage_after stage) (sym h) ∙ out in cc
    told kind next h after (inr (inl field)) =
        subst (λ bad. IsScheduleFault (basic ∷ rest) line (with_column bad_field bad third_midnight)) (sym field.1) (record {
          earlier_begin = begin;
          here = here;
          holds = field.1;
          first = none_below (basic ∷ rest) line 6 (omega arith) (λ _. kind_is_known line kind h) (λ _. inside kind next h after)
              (λ below. absurd (omega arith));
        })
    told kind next h after (inr (inr third)) =
        subst (λ bad. IsScheduleFault (basic ∷ rest) line (with_column bad_field bad third_midnight)) (sym third.0) (record {
          earlier_begin = begin;
          here = here;
          holds = (few third.2 front.sound, third.1);
          first = none_below (basic ∷ rest) line 7 (omega arith) (λ _. kind_is_known line kind h) (λ _. inside kind next h after) (λ _. third.0);
        })

    placed : (kind : Kind) → kind_of line ≡ Some kind → (after : Option Stage) → stage_after stage (Some kind) ≡ after → IsScheduleFault (basic ∷ rest) line
        (cond (is_none after) bad_place (field_cause line))
    placed kind h None after = search (rules, schedule_out_of_place, none_below, kind_is_known, begin, here)
    placed kind h (Some next) after = told kind next h after (no_next_line stage (basic ∷ rest) line is nowhere)

    by : (kind : Option Kind) → kind_of line ≡ kind → IsScheduleFault (basic ∷ rest) line
        (cond (is_none kind) bad_kind (cond (is_none (stage_after stage kind)) bad_place (field_cause line)))
    by None h = search (rules, none_below, begin, here)
    by (Some kind) h = placed kind h (stage_after stage (Some kind)) refl

-- after records that begin a schedule, one more record continues the schedule or is at fault
pub goes_on_or_fault : (earlier : Lines) (line : List ℕ) → BeginsSchedule earlier → IsRecord line → BeginsSchedule (earlier ++ line ∷ [])
    ⊎ ((cause : FileCause) × IsScheduleFault earlier line cause)
goes_on_or_fault [] line begins is =
    (elim (is_first_line line) as (λ b. is_first_line line ≡ b → BeginsSchedule (line ∷ []) ⊎ ((cause : FileCause) × IsScheduleFault [] line cause)) [
      | true ↦ λ h. inl ((begins_iff_stage line []).1 (after_basic, λ i. cond (h i) (Some after_basic) None))
      | false ↦ λ h. inr (first_line_cause line, first_line_fault line is h)
    ]) refl
goes_on_or_fault (basic ∷ rest) line begins is = elim (begins_decided (basic ∷ rest ++ line ∷ [])) [
  | inl on ↦ inl on
  | inr here ↦
      let at = (begins_iff_stage basic rest).0 begins in
      inr (schedule_cause at.0 line, schedule_fault (basic ∷ rest) at.0 line at.1 is (no_next_stage (basic ∷ rest) at.0 line at.1 here))
]

-- ---- a fault at a record of a schedule has the same cause whether the record is judged as part of
-- the schedule or as part of a file

-- a record that can follow a basic schedule begins no unit
pub no_unit_by_kind : (kind : Option Kind) (line : List ℕ) → follows_basic kind ≡ true → unit_by_kind kind line ≡ None
no_unit_by_kind = search rules

-- at this stage the record can only belong to the schedule: the schedule can't end before the
-- record, or the record begins no unit
abbrev pub IsOfSchedule : Stage → Lines → List ℕ → Type 0
IsOfSchedule stage lines line = (may_end stage lines ≡ false) ⊎ (unit_by_kind (kind_of line) line ≡ None)

no_other : (stage : Stage) (lines : Lines) (line : List ℕ) → IsOfSchedule stage lines line → cond (may_end stage lines) (unit_by_kind (kind_of line) line) None
    ≡ None
no_other = search rules

-- if a record can only belong to the schedule, it leads a reader of the file to the `Place` with
-- the schedule's next stage
pub next_place_of_stage : (stage : Stage) (lines : Lines) (line : List ℕ) → IsOfSchedule stage lines line
    → next_place (in_schedule stage lines) line ≡ option_map (λ next. place_in next (lines ++ line ∷ [])) (next_stage stage lines line)
next_place_of_stage stage lines line of =
    (search (rules, no_other))
    ∙ by (stage_after stage (kind_of line))
  where
    tested : (b : Bool) (next : Stage) → cond b (Some (place_in next (lines ++ line ∷ []))) None ≡ option_map (λ s. place_in s (lines ++ line ∷ []))
        (cond b (Some next) None)
    tested true next = refl
    tested false next = refl

    none : (b c : Bool) → cond b None None ≡ option_map (λ s. place_in s (lines ++ line ∷ [])) (cond c None None)
    none true true = refl
    none true false = refl
    none false true = refl
    none false false = refl

    by : (after : Option Stage) → cond (is_record line && cond (is_some after) (is_sound_next lines line) (has_good_fields line))
        (in_stage_or (lines ++ line ∷ []) after None) None
        ≡ option_map (λ s. place_in s (lines ++ line ∷ [])) (cond (is_record line && is_sound_next lines line) after None)
    by None = none (is_record line && has_good_fields line) (is_record line && is_sound_next lines line)
    by (Some next) = tested (is_record line && is_sound_next lines line) next

-- for a record that is within the limit and isn't after the trailer, `cause_of` returns
-- `kind_cause`
pub cause_of_record : (limit count : ℕ) (place : Place) (line : List ℕ) → count < limit → is_after_end place ≡ false → IsRecord line
    → cause_of limit count place line ≡ kind_cause place line
cause_of_record = search (rules, lt-leb, no_bad_byte)

-- suppose that a record can only belong to the schedule. Then a fault at this record has the same
-- cause whether the record is judged as part of the file or as part of the schedule
pub cause_in_schedule : (limit count : ℕ) (stage : Stage) (lines : Lines) (line : List ℕ) → count < limit → IsRecord line → IsOfSchedule stage lines line
    → cause_of limit count (in_schedule stage lines) line ≡ schedule_cause stage line
cause_in_schedule limit count stage lines line under is of = cause_of_record limit _ (in_schedule stage lines) _ under refl is
    ∙ (search (rules, no_other))
    ∙ ap (λ b. cond (is_none (kind_of line)) bad_kind (cond b bad_place (field_cause line))) (by (stage_after stage (kind_of line)))
  where
    by : (after : Option Stage) → is_none (in_stage_or (lines ++ line ∷ []) after None) ≡ is_none after
    by None = refl
    by (Some next) = refl

-- suppose that a schedule may end, and that a record can't follow a basic schedule. Then a fault at
-- this record has the same cause whether the record follows this schedule or any other unit
pub cause_behind_schedule : (limit count : ℕ) (stage : Stage) (lines : Lines) (line : List ℕ) → count < limit → IsRecord line → may_end stage lines ≡ true
    → follows_basic (kind_of line) ≡ false
    → cause_of limit count (in_schedule stage lines) line ≡ cause_of limit count between_units line
cause_behind_schedule = search (rules, cause_of_record, stage_stops)

-- if a record is at fault as part of the schedule, it is also at fault as part of the file, and the
-- cause is the same
pub fault_of_schedule : (limit : ℕ) (earlier : Lines) (stage : Stage) (lines : Lines) (line : List ℕ) (cause : FileCause)
    → IsPlaceOf earlier (in_schedule stage lines) → length earlier < limit → IsRecord line
    → IsOfSchedule stage lines line → IsScheduleFault lines line cause
    → (next_place (in_schedule stage lines) line ≡ None) × (cause_of limit (length earlier) (in_schedule stage lines) line ≡ cause)
fault_of_schedule limit earlier stage lines line cause found under is of fault =
    let at : stage_of lines ≡ Some stage = (tracked_place earlier (in_schedule stage lines) found).0 in
    let nowhere : next_stage stage lines line ≡ None = no_next_stage lines stage line at fault.here in
    search (rules, next_place_of_stage, cause_in_schedule, one_schedule_cause, schedule_fault)
