-- Lemmas on what the reader of a file's records remembers after taking a record, and why it refuses
-- a record.
use Rattle.cif_laws.proofs.Common.{◌≡◌, ℕ, ◌+◌, ◌<◌, inr, Bool, true, false, cond, List, [], ◌∷◌, ◌++◌, length, map, subst, rules, refl, ap, sym, ◌∙◌, Some}
use Rattle.cif_laws.proofs.Common.{None, arith, append-nil, append_assoc, length-append, Option, IsTrue, ◌↔◌, ◌&&◌, is_some, is_none, option_map, OnOk, Result}
use Rattle.cif_laws.proofs.Common.{prefix_len, take-append-le, Kind, header, basic_schedule, trailer, kind_of, IsRecord, HasKind, first_record, follows_basic}
use Rattle.cif_laws.proofs.Common.{IsFile, IsSchedule, BeginsSchedule, HasGoodFields, leftmost_bad_field, Change, Key, Act, schedule_rest, acts_by_kind}
use Rattle.cif_laws.proofs.Common.{changes_of_record, changes_from, changes, schedule_named, bad_place, bad_kind, bad_field}
use Rattle.std.proofs.lemmas.List.Sums.{prefix_len-le-length}
use Rattle.docker_model.specs.file.FileFault as fault
use Rattle.cif_laws.proofs.files.UnitChanges.{unit_then, schedule_change}
use Rattle.cif_laws.specs.RecordTest.{is_record, has_good_fields}
use Rattle.cif_laws.proofs.lists.BoolsAndOptions.{test_by_none, none_by_test}
use Rattle.cif_laws.specs.ScheduleStage.{Stage, after_basic, after_journey}
use Rattle.cif_laws.specs.ScheduleStage.{stage_after, stage_of, may_end, is_sound_next, next_stage}
use Rattle.cif_laws.proofs.schedules.ScheduleStages.{stage_of_more, first_line_iff_test, schedule_iff_stage, begins_iff_stage, no_stage_of_none}
use Rattle.cif_laws.specs.FileStage.{Place, before_header, between_units, in_schedule, after_end, unit_by_kind, place_in}
use Rattle.cif_laws.specs.FileStage.{is_header_kind, place_by_kind, is_sound_at, next_place, IsPlaceOf}
use Rattle.cif_laws.proofs.files.FileStages.{test_by_next, next_by_test, next_behind, stage_stops, file_iff_place, one_place, place_of_more, at_of_place}
use Rattle.cif_laws.specs.RecordCause.{kind_cause, place_cause, is_after_end}
use Rattle.cif_laws.proofs.schedules.ScheduleCauses.{no_unit_by_kind, next_place_of_stage, cause_of_record}
use Rattle.cif_laws.proofs.schedules.ScheduleCauses.{cause_in_schedule, cause_behind_schedule, fault_of_schedule}
use Rattle.cif_line.specs.declared.kind_of_record.Kind as code
use Rattle.cif_line.specs.declared.kind_of_record.Kind.TheVariants.{Header}
use Rattle.cif_line.specs.Kind.{meaning}
use Rattle.cif_change.specs.declared.key.Key.TheVariants as key
use Rattle.cif_file.specs.declared.keeper.opened.Opened.{Opened}
use Rattle.cif_file.specs.declared.records.front.Front.{Front}
use Rattle.cif_file.specs.declared.records.front.FileStage.{FileStage}
use Rattle.cif_file.specs.declared.records.front.FileStage.TheVariants.{BeforeHeader, BetweenUnits, InSchedule, AfterEnd}
use Rattle.cif_change.specs.Meaning.{key_meant}
use Rattle.cif_file.specs.declared.file.ended.Ended.{Ended}
use Rattle.cif_file.specs.KeeperRead.{Keeps, change_opened, Begins, AddsLine, AddsSingle, Closes}
use Rattle.cif_file.specs.EndedRead.{IsEnded}
use Rattle.cif_change.specs.JourneyRead.{progress_meant, HasLines, IsScheduleCause, is_over_by}
use Rattle.cif_file.specs.RecordsRead.{header_of, IsOpen, IsKept, HasRecords, IsOver, GoesOnWith, IsNoNext, IsNoNextCause, IsWholeBy, GoesOnTo, StandsBefore}

abbrev Lines : Type 0
Lines = List (List ℕ)

-- ---- the changes of two lists of records, one after the other

acts_alike : (kind : Option Kind) (line : List ℕ) (following others : Lines) → schedule_rest following ≡ schedule_rest others
    → acts_by_kind kind line following ≡ acts_by_kind kind line others
acts_alike = search rules

abbrev as_change : ℕ → Key × Act → Change
as_change n act = record { number = n; key = act.0; act = act.1 }

numbered : (n : ℕ) (line : List ℕ) (following others : Lines) → schedule_rest following ≡ schedule_rest others
    → changes_of_record n line following ≡ changes_of_record n line others
numbered n line following others same = ap (map (as_change n)) (acts_alike (kind_of line) line following others same)

-- whether a line is of a kind that comes within a schedule. A line of any other kind ends the schedule that is being read
abbrev follows : List ℕ → Bool
follows line = follows_basic (kind_of line)

prefix_stops : (lines : Lines) (line : List ℕ) (more : Lines) → follows_basic (kind_of line) ≡ false
    → prefix_len follows (lines ++ line ∷ more) ≡ prefix_len follows lines
prefix_stops [] line more stops = λ i. cond (stops i) (1 + prefix_len follows more) 0
prefix_stops (first ∷ lines) line more stops = ap (λ n. cond (follows first) (1 + n) 0) (prefix_stops lines line more stops)

rest_stops : (lines : Lines) (line : List ℕ) (more : Lines) → follows_basic (kind_of line) ≡ false → schedule_rest (lines ++ line ∷ more) ≡ schedule_rest lines
rest_stops = search (rules, prefix_stops, take-append-le, prefix_len-le-length)

changes_append : (n : ℕ) (records : Lines) (line : List ℕ) (more : Lines) → follows_basic (kind_of line) ≡ false
    → changes_from n (records ++ line ∷ more) ≡ changes_from n records ++ changes_from (n + length records) (line ∷ more)
changes_append n [] line more stops = ap (λ k. changes_from k (line ∷ more)) (omega arith)
changes_append n (record_first ∷ records) line more stops =
    (λ i. numbered n record_first (records ++ line ∷ more) records (rest_stops records line more stops) i ++ changes_append (n + 1) records line more stops i)
    ∙ sym (append_assoc (changes_of_record n record_first records) (changes_from (n + 1) records) (changes_from (n + 1 + length records) (line ∷ more)))
    ∙ ap (λ k. (changes_of_record n record_first records ++ changes_from (n + 1) records) ++ changes_from k (line ∷ more)) (omega arith)

-- if the next record doesn't come within a schedule, its changes are appended to the changes of the records before it
pub changes_anew : (records : Lines) (line : List ℕ) → follows_basic (kind_of line) ≡ false
    → changes (records ++ line ∷ []) ≡ changes records ++ changes_of_record (length records + 1) line []
changes_anew = search (rules, changes_append, append-nil)

-- ---- lists of records

-- adding records after the first record doesn't change the header
header_stays : (records more : Lines) → 0 < length records → header_of (records ++ more) ≡ header_of records
header_stays = search rules

first_stays : (lines : Lines) (line : List ℕ) → 0 < length lines → first_record (lines ++ line ∷ []) ≡ first_record lines
first_stays = search rules

some_lines : (lines : Lines) (stage : Stage) → stage_of lines ≡ Some stage → 0 < length lines
some_lines = search rules

-- ---- a schedule that is complete

-- lines that may begin a schedule are a whole schedule if and only if a schedule may end at the stage after them
whole_iff : (lines : Lines) (stage : Stage) → stage_of lines ≡ Some stage → IsSchedule lines ↔ (may_end stage lines ≡ true)
whole_iff lines stage at = (
  λ is.
      let told = (schedule_iff_stage _).0 is in
      let same : Some told.0 ≡ Some stage = sym told.1.found ∙ at in
      let one : told.0 ≡ stage = cc in
      subst (λ s. may_end s lines ≡ true) one told.1.may,
  λ may. (schedule_iff_stage _).1 (stage, record { found = at; may = may }),
)

-- if records end with a complete schedule, their changes are the changes of the records before this
-- schedule, followed by exactly one change
pub changes_closed : (opened : Opened) (lines before : Lines) → HasLines (progress_meant opened.progress) lines → opened.number ≡ length before + 1
    → key_meant (key.Schedule opened.key) ≡ schedule_named (first_record lines) → IsSchedule lines
    → changes (before ++ lines) ≡ changes before ++ change_opened opened lines ∷ []
changes_closed opened [] before has number named is = absurd (let size = ap (λ (l : Lines). length l) is.whole in omega arith)
changes_closed opened (basic ∷ others) before has number named is =
    let kind : HasKind basic_schedule basic = subst (HasKind basic_schedule) (sym (ap first_record is.whole)) is.kind in
    changes_append _ before _ others (ap follows_basic kind)
    ∙ ap (λ later. changes before ++ later) (ap (changes_from (1 + length before)) (sym (append-nil (basic ∷ others)))
    ∙ unit_then _ (basic ∷ others) _ (inr is) tt
    ∙ append-nil _
    ∙ schedule_change (1 + length before) _ others is
    ∙ ap (λ change. change ∷ []) (search rules)
    )

-- ---- records that begin a unit

-- a record that begins a unit doesn't come within a schedule
pub anew_by_unit : (line : List ℕ) → is_some (unit_by_kind (kind_of line) line) ≡ true → follows_basic (kind_of line) ≡ false
anew_by_unit = search (rules, no_unit_by_kind)

-- suppose that all units read so far are whole. If the next record begins a unit and has good fields, its kind determines the reader's next `Place`
pub place_over : {K : Type 0} (keeps : Keeps K) (front : Front K) (records : Lines) (line : List ℕ) (next : Place) → (over : IsOver keeps front records)
    → IsRecord line → HasGoodFields line
    → unit_by_kind (kind_of line) line ≡ Some next
    → IsPlaceOf (records ++ line ∷ []) next
place_over keeps front records line next over is fields begins =
    place_of_more records over.place line over.at
    ∙ over.anew line (anew_by_unit line (λ i. is_some (begins i)))
    ∙ test_by_next between_units line next (record { is = is; sound = test_by_none (leftmost_bad_field line) fields; place_is = begins })

-- ---- taking a record that begins a unit

module _ {K : Type 0} (keeps : Keeps K) (old new : Front K) (records : Lines) (line : List ℕ) (over : IsOver keeps old records) (is : IsRecord line)
    (fields : HasGoodFields line) (same_header : new.header ≡ old.header) where
  added : (next : Place) → unit_by_kind (kind_of line) line ≡ Some next → IsKept keeps new.stage new.keeper next (records ++ line ∷ [])
      → HasRecords keeps new (records ++ line ∷ [])
  added next begins kept = record {
    place = next;
    at = place_over keeps old records line next over is fields begins;
    header_is = same_header ∙ over.header_is ∙ sym (header_stays records _ over.some);
    kept_are = kept;
  }

  -- if all units read so far are whole, the reader can take a trailer
  pub trailer_added : HasKind trailer line → new.stage ≡ AfterEnd → new.keeper ≡ old.keeper → HasRecords keeps new (records ++ line ∷ [])
  trailer_added kind place made = added after_end (ap (λ k. unit_by_kind k line) kind) (search (rules, changes_anew))

  -- if all units read so far are whole, the reader can take a record that is a unit by itself. The
  -- keeper then makes the record's changes
  pub single_added : (number : ℕ) → unit_by_kind (kind_of line) line ≡ Some between_units → number ≡ length records + 1 → new.stage ≡ BetweenUnits
      → AddsSingle keeps old.keeper number line new.keeper → HasRecords keeps new (records ++ line ∷ [])
  single_added number begins counted place made = added between_units begins (search (rules, changes_anew))

  -- if all units read so far are whole, the reader can take a basic schedule. It is then inside this
  -- schedule
  pub basic_added : (opened : Opened) → HasKind basic_schedule line → opened.number ≡ length records + 1
      → key_meant (key.Schedule opened.key) ≡ schedule_named line → HasLines (progress_meant opened.progress) (line ∷ []) → new.stage ≡ InSchedule opened
      → Begins keeps old.keeper line new.keeper → HasRecords keeps new (records ++ line ∷ [])
  basic_added opened kind number named has place begun =
      added (in_schedule after_basic (line ∷ [])) (ap (λ k. unit_by_kind k line) kind) (search (rules, first_line_iff_test))

-- ---- whole units

between_some : (records : Lines) → IsPlaceOf records between_units → 0 < length records
between_some records at = let told = at_of_place records between_units at in let size = ap (λ (l : Lines). length l) told.whole in omega arith

-- at the stage `BetweenUnits`, all units are whole
pub over_of_between : {K : Type 0} (keeps : Keeps K) (front : Front K) (records : Lines) → HasRecords keeps front records → front.stage ≡ BetweenUnits
    → IsOver keeps front records
over_of_between = search (rules, between_some)

-- at the stage `InSchedule`, the reader is inside the schedule that the stage holds, and the keeper has the schedule's lines
pub opened_of : {K : Type 0} (keeps : Keeps K) (front : Front K) (opened : Opened) (records : Lines) (has : HasRecords keeps front records)
    → front.stage ≡ InSchedule opened
    → IsOpen keeps opened front.keeper has.place records
opened_of keeps front opened records has place = subst (λ p. IsKept keeps p front.keeper has.place records) place has.kept_are

-- if a schedule is complete, all units are whole once its change is made
pub over_of_closed : {K : Type 0} (keeps : Keeps K) (old new : Front K) (opened : Opened) (records : Lines) → HasRecords keeps old records
    → old.stage ≡ InSchedule opened → IsWholeBy opened
    → new.header ≡ old.header
    → Closes keeps old.keeper opened new.keeper → IsOver keeps new records
over_of_closed = search (rules, opened_of, some_lines, length-append, changes_closed, next_behind, whole_iff)

-- ---- taking a further line of a schedule

-- Says that the reader is still in the same schedule, and that this line was added to the schedule's lines.
abbrev pub IsFollowed : Opened → List ℕ → FileStage → Type 0
IsFollowed opened line stage = (later : Opened) × (stage ≡ InSchedule later) × GoesOnTo opened line (InSchedule later)

pub followed : (opened : Opened) (line : List ℕ) (stage : FileStage) → GoesOnTo opened line stage → IsFollowed opened line stage
followed opened line (InSchedule later) gone = (later, refl, gone)
followed opened line _ gone = absurd gone

-- a line with which the schedule can continue may come directly after the lines already taken
pub stands_before : {K : Type 0} (keeps : Keeps K) (front new : Front K) (opened : Opened) (records : Lines) (line : List ℕ) → HasRecords keeps front records
    → front.stage ≡ InSchedule opened → new.header ≡ front.header → new.keeper ≡ front.keeper → IsRecord line
    → follows_basic (kind_of line) ≡ true → (after : IsFollowed opened line new.stage)
    → ((lines : Lines) → HasLines (progress_meant opened.progress) lines → BeginsSchedule (lines ++ line ∷ []))
    → StandsBefore keeps new after.0 line records
stands_before = search (rules, opened_of)

stage_begun : (lines : Lines) (line : List ℕ) → BeginsSchedule (lines ++ line ∷ []) → (next : Stage) × (stage_of (lines ++ line ∷ []) ≡ Some next)
stage_begun [] line begins = (begins_iff_stage line []).0 begins
stage_begun (basic ∷ others) line begins = (begins_iff_stage basic (others ++ line ∷ [])).0 begins

stays_inside : (next : Stage) (lines : Lines) → is_over_by (Some next) ≡ false → place_in next lines ≡ in_schedule next lines
stays_inside = search rules

goes_out : (next : Stage) (lines : Lines) → is_over_by (Some next) ≡ true → (next ≡ after_journey) × (place_in next lines ≡ between_units)
goes_out = search rules

-- if a keeper that has received lines of a schedule adds one more line, it then holds these lines
-- followed by the new line
pub added_to : {K : Type 0} (keeps : Keeps K) (old new : K) (lines : Lines) (line : List ℕ) (made : List Change) → 0 < length lines
    → AddsLine keeps old line new → keeps old lines made → keeps new (lines ++ line ∷ []) made
added_to keeps old new [] line made some added kept = absurd (omega arith)
added_to keeps old new (basic ∷ others) line made some added kept = added basic others made kept

module _ {K : Type 0} (keeps : Keeps K) (front : Front K) (opened : Opened) (line : List ℕ) (records : Lines)
    (before : StandsBefore keeps front opened line records) where
  -- after the records and this line, the reader is inside the schedule, at the schedule's next stage
  place_followed : (next : Stage) → stage_of (before.lines ++ line ∷ []) ≡ Some next
      → IsPlaceOf (records ++ line ∷ []) (place_in next (before.lines ++ line ∷ []))
  place_followed next at =
      place_of_more records (in_schedule before.stage before.lines) line before.at
      ∙ next_place_of_stage before.stage before.lines line (inr (no_unit_by_kind (kind_of line) line before.follows))
      ∙ ap (option_map (λ n. place_in n (before.lines ++ line ∷ []))) (sym (stage_of_more before.lines before.stage line before.stage_is) ∙ at)

  header_followed : front.header ≡ header_of (records ++ line ∷ [])
  header_followed = search (rules, some_lines, length-append, header_stays)

  -- a line with which the schedule continues may come next
  pub line_goes_on : GoesOnWith records line
  line_goes_on =
      let next = stage_begun before.lines line before.goes_on in
      (place_in next.0 (before.lines ++ line ∷ []), place_followed next.0 next.1)

  -- the reader can take a line after which the schedule may continue
  pub line_added : (new : Front K) → is_over_by (progress_meant opened.progress).stage ≡ false → new.header ≡ front.header
      → new.stage ≡ InSchedule opened → AddsLine keeps front.keeper line new.keeper → HasRecords keeps new (records ++ line ∷ [])
  line_added new inside same_header place more =
      let next = stage_begun before.lines line before.goes_on in
      let some = some_lines before.lines before.stage before.stage_is in
      let here : is_over_by (Some next.0) ≡ false = ap is_over_by (sym next.1) ∙ ap is_over_by (sym before.progress_is.stage_is) ∙ inside in
      record {
        place = in_schedule next.0 (before.lines ++ line ∷ []);
        at = place_followed next.0 next.1 ∙ ap Some (stays_inside next.0 (before.lines ++ line ∷ []) here);
        header_is = same_header ∙ header_followed;
        kept_are =
            subst (λ p. IsKept keeps p new.keeper (in_schedule next.0 (before.lines ++ line ∷ [])) (records ++ line ∷ []))
            (sym place) (record {
              stage = next.0;
              lines = before.lines ++ line ∷ [];
              before = before.before;
              place_is = refl;
              stage_is = next.1;
              whole = (λ i. before.whole i ++ line ∷ []) ∙ append_assoc before.before before.lines (line ∷ []);
              number_is = before.number_is;
              key_is = before.key_is ∙ ap schedule_named (sym (first_stays before.lines line some));
              progress_is = before.progress_is;
              kept = added_to keeps front.keeper new.keeper before.lines line (changes before.before) some more before.kept;
            });
      }

  -- the reader can take a line that ends the schedule, and the keeper then makes the schedule's
  -- change
  pub line_closed : (new : Front K) → is_over_by (progress_meant opened.progress).stage ≡ true → new.header ≡ front.header → new.stage ≡ BetweenUnits
      → ((lines : Lines) (made : List Change) → 0 < length lines → HasLines (progress_meant opened.progress) (lines ++ line ∷ [])
      → IsSchedule (lines ++ line ∷ []) → keeps front.keeper lines made → keeps new.keeper [] (made ++ change_opened opened (lines ++ line ∷ []) ∷ []))
      → HasRecords keeps new (records ++ line ∷ [])
  line_closed new outside same_header place closed =
      let next = stage_begun before.lines line before.goes_on in
      let some = some_lines before.lines before.stage before.stage_is in
      let out = goes_out next.0 (before.lines ++ line ∷ []) (ap is_over_by (sym next.1) ∙ ap is_over_by (sym before.progress_is.stage_is) ∙ outside) in
      let is = (whole_iff (before.lines ++ line ∷ []) after_journey (next.1 ∙ ap Some out.0)).1 refl in
      record {
        place = between_units;
        at = place_followed next.0 next.1 ∙ ap Some out.1;
        header_is = same_header ∙ header_followed;
        kept_are = search (rules, changes_closed, append_assoc);
      }

-- ---- the end of the file

-- whether the reader is after the trailer at this stage
abbrev pub is_end : FileStage → Bool
is_end AfterEnd = true
is_end _ = false

tells_end : {K : Type 0} (keeps : Keeps K) (stage : FileStage) (keeper : K) (place : Place) (records : Lines) → IsKept keeps stage keeper place records
    → is_after_end place ≡ is_end stage
tells_end = search rules

end_by_test : (place : Place) → is_after_end place ≡ true → place ≡ after_end
end_by_test = search rules

-- the records are a file if and only if they lead the reader to the end of the file
pub file_by_place : (records : Lines) (place : Place) → IsPlaceOf records place → IsTrue (is_after_end place) ↔ IsFile records
file_by_place records place at = (
  λ is. (file_iff_place records).1 (at ∙ ap Some (end_by_test place is)),
  λ file. ap is_after_end (sym (one_place records after_end place ((file_iff_place records).0 file) at)),
)

-- the records are a file if and only if the reader is after the trailer
pub ended_iff : {K : Type 0} (keeps : Keeps K) (front : Front K) (records : Lines) (stage : FileStage) → front.stage ≡ stage → HasRecords keeps front records
    → IsTrue (is_end stage) ↔ IsFile records
ended_iff keeps front records stage here has =
    let tells : is_after_end has.place ≡ is_end stage = tells_end keeps front.stage front.keeper has.place records has.kept_are ∙ ap is_end here in
    let by_place = file_by_place records has.place has.at in
    (λ is. by_place.0 (tells ∙ is), λ file. sym tells ∙ by_place.1 file)

-- ---- which lines may come next

next_of_unit : (line : List ℕ) → is_some (unit_by_kind (kind_of line) line) ≡ true → (next : Place) × (unit_by_kind (kind_of line) line ≡ Some next)
next_of_unit = search rules

none_of : (b : Bool) (o : Option Place) → o ≡ None → cond b o None ≡ None
none_of = search rules

no_place : (place : Place) (line : List ℕ) → place_by_kind place None line ≡ None
no_place = search (rules, no_stage_of_none, none_of)

not_end : (place : Place) → ¬ (place ≡ after_end) → is_after_end place ≡ false
not_end = search rules

unsound : (line : List ℕ) (at : ℕ) → leftmost_bad_field line ≡ Some at → has_good_fields line ≡ false
unsound line at bad = ap is_none bad

both_false : (b c : Bool) → c ≡ false → (b && c) ≡ false
both_false = search rules

-- between units, no file can continue with a record that begins no unit or has a bad field
pub no_unit : (line : List ℕ) → ¬ ((is_some (unit_by_kind (kind_of line) line) ≡ true) × HasGoodFields line) → next_place between_units line ≡ None
no_unit line bad = (elim (next_place between_units line) as (λ next. next_place between_units line ≡ next → next_place between_units line ≡ None) [
  | None ↦ λ h. h
  | Some next ↦ λ h. let told = next_by_test between_units line next h in
      absurd (bad ((λ i. is_some (told.place_is i)), none_by_test (leftmost_bad_field line) told.sound))
]) refl

cause_between : (line : List ℕ) (kind : Kind) → HasKind kind line → kind_cause between_units line ≡ place_cause between_units line
cause_between line kind known = λ i. cond (is_none (known i)) bad_kind (place_cause between_units line)

not_may : (stage : Stage) (lines : Lines) → ¬ (may_end stage lines ≡ true) → may_end stage lines ≡ false
not_may = search rules

none_stage : (b : Bool) (o : Option Stage) → o ≡ None → cond b o None ≡ None
none_stage = search rules

module _ {K : Type 0} (keeps : Keeps K) (front : Front K) (records : Lines) (line : List ℕ) (has : HasRecords keeps front records) (is : IsRecord line) where
  kept_at : (stage : FileStage) → front.stage ≡ stage → IsKept keeps stage front.keeper has.place records
  kept_at stage here = subst (λ p. IsKept keeps p front.keeper has.place records) here has.kept_are

  -- if all units read so far are whole, a record with good fields that begins a unit may come next
  pub unit_goes_on : front.stage ≡ BetweenUnits → HasGoodFields line → is_some (unit_by_kind (kind_of line) line) ≡ true → GoesOnWith records line
  unit_goes_on place fields begins =
      let next = next_of_unit line begins in
      (next.0, place_over keeps front records line next.0 (over_of_between keeps front records has place) is fields next.1)

  -- after a complete schedule, a record with good fields that begins a unit may come next
  pub anew_goes_on : (opened : Opened) → front.stage ≡ InSchedule opened → IsWholeBy opened → HasGoodFields line
      → is_some (unit_by_kind (kind_of line) line) ≡ true → GoesOnWith records line
  anew_goes_on opened place whole fields begins =
      let told = kept_at (InSchedule opened) place in
      let next = next_of_unit line begins in (
        next.0,
        place_of_more records has.place line has.at
            ∙ ap (λ p. next_place p line) told.place_is
            ∙ next_behind told.stage told.lines line ((whole_iff told.lines told.stage told.stage_is).0 (whole told.lines told.progress_is))
            (anew_by_unit line begins)
            ∙ test_by_next between_units line next.0 (record { is = is; sound = test_by_none (leftmost_bad_field line) fields; place_is = next.1 }),
      )

  -- the reader can take a header with good fields as the first record
  pub header_added : (new : Front K) → front.stage ≡ BeforeHeader → HasKind header line → HasGoodFields line → new.header ≡ Some line
      → new.stage ≡ BetweenUnits → new.keeper ≡ front.keeper → HasRecords keeps new (records ++ line ∷ [])
  header_added new at kind fields same_header place made =
      let told = kept_at BeforeHeader at in
      let none : records ≡ [] = at_of_place records before_header (has.at ∙ ap Some told.0) in
      record {
        place = between_units;
        at = place_of_more records before_header line (has.at ∙ ap Some told.0)
            ∙ test_by_next before_header line between_units (search (rules, test_by_none));
        header_is = same_header ∙ ap (λ r. header_of (r ++ line ∷ [])) (sym none);
        kept_are = search rules;
      }

  -- ---- why a record can't come next

  -- a record that leads nowhere can't come next. If it isn't after the trailer, `kind_cause` gives the cause
  leads_nowhere : (place : Place) (cause : fault.FileCause) → has.place ≡ place → is_after_end place ≡ false → next_place place line ≡ None
      → kind_cause place line ≡ cause → IsNoNext records line cause
  leads_nowhere place cause here open_end nowhere same = record {
    place = place;
    at = has.at ∙ ap Some here;
    nowhere = nowhere;
    is = λ limit under. cause_of_record limit (length records) place line under open_end is ∙ same;
  }

  -- a line that doesn't begin with the identity of a kind of record can't come next
  pub no_kind : ¬ IsFile records → kind_of line ≡ None → IsNoNext records line bad_kind
  no_kind unended none = leads_nowhere has.place bad_kind refl (not_end has.place (λ end. unended ((file_iff_place records).1 (has.at ∙ ap Some end))))
      (none_of (is_record line && is_sound_at has.place line) _ (ap (λ k. place_by_kind has.place k line) none ∙ no_place has.place _))
      (λ i. cond (is_none (none i)) bad_kind (place_cause has.place line))

  -- before the header, a record that isn't a header can't come next
  pub no_header : (kind : Kind) → front.stage ≡ BeforeHeader → HasKind kind line → is_header_kind (Some kind) ≡ false → IsNoNext records line bad_place
  no_header kind at known other =
      let none : place_by_kind before_header (kind_of line) line ≡ None = search rules in
      leads_nowhere before_header bad_place (kept_at BeforeHeader at).0 refl (none_of (is_record line && has_good_fields line) _ none) (search rules)

  -- before the header, a header with a bad field can't come next
  pub bad_header : (column : ℕ) → front.stage ≡ BeforeHeader → HasKind header line → leftmost_bad_field line ≡ Some column
      → IsNoNext records line (bad_field column)
  bad_header column at known bad = leads_nowhere before_header (bad_field column) (kept_at BeforeHeader at).0 refl
      (λ i. cond (both_false (is_record line) _ (unsound line _ bad) i) (place_by_kind before_header (kind_of line) line) None)
      (search (rules, fault.third_midnight))

  -- between units, a record that begins no unit or has a bad field can't come next
  pub bad_between : (kind : Kind) → front.stage ≡ BetweenUnits → HasKind kind line
      → ¬ ((is_some (unit_by_kind (kind_of line) line) ≡ true) × HasGoodFields line) → IsNoNext records line (place_cause between_units line)
  bad_between kind at known bad =
      leads_nowhere between_units (place_cause between_units line) (kept_at BetweenUnits at).0 refl (no_unit line bad) (cause_between line kind known)

  -- after a complete schedule, a record can't come next if it has a bad field, or if it neither begins a unit nor is the trailer
  pub bad_behind : (opened : Opened) (kind : Kind) → front.stage ≡ InSchedule opened → IsWholeBy opened → HasKind kind line
      → follows_basic (kind_of line) ≡ false → ¬ ((is_some (unit_by_kind (kind_of line) line) ≡ true) × HasGoodFields line)
      → IsNoNext records line (place_cause between_units line)
  bad_behind opened kind at whole known stops bad =
      let told = kept_at (InSchedule opened) at in
      let may = (whole_iff told.lines told.stage told.stage_is).0 (whole told.lines told.progress_is) in
      search (rules, next_behind, no_unit, cause_behind_schedule, cause_of_record, cause_between, told.place_is)

  -- after lines that aren't a whole schedule, a record that begins a unit can't come next
  pub not_whole : (opened : Opened) (kind : Kind) → front.stage ≡ InSchedule opened
      → ((lines : Lines) → HasLines (progress_meant opened.progress) lines → ¬ IsSchedule lines) → HasKind kind line
      → follows_basic (kind_of line) ≡ false → IsNoNext records line bad_place
  not_whole opened kind at open_end known stops =
      let told = kept_at (InSchedule opened) at in
      let may = not_may told.stage told.lines (λ m. open_end told.lines told.progress_is ((whole_iff told.lines told.stage told.stage_is).1 m)) in
      let none = stage_stops told.stage (kind_of line) stops in
      let nowhere : next_stage told.stage told.lines line ≡ None = none_stage (is_record line && is_sound_next told.lines line)
      (stage_after told.stage (kind_of line)) none in
      search (rules, next_place_of_stage, cause_in_schedule)

  -- if a record is of a kind that comes within a schedule, and the schedule that is being read can't continue with it, the record can't come next
  pub bad_line : (wants : Type 0) (opened : Opened) (cause : Option fault.FileCause) → front.stage ≡ InSchedule opened
      → follows_basic (kind_of line) ≡ true → ((lines : Lines) → HasLines (progress_meant opened.progress) lines → IsScheduleCause lines line cause)
      → IsNoNextCause wants records line cause
  bad_line wants opened None at follow told = search (rules, opened_of)
  bad_line wants opened (Some cause) at follow told =
      let here = kept_at (InSchedule opened) at in
      let found : IsPlaceOf records (in_schedule here.stage here.lines) = has.at ∙ ap Some here.place_is in
      let of = inr (no_unit_by_kind (kind_of line) line follow) in
      record {
        place = in_schedule here.stage here.lines;
        at = found;
        nowhere =
            (fault_of_schedule (length records + 1) records here.stage here.lines line cause found (omega arith) is of (told here.lines here.progress_is)).0;
        is = λ limit under. (fault_of_schedule limit records here.stage here.lines line cause found under is of (told here.lines here.progress_is)).1;
      }

-- ---- results that are `Ok` or `Err`

-- if two facts hold whenever the result is `Ok`, so does whatever follows from both facts
pub on_ok : {A E P Q R : Type 0} (answer : Result A E) → OnOk answer P → OnOk answer Q → (P → Q → R) → OnOk answer R
on_ok = search rules

-- if a fact holds whenever the result is `Ok`, so does whatever follows from this fact
pub on_ok_one : {A E P R : Type 0} (answer : Result A E) → OnOk answer P → (P → R) → OnOk answer R
on_ok_one = search rules

-- ---- kinds of record in the code

-- of the code's kinds of record, only `Header` is a header in the definitions
pub other_kind : (kind : code.Kind) → ¬ (kind ≡ Header) → is_header_kind (Some (meaning kind)) ≡ false
other_kind = search rules

-- ---- the whole file

-- at the stage `AfterEnd`, the records are a file. The reader returns the header, the number of records and the keeper of this file
pub file_ended : {K : Type 0} (keeps : Keeps K) (front : Front K) (records : Lines) (ended : Ended K) → HasRecords keeps front records
    → front.stage ≡ AfterEnd → front.header ≡ Some ended.header → ended.records ≡ length records → ended.keeper ≡ front.keeper
    → IsFile records × IsEnded keeps records ended
file_ended keeps front records ended has at head counted same = (
  (ended_iff keeps front records AfterEnd at has).0 refl,
  search rules,
)
