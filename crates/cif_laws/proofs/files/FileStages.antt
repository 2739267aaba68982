-- The `Place` of a reader in a file determines which records may follow. It also determines whether
-- the records up to the `Place` are a file. Each record leads the reader from one `Place` to the
-- next.
use Rattle.cif_laws.proofs.Common.{◌≡◌, ℕ, List, ◌∷◌, ◌++◌, true, Some, refl, false, cond, None, ◌∙◌, ap, sym, rules, [], append-nil, inl, inr, subst}
use Rattle.cif_laws.proofs.Common.{append_assoc, ◌<◌, length, arith, length-append, ◌⊎◌, ◌&&◌, Option, is_some, option_and_then, ◌↔◌, ⊤, AllByRecursion}
use Rattle.cif_laws.proofs.Common.{flat_map, flat_map-append, All-from_recursion, recursion_from_All, header, IsRecord, HasKind, Lines, kind_of, Kind}
use Rattle.cif_laws.proofs.Common.{basic_schedule, trailer, terminating_location, origin_location, HasGoodFields, leftmost_bad_field, IsUnit, IsFile}
use Rattle.cif_laws.proofs.Common.{BeginsFile, follows_basic}
use Rattle.docker_model.specs.file.File.{IsSingleKind}
use Rattle.cif_laws.specs.RecordTest.{is_record, has_good_fields}
use Rattle.cif_laws.specs.ScheduleStage.{Stage, after_basic, may_end, in_journey, after_journey}
use Rattle.cif_laws.specs.ScheduleStage.{next_stage, stage_after, is_sound_next, stage_from, is_first_line, stage_of}
use Rattle.cif_laws.specs.FileStage.{in_schedule, Place, after_end, between_units, before_header, place_by_kind, is_sound_at, next_place}
use Rattle.cif_laws.specs.FileStage.{unit_by_kind, place_in, in_stage_or, is_header_kind, place_from, IsPlaceOf, place_at}
use Rattle.cif_laws.proofs.files.OneFileFault.{begins_front}
use Rattle.cif_laws.proofs.lists.AllOf.{all_append}
use Rattle.cif_laws.proofs.records.Columns.{fields_good}
use Rattle.cif_laws.proofs.lists.BoolsAndOptions.{both, and_true, none_by_test, test_by_none, then_some, some_then, when_some, cond_true}
use Rattle.cif_laws.proofs.lists.Decisions.{decided_along, some_decided}
use Rattle.cif_laws.proofs.files.GoodChanges.{StopsHere, units_stop}
use Rattle.cif_laws.proofs.records.RecordTests.{record_iff_test}
use Rattle.cif_laws.proofs.schedules.ScheduleStages.{IsFront, front_of_basic, schedule_of_front, next_front, test_by_next_line}
use Rattle.cif_laws.proofs.schedules.ScheduleStages.{witness, witness_kind, witness_record, witness_fields, witness_sound}
use Rattle.cif_laws.proofs.schedules.ScheduleStages.{next_line_by_test, first_line_iff_test, stage_of_schedule, stage_of_more}

-- ---- for each `Place`, the structure of the records that lead the reader to it

-- the records are a header and complete units
pub record IsBetween (records : Lines) : Type 0 where
  pub first : List ℕ
  pub units : List Lines
  pub whole : records ≡ first ∷ flat_map (λ unit. unit) units
  pub header_record : IsRecord first
  pub header_kind : HasKind header first
  pub header_fields : HasGoodFields first
  pub each : AllByRecursion IsUnit units

-- the records are a header, complete units, and then these records of a schedule
pub record IsWithin (stage : Stage) (lines records : Lines) : Type 0 where
  pub before : Lines
  pub whole : records ≡ before ++ lines
  pub between : IsBetween before
  pub front : IsFront stage lines

-- the records have the structure that belongs to this `Place`. They are no records, a header and
-- complete units, a header and complete units followed by the first records of a schedule, or a
-- whole file
abbrev pub IsAt : Place → Lines → Type 0
IsAt before_header records = records ≡ []
IsAt between_units records = IsBetween records
IsAt (in_schedule stage lines) records = IsWithin stage lines records
IsAt after_end records = IsFile records

-- ---- a record leads to a next `Place` if and only if it is sound and its kind leads to that
-- `Place`

-- the record is sound at this `Place`, and its kind leads the reader to the `Place` `next`
pub record IsNext (place : Place) (line : List ℕ) (next : Place) : Type 0 where
  pub is : IsRecord line
  pub sound : is_sound_at place line ≡ true
  pub place_is : place_by_kind place (kind_of line) line ≡ Some next

-- if a record leads the reader to a next `Place`, the record is sound, and its kind leads to that
-- `Place`
pub next_by_test : (place : Place) (line : List ℕ) (next : Place) → next_place place line ≡ Some next → IsNext place line next
next_by_test place line next found =
    let told = when_some (is_record line && is_sound_at place line) (place_by_kind place (kind_of line) line) next found in
    let parts = both (is_record line) (is_sound_at place line) told.0 in
    record { is = (record_iff_test line).1 parts.0; sound = parts.1; place_is = told.1 }

-- if a record is sound, and its kind leads to a next `Place`, the record leads the reader to that
-- `Place`
pub test_by_next : (place : Place) (line : List ℕ) (next : Place) → IsNext place line next → next_place place line ≡ Some next
test_by_next = search (rules, and_true, record_iff_test)

-- ---- after one more record, the records have the structure of the next `Place`

between_more : (records unit : Lines) → IsBetween records → IsUnit unit → IsBetween (records ++ unit)
between_more records unit between is = record {
  first = between.first;
  units = between.units ++ unit ∷ [];
  whole = search (rules, append-nil, flat_map-append, between.whole, between.first, between.units);
  header_record = between.header_record;
  header_kind = between.header_kind;
  header_fields = between.header_fields;
  each = all_append IsUnit between.units (unit ∷ []) between.each (is, tt);
}

-- if the records are a header and complete units, appending a good record of this kind gives
-- records with the structure of the next `Place`
unit_more : (records : Lines) (kind : Option Kind) (line : List ℕ) (next : Place) → IsBetween records → IsRecord line → kind_of line ≡ kind
    → HasGoodFields line → unit_by_kind kind line ≡ Some next
    → IsAt next (records ++ line ∷ [])
unit_more records (Some basic_schedule) line next between is kind fields found = search (rules, front_of_basic)
unit_more records (Some trailer) line next between is kind fields found =
    let same : after_end ≡ next = cc in
    subst (λ p. IsAt p (records ++ line ∷ [])) same (record {
      first = between.first;
      units = between.units;
      last = line;
      whole = λ i. between.whole i ++ line ∷ [];
      header_record = between.header_record;
      header_kind = between.header_kind;
      header_fields = between.header_fields;
      each = All-from_recursion IsUnit between.units between.each;
      trailer_record = is;
      trailer_kind = kind;
    })
unit_more records _ line next between is kind fields found =
    let same : between_units ≡ next = cc in
    subst (λ p. IsAt p (records ++ line ∷ [])) same (between_more records (line ∷ []) between (inl (line, refl, is, search rules, fields)))

-- records that end with a complete schedule are a header and complete units
within_ended : (stage : Stage) (lines records : Lines) → IsWithin stage lines records → may_end stage lines ≡ true → IsBetween records
within_ended stage lines records within may =
    subst IsBetween (sym within.whole) (between_more within.before lines within.between (inr (schedule_of_front stage lines within.front may)))

at_place_in : (stage : Stage) (lines records : Lines) → IsWithin stage lines records → IsAt (place_in stage lines) records
at_place_in after_journey lines records within = within_ended after_journey lines records within refl
at_place_in _ lines records within = within

within_more : (stage : Stage) (lines records : Lines) (line : List ℕ) (next : Stage) → IsWithin stage lines records → next_stage stage lines line ≡ Some next
    → IsWithin next (lines ++ line ∷ []) (records ++ line ∷ [])
within_more stage lines records line next within found = search (rules, append_assoc, next_front, within.before, within.whole, within.between, within.front)

header_told : (kind : Option Kind) (next : Place) → cond (is_header_kind kind) (Some between_units) None ≡ Some next
    → (kind ≡ Some header) × (between_units ≡ next)
header_told = search rules

-- a record after some records of a schedule continues the schedule, or the schedule may end and the
-- record begins a unit
next_told : (stage : Stage) (lines : Lines) (line : List ℕ) (next : Place) → IsNext (in_schedule stage lines) line next
    → ((after : Stage) × (next_stage stage lines line ≡ Some after) × (place_in after (lines ++ line ∷ []) ≡ next))
    ⊎ ((may_end stage lines ≡ true) × (has_good_fields line ≡ true) × (unit_by_kind (kind_of line) line ≡ Some next))
next_told stage lines line next told = by (stage_after stage (kind_of line)) refl told.sound told.place_is
  where
    by : (after : Option Stage) → stage_after stage (kind_of line) ≡ after → cond (is_some after) (is_sound_next lines line) (has_good_fields line) ≡ true
        → in_stage_or (lines ++ line ∷ []) after (cond (may_end stage lines) (unit_by_kind (kind_of line) line) None) ≡ Some next
        → ((after : Stage) × (next_stage stage lines line ≡ Some after) × (place_in after (lines ++ line ∷ []) ≡ next))
        ⊎ ((may_end stage lines ≡ true) × (has_good_fields line ≡ true) × (unit_by_kind (kind_of line) line ≡ Some next))
    by (Some after) h sound found =
        inl (after, test_by_next_line stage lines line after (record { is = told.is; sound = sound; stage_is = h }), cc)
    by None h good found = let parts = when_some (may_end stage lines) _ next found in inr (parts.0, good, parts.1)

-- suppose that records have the structure of a `Place`, and that one more record leads the reader
-- from this `Place` to a next `Place`. With that record, they have the structure of the next
-- `Place`
pub next_at : (place : Place) (records : Lines) (line : List ℕ) (next : Place) → IsAt place records → next_place place line ≡ Some next
    → IsAt next (records ++ line ∷ [])
next_at before_header records line next at found =
    let told = next_by_test before_header line next found in
    let kind = header_told (kind_of line) next told.place_is in
    search (rules, none_by_test, kind.0, kind.1, told.is, told.sound)
next_at between_units records line next at found =
    let told = next_by_test between_units line next found in
    unit_more records (kind_of line) line next at told.is refl (none_by_test (leftmost_bad_field line) told.sound) told.place_is
next_at (in_schedule stage lines) records line next at found =
    let told = next_by_test (in_schedule stage lines) line next found in
    elim (next_told stage lines line next told) [
      | inl on ↦ subst (λ p. IsAt p (records ++ line ∷ [])) on.2 (at_place_in on.0 _ _ (within_more stage lines records line on.0 at on.1))
      | inr over ↦ unit_more records (kind_of line) line next (within_ended stage lines records at over.0) told.is refl
          (none_by_test (leftmost_bad_field line) over.1) over.2
    ]
next_at after_end records line next at found = let told = (next_by_test after_end line next found).place_is in cc

at_from : (rest : Lines) (place : Place) (records : Lines) (final : Place) → IsAt place records → place_from place rest ≡ Some final
    → IsAt final (records ++ rest)
at_from [] place records final at found = search (rules, append-nil)
at_from (line ∷ rest) place records final at found =
    let step = then_some (λ next. place_from next rest) (next_place place line) final found in
    subst (IsAt final) (append_assoc records (line ∷ []) rest)
    (at_from rest step.0 (records ++ line ∷ []) final (next_at place records line step.0 at step.1) step.2)

-- records that lead the reader to a `Place` have the structure of that `Place`
pub at_of_place : (records : Lines) (place : Place) → IsPlaceOf records place → IsAt place records
at_of_place records place found = at_from records before_header [] place refl found

-- ---- records that lead the reader to a `Place` begin some file

witness_sound_at : (place : Place) (records : Lines) (kind : Kind) → IsAt place records → is_sound_at place (witness kind) ≡ true
witness_sound_at (in_schedule stage lines) records kind here =
    cond_true (is_some (stage_after stage (kind_of (witness kind)))) (is_sound_next lines (witness kind)) _ (witness_sound stage lines kind here.front)
    (test_by_none _ (witness_fields kind))
witness_sound_at _ records kind here = test_by_none (leftmost_bad_field (witness kind)) (witness_fields kind)

-- for each kind of record that is allowed at a `Place`, some good record of this kind leads the
-- reader to a next `Place`
pub witness_next : (place : Place) (records : Lines) (kind : Kind) (next : Place) → IsAt place records → place_by_kind place (Some kind)
    (witness kind) ≡ Some next → next_place place (witness kind) ≡ Some next
witness_next place records kind next at found = test_by_next place (witness kind) next (record {
  is = (record_iff_test (witness kind)).1 (witness_record kind);
  sound = witness_sound_at place records kind at;
  place_is = ap (λ k. place_by_kind place k (witness kind)) (witness_kind kind) ∙ found;
})

leads : (place : Place) (records : Lines) (kind : Kind) (next : Place) → IsAt place records → place_by_kind place (Some kind) (witness kind) ≡ Some next
    → IsAt next (records ++ witness kind ∷ [])
leads place records kind next at found = next_at place records (witness kind) next at (witness_next place records kind next at found)

file_begins : (records : Lines) → IsFile records → BeginsFile records
file_begins records is = ([], subst IsFile (sym (append-nil records)) is)

between_begins : (records : Lines) → IsBetween records → BeginsFile records
between_begins records at = begins_front _ (witness trailer ∷ []) (file_begins _ (leads between_units _ trailer _ at refl))

journey_begins : (lines records : Lines) → IsWithin in_journey lines records → BeginsFile records
journey_begins lines records at = begins_front _ (witness terminating_location ∷ [])
    (between_begins _ (leads (in_schedule in_journey lines) _ terminating_location _ at refl))

-- records with the structure of a `Place` begin some file
pub at_begins : (place : Place) (records : Lines) → IsAt place records → BeginsFile records
at_begins before_header records at =
    begins_front records (witness header ∷ []) (between_begins (records ++ witness header ∷ []) (leads before_header records header between_units at refl))
at_begins between_units records at = between_begins records at
at_begins (in_schedule in_journey lines) records at = journey_begins lines records at
at_begins (in_schedule after_journey lines) records at = between_begins records (within_ended after_journey lines records at refl)
at_begins (in_schedule stage lines) records at =
    begins_front records (witness origin_location ∷ []) (journey_begins (lines ++ witness origin_location ∷ []) (records ++ witness origin_location ∷ [])
    (leads (in_schedule stage lines) records origin_location (in_schedule in_journey (lines ++ witness origin_location ∷ [])) at refl))
at_begins after_end records at = file_begins records at

-- ---- the records of a whole file lead the reader to the `Place` after the trailer

place_from_append : (front : Lines) (place middle : Place) (more : Lines) → place_from place front ≡ Some middle
    → place_from place (front ++ more) ≡ place_from middle more
place_from_append [] place middle more found = let same : place ≡ middle = cc in ap (λ p. place_from p more) same
place_from_append (line ∷ front) place middle more found =
    let step = then_some (λ next. place_from next front) (next_place place line) middle found in
    (λ i. option_and_then (λ next. place_from next (front ++ more)) (step.1 i)) ∙ place_from_append front step.0 middle more step.2

-- if a record leads to a next stage of a schedule, it leads a reader of the file to the `Place`
-- with that stage. If the journey is then complete, the `Place` is between units
pub next_of_stage : (stage : Stage) (lines : Lines) (line : List ℕ) (next : Stage) → next_stage stage lines line ≡ Some next
    → next_place (in_schedule stage lines) line ≡ Some (place_in next (lines ++ line ∷ []))
next_of_stage stage lines line next found =
    let told = next_line_by_test stage lines line next found in
    search (rules, test_by_next, told.is, told.stage_is, told.sound)

-- like `next_of_stage`, for a reader at the `Place` that `place_in` gives for the stage
next_in : (stage : Stage) (lines : Lines) (line : List ℕ) (next : Stage) → next_stage stage lines line ≡ Some next
    → next_place (place_in stage lines) line ≡ Some (place_in next (lines ++ line ∷ []))
next_in after_journey lines line next found = let none : None ≡ Some next = (next_line_by_test after_journey lines line next found).stage_is in cc
next_in stage lines line next found = next_of_stage stage lines line next found

schedule_from : (rest : Lines) (stage : Stage) (done : Lines) (final : Stage) (more : Lines) → stage_from stage done rest ≡ Some final
    → place_from (place_in stage done) (rest ++ more) ≡ place_from (place_in final (done ++ rest)) more
schedule_from [] stage done final more found = let same : stage ≡ final = cc in λ i. place_from (place_in (same i) (sym (append-nil done) i)) more
schedule_from (line ∷ rest) stage done final more found =
    let step = then_some (λ next. stage_from next (done ++ line ∷ []) rest) (next_stage stage done line) final found in
    (λ i. option_and_then (λ next. place_from next (rest ++ more)) (next_in stage done line step.0 step.1 i))
    ∙ schedule_from rest step.0 (done ++ line ∷ []) final more step.2
    ∙ (λ i. place_from (place_in final (append_assoc done (line ∷ []) rest i)) more)

next_between : (line : List ℕ) (next : Place) → IsRecord line → HasGoodFields line → unit_by_kind (kind_of line) line ≡ Some next
    → next_place between_units line ≡ Some next
next_between = search (rules, test_by_next, test_by_none)

unit_from : (unit : Lines) (stage : Stage) (more : Lines) → stage_of unit ≡ Some stage → place_from between_units (unit ++ more) ≡ place_from
    (place_in stage unit) more
unit_from [] stage more found = cc
unit_from (basic ∷ rest) stage more found =
    let told = when_some (is_first_line basic) (stage_from after_basic (basic ∷ []) rest) stage found in
    let first = (first_line_iff_test basic).1 told.0 in
    (search (rules, next_between, first.is, first.fields, first.kind))
    ∙ schedule_from rest after_basic (basic ∷ []) stage more told.1

-- a record that can't follow a basic schedule leads to no next stage
pub stage_stops : (stage : Stage) (kind : Option Kind) → follows_basic kind ≡ false → stage_after stage kind ≡ None
stage_stops = search rules

-- suppose that the schedule may end at this stage. Then a record that can't follow a basic schedule
-- leads the reader to the same next `Place` as if the reader were between two units
pub next_behind : (stage : Stage) (lines : Lines) (line : List ℕ) → may_end stage lines ≡ true → follows_basic (kind_of line) ≡ false
    → next_place (in_schedule stage lines) line ≡ next_place between_units line
next_behind = search (rules, stage_stops)

behind : (stage : Stage) (lines rest : Lines) → may_end stage lines ≡ true → StopsHere rest → 0 < length rest
    → place_from (place_in stage lines) rest ≡ place_from between_units rest
behind stage lines [] may anew some = absurd (omega arith)
behind after_journey lines (line ∷ rest) may anew some = refl
behind in_journey lines (line ∷ rest) may anew some = cc
behind stage lines (line ∷ rest) may anew some = ap (option_and_then (λ next. place_from next rest)) (next_behind stage lines line may anew)

single_place : (line : List ℕ) → IsSingleKind line → unit_by_kind (kind_of line) line ≡ Some between_units
single_place = search rules

unit_passes : (unit rest : Lines) → IsUnit unit → StopsHere rest → 0 < length rest → place_from between_units (unit ++ rest) ≡ place_from between_units rest
unit_passes unit rest (inl single) anew some = ap (λ u. place_from between_units (u ++ rest)) single.1
    ∙ (λ i. option_and_then (λ next. place_from next rest) (next_between single.0 _ single.2 single.4 (single_place single.0 single.3) i))
unit_passes unit rest (inr schedule) anew some =
    let whole = stage_of_schedule _ schedule in
    unit_from unit _ rest whole.1.found ∙ behind _ unit _ whole.1.may anew some

units_pass : (units : List Lines) (last : List ℕ) → AllByRecursion IsUnit units → IsRecord last → HasKind trailer last
    → place_from between_units (flat_map (λ unit. unit) units ++ last ∷ []) ≡ Some after_end
units_pass [] last each is end = search (rules, next_between, fields_good)
units_pass (unit ∷ units) last each is end =
    let size = length-append (flat_map (λ u. u) units) (last ∷ []) in
    ap (place_from between_units) (append_assoc unit (flat_map (λ u. u) units) (last ∷ []))
    ∙ unit_passes unit (flat_map (λ u. u) units ++ last ∷ []) each.0 (units_stop units last each.1 end) (omega arith)
    ∙ units_pass units last each.1 is end

-- the records of a whole file lead the reader to `after_end`
pub place_of_file : (file : Lines) → IsFile file → IsPlaceOf file after_end
place_of_file file is = ap place_at is.whole
    ∙ (λ i. option_and_then (λ next. place_from next (flat_map (λ u. u) is.units ++ is.last ∷ [])) (test_by_next before_header _ between_units (record {
      is = is.header_record;
      sound = test_by_none _ is.header_fields;
      place_is = λ j. cond (is_header_kind (is.header_kind j)) (Some between_units) None;
    }) i))
    ∙ units_pass is.units _ (recursion_from_All IsUnit is.units is.each) is.trailer_record is.trailer_kind

-- ---- the laws of `Place`

place_from_front : (front rest : Lines) (place final : Place) → place_from place (front ++ rest) ≡ Some final
    → (middle : Place) × (place_from place front ≡ Some middle)
place_from_front [] rest place final found = (place, refl)
place_from_front (line ∷ front) rest place final found =
    let step = then_some (λ next. place_from next (front ++ rest)) (next_place place line) final found in
    let more = place_from_front front rest step.0 final step.2 in
    (more.0, (λ i. option_and_then (λ next. place_from next front) (step.1 i)) ∙ more.1)

-- records begin a file if and only if they lead the reader to a `Place`
pub begins_iff_place : (records : Lines) → BeginsFile records ↔ ((place : Place) × IsPlaceOf records place)
begins_iff_place records = (
  λ begins. place_from_front records _ before_header _ (place_of_file (records ++ begins.0) begins.1),
  λ at. at_begins _ records (at_of_place _ at.0 at.1),
)

-- records are a file if and only if they lead the reader to `after_end`
pub file_iff_place : (records : Lines) → IsFile records ↔ IsPlaceOf records after_end
file_iff_place records = (place_of_file records, at_of_place records after_end)

-- records lead the reader to at most one `Place`
pub one_place : (records : Lines) (first second : Place) → IsPlaceOf records first → IsPlaceOf records second → first ≡ second
one_place records first second one two = let both_are : Some first ≡ Some second = sym one ∙ two in cc

-- after records that lead the reader to a `Place`, `next_place` computes the `Place` to which one
-- more record leads
pub place_of_more : (records : Lines) (place : Place) (line : List ℕ) → IsPlaceOf records place → place_at (records ++ line ∷ []) ≡ next_place place line
place_of_more records place line found = place_from_append records before_header place (line ∷ []) found ∙ some_then (next_place place line)

-- suppose that records lead the reader to a `Place`. With one more record they begin a file if and
-- only if this record leads the reader from that `Place` to a next `Place`
pub begins_next_iff : (records : Lines) (place : Place) (line : List ℕ) → IsPlaceOf records place → BeginsFile (records ++ line ∷ [])
    ↔ ((next : Place) × IsNext place line next)
begins_next_iff records place line found = (
  λ begins. let at = (begins_iff_place (records ++ line ∷ [])).0 begins in
      (at.0, next_by_test place line at.0 (sym (place_of_more records place line found) ∙ at.1)),
  λ told. (begins_iff_place (records ++ line ∷ [])).1 (told.0, place_of_more records place line found ∙ test_by_next place line told.0 told.1),
)

-- it is decidable whether records begin a file
pub begins_file_or_not : (records : Lines) → BeginsFile records ⊎ ¬ BeginsFile records
begins_file_or_not records = decided_along (begins_iff_place records).1 (begins_iff_place records).0 (some_decided (place_at records))

-- ---- a `Place` inside a schedule has the stage of the schedule's records

-- if the `Place` is inside a schedule, its stage is the stage of that schedule's records, and the
-- journey isn't complete
abbrev pub IsTracked : Place → Type 0
IsTracked (in_schedule stage lines) = (stage_of lines ≡ Some stage) × ¬ (stage ≡ after_journey)
IsTracked _ = ⊤

tracked_unit : (kind : Option Kind) (line : List ℕ) (next : Place) → kind_of line ≡ kind → IsRecord line → has_good_fields line ≡ true
    → unit_by_kind kind line ≡ Some next → IsTracked next
tracked_unit = search (rules, first_line_iff_test, none_by_test)

tracked_in : (stage : Stage) (lines : Lines) → stage_of lines ≡ Some stage → IsTracked (place_in stage lines)
tracked_in = search rules

next_tracked : (place : Place) (line : List ℕ) (next : Place) → IsTracked place → IsNext place line next → IsTracked next
next_tracked before_header line next tracked told = search rules
next_tracked between_units line next tracked told = tracked_unit (kind_of line) line next refl told.is told.sound told.place_is
next_tracked (in_schedule stage lines) line next tracked told = elim (next_told stage lines line next told) [
  | inl on ↦ subst IsTracked on.2 (tracked_in on.0 (lines ++ line ∷ []) (stage_of_more lines stage line tracked.0 ∙ on.1))
  | inr over ↦ tracked_unit (kind_of line) line next refl told.is over.1 over.2
]
next_tracked after_end line next tracked told = let none : None ≡ Some next = told.place_is in cc

tracked_from : (rest : Lines) (place final : Place) → IsTracked place → place_from place rest ≡ Some final → IsTracked final
tracked_from [] place final tracked found = let same : place ≡ final = cc in subst IsTracked same tracked
tracked_from (line ∷ rest) place final tracked found =
    let step = then_some (λ next. place_from next rest) (next_place place line) final found in
    tracked_from rest step.0 final (next_tracked place line step.0 tracked (next_by_test place line step.0 step.1)) step.2

-- if records lead the reader to a `Place` inside a schedule, the stage of the `Place` is the stage
-- of that schedule's records
pub tracked_place : (records : Lines) (place : Place) → IsPlaceOf records place → IsTracked place
tracked_place records place found = tracked_from records before_header place tt found
