-- The stage of a reader in a schedule determines which records may follow. It also determines
-- whether the records up to the stage are a schedule.
use Rattle.cif_laws.proofs.Common.{◌≡◌, ℕ, List, ◌∷◌, ◌⊎◌, true, ◌+◌, ◌++◌, inl, refl, Some, ap, inr, arith, ◌∙◌, ◌≤◌, rules, [], common_steps, Bool, false}
use Rattle.cif_laws.proofs.Common.{subst, append_assoc, cond, None, sym, eqb-true, append-nil, All, ◌<◌, Option, ◌&&◌, ◌↔◌, nat_le, ◌||◌, codes}
use Rattle.cif_laws.proofs.Common.{option_and_then, is_none, AllByRecursion, leb-true, le-leb, leb-false, All-from_recursion, recursion_from_All}
use Rattle.cif_laws.proofs.Common.{origin_location, HasKind, Lines, basic_schedule, IsRecord, Kind, kind_of, intermediate_location, terminating_location}
use Rattle.cif_laws.proofs.Common.{change_en_route, header, tiploc_insert, tiploc_amend, association, trailer, is_deletion, HasGoodFields, leftmost_bad_field}
use Rattle.cif_laws.proofs.Common.{times_along, fall_count, midnights, IsWithinJourney, IsJourney, AreExtraDetails, first_record, IsSchedule, BeginsSchedule}
use Rattle.docker_model.specs.records.Record.{extra_details}
use Rattle.docker_model.specs.records.Record.{tiploc_delete}
use Rattle.docker_model.specs.file.File.{IsSoundJourney, MayLackJourney}
use Rattle.cif_laws.specs.RecordTest.{is_record, has_good_fields}
use Rattle.cif_laws.specs.TimesSoFar.{falls_after, last_of}
use Rattle.cif_laws.specs.ScheduleStage.{in_journey, after_basic, Stage, after_details, after_journey, is_first_line}
use Rattle.cif_laws.specs.ScheduleStage.{is_sound_next, stage_after, next_stage, may_lack, may_end, stage_from, stage_of}
use Rattle.cif_laws.proofs.records.Builders.{no_text, hd, ti, ta, aa, bs, lo, li, lt, cr, zz, wide}
use Rattle.cif_laws.proofs.lists.AllOf.{all_append}
use Rattle.cif_laws.proofs.lists.BoolsAndOptions.{both, none_by_test, test_by_none, and_true, either, then_some, some_then, when_some, when_unsound}
use Rattle.cif_laws.proofs.records.RecordTests.{record_iff_test, no_times, no_times_before, midnights_step, last_time}
use Rattle.cif_laws.proofs.records.RecordTests.{no_fall_last, times_append, along_within, fewer_midnights}

-- ---- the structure of the records that have been read at each stage

-- the records are an origin, then any number of intermediate locations and changes en route
abbrev pub IsOpenJourney : Lines → Type 0
IsOpenJourney journey =
    (first : List ℕ) × (between : Lines) × (journey ≡ first ∷ between) × HasKind origin_location first × AllByRecursion IsWithinJourney between

-- the extra details and the journey, as far as they have been read, have the structure that belongs
-- to this stage
abbrev pub HasShape : Stage → Lines → Lines → Type 0
HasShape after_basic extra journey = (extra ≡ []) × (journey ≡ [])
HasShape after_details extra journey = AreExtraDetails extra × (journey ≡ [])
HasShape in_journey extra journey = AreExtraDetails extra × IsOpenJourney journey
HasShape after_journey extra journey = AreExtraDetails extra × IsJourney journey

-- the schedule is a deletion, or its journey is sound as far as it has been read
abbrev pub IsSound : List ℕ → Lines → Type 0
IsSound basic journey = (is_deletion basic ≡ true) ⊎ IsSoundJourney journey

-- the records are a schedule, complete or incomplete, and a reader of these records is at this
-- stage
pub record IsFront (stage : Stage) (lines : Lines) : Type 0 where
  pub basic : List ℕ
  pub extra : Lines
  pub journey : Lines
  pub whole : lines ≡ basic ∷ extra ++ journey
  pub records : AllByRecursion IsRecord lines
  pub kind : HasKind basic_schedule basic
  pub fields : HasGoodFields basic
  pub shape : HasShape stage extra journey
  pub sound : IsSound basic journey

-- at each stage at most one record of extra details has been read
pub details_of : (stage : Stage) (extra journey : Lines) → HasShape stage extra journey → AreExtraDetails extra
details_of = search rules

-- ---- the first record leads the reader to the stage `after_basic`

-- the record can be the first record of a schedule: it is a basic schedule with good fields
pub record IsFirstLine (line : List ℕ) : Type 0 where
  pub is : IsRecord line
  pub kind : HasKind basic_schedule line
  pub fields : HasGoodFields line

-- a record can be the first record of a schedule if and only if it passes the test `is_first_line`
pub first_line_iff_test : (line : List ℕ) → IsFirstLine line ↔ (is_first_line line ≡ true)
first_line_iff_test = search (rules, and_true, record_iff_test, test_by_none, both, none_by_test)

-- after a record that can be the first record of a schedule, a reader is at the stage `after_basic`
pub front_of_basic : (line : List ℕ) → IsFirstLine line → IsFront after_basic (line ∷ [])
front_of_basic = search rules

-- ---- a schedule passes midnight as often as its journey

-- the times of a schedule are the times of its journey
pub times_of_journey : (basic : List ℕ) (extra journey : Lines) → HasKind basic_schedule basic → AreExtraDetails extra
    → times_along (basic ∷ extra ++ journey) ≡ times_along journey
times_of_journey = search (rules, no_times_before, no_times)

-- a schedule passes midnight as often as its journey
pub midnights_of_journey : (basic : List ℕ) (extra journey : Lines) → HasKind basic_schedule basic → AreExtraDetails extra
    → midnights (basic ∷ extra ++ journey) ≡ midnights journey
midnights_of_journey = search (rules, times_of_journey)

-- ---- one more record leads the reader to the next stage

-- the next record has good fields, and the schedule passes midnight at most twice up to this record
pub record IsSoundNext (lines : Lines) (line : List ℕ) : Type 0 where
  pub fields : HasGoodFields line
  pub falls : midnights (lines ++ line ∷ []) ≤ 2

-- if a record passes the test `is_sound_next`, the schedule is a deletion or the record is sound
pub sound_next_by_test : (lines : Lines) (line : List ℕ) → is_sound_next lines line ≡ true → (is_deletion (first_record lines) ≡ true) ⊎ IsSoundNext lines line
sound_next_by_test = search (rules, either, both, none_by_test, leb-true)

-- if the schedule is a deletion or the record is sound, the record passes the test `is_sound_next`
pub test_by_sound_next : (lines : Lines) (line : List ℕ) → (is_deletion (first_record lines) ≡ true) ⊎ IsSoundNext lines line → is_sound_next lines line ≡ true
test_by_sound_next = search (rules, and_true, test_by_none, le-leb)

-- apart from the record itself, three values determine the result of `is_sound_next`: whether the
-- schedule is a deletion, how often it has passed midnight, and its last time
pub sound_next_by_count : (lines : Lines) (line : List ℕ)
    → is_sound_next lines line
    ≡ (is_deletion (first_record lines) || (has_good_fields line && nat_le (midnights lines + falls_after (last_of (times_along lines))
    (times_along (line ∷ []))) 2))
sound_next_by_count lines line = λ i. is_deletion (first_record lines) || (has_good_fields line && nat_le (midnights_step lines line i) 2)

-- a sound journey is still sound after a record that passes the test `is_sound_next` is appended
sound_more : (stage : Stage) (lines : Lines) (line : List ℕ) (front : IsFront stage lines) → is_sound_next lines line ≡ true
    → IsSound front.basic (front.journey ++ line ∷ [])
sound_more stage lines line front test = elim (sound_next_by_test lines _ test) [
  | inl deletion ↦ inl (subst (λ l. is_deletion (first_record l) ≡ true) front.whole deletion)
  | inr next ↦ elim front.sound [
    | inl deletion ↦ inl deletion
    | inr good ↦
        let whole = (λ i. front.whole i ++ line ∷ [])
        ∙ ap (λ rest. front.basic ∷ rest) (append_assoc front.extra front.journey (line ∷ [])) in
        let same = ap midnights whole ∙ midnights_of_journey front.basic _ (front.journey ++ line ∷ []) front.kind
        (details_of _ front.extra _ front.shape) in
        let falls : midnights (lines ++ line ∷ []) ≤ 2 = next.falls in
        inr (record {
          fields = All-from_recursion HasGoodFields (front.journey ++ line ∷ [])
              (all_append _ _ _ (recursion_from_All HasGoodFields front.journey good.fields) (next.fields, tt));
          falls = omega arith;
        })
  ]
]

-- what the test of the next line requires: the line is a record, the record is sound, and its kind
-- leads to the stage `next`
pub record IsNextLine (stage : Stage) (lines : Lines) (line : List ℕ) (next : Stage) : Type 0 where
  pub is : IsRecord line
  pub sound : is_sound_next lines line ≡ true
  pub stage_is : stage_after stage (kind_of line) ≡ Some next

-- if a record leads to a next stage, the record is sound, and its kind leads the reader to that
-- stage
pub next_line_by_test : (stage : Stage) (lines : Lines) (line : List ℕ) (next : Stage) → next_stage stage lines line ≡ Some next
    → IsNextLine stage lines line next
next_line_by_test stage lines line next is =
    let told = when_some (is_record line && is_sound_next lines line) (stage_after stage (kind_of line)) next is in
    let parts = both (is_record line) (is_sound_next lines line) told.0 in
    record { is = (record_iff_test line).1 parts.0; sound = parts.1; stage_is = told.1 }

-- if a record is sound, and its kind leads the reader to a next stage, the record itself leads to
-- that stage
pub test_by_next_line : (stage : Stage) (lines : Lines) (line : List ℕ) (next : Stage) → IsNextLine stage lines line next
    → next_stage stage lines line ≡ Some next
test_by_next_line = search (rules, and_true, record_iff_test)

-- an incomplete journey is still incomplete after an intermediate location or a change en route is
-- appended
journey_more : (journey : Lines) (line : List ℕ) → IsOpenJourney journey → IsWithinJourney line → IsOpenJourney (journey ++ line ∷ [])
journey_more journey line so_far is = (
  so_far.0,
  so_far.1 ++ line ∷ [],
  (λ i. so_far.2 i ++ line ∷ []),
  so_far.3,
  all_append _ _ _ so_far.4 (is, tt),
)

-- if the kind of a record leads the reader to a next stage, the schedule with this record appended
-- has the structure of that stage
shape_more : (stage : Stage) (kind : Kind) (next : Stage) (extra journey : Lines) (line : List ℕ) → HasShape stage extra journey → HasKind kind line
    → stage_after stage (Some kind) ≡ Some next
    → (HasShape next extra (journey ++ line ∷ [])) ⊎ (HasShape next (line ∷ []) journey × (extra ≡ []) × (journey ≡ []))
shape_more after_basic extra_details next extra journey line shape is after = search rules
shape_more after_basic origin_location next extra journey line shape is after = search rules
shape_more after_details origin_location next extra journey line shape is after = search rules
shape_more in_journey intermediate_location next extra journey line shape is after = search (rules, journey_more)
shape_more in_journey change_en_route next extra journey line shape is after = search (rules, journey_more)
shape_more in_journey terminating_location next extra journey line shape is after = grind (common_steps, arith)
shape_more _ _ next extra journey line shape is after = cc

-- a record of an unknown kind leads to no next stage
pub no_stage_of_none : (stage : Stage) → stage_after stage None ≡ None
no_stage_of_none = search rules

-- suppose that records have the structure of a stage. If one more record leads to a next stage,
-- then, with this record appended, the records have the structure of that next stage
pub next_front : (stage : Stage) (lines : Lines) (line : List ℕ) (next : Stage) → IsFront stage lines → next_stage stage lines line ≡ Some next
    → IsFront next (lines ++ line ∷ [])
next_front stage lines line next front test = by (kind_of line) refl (next_line_by_test stage lines line next test)
  where
    by : (kind : Option Kind) → kind_of line ≡ kind → IsNextLine stage lines line next → IsFront next (lines ++ line ∷ [])
    by None h told = let none : None ≡ Some next = sym (no_stage_of_none stage) ∙ ap (stage_after stage) (sym h) ∙ told.stage_is in cc
    by (Some kind) h told = elim (shape_more stage kind next front.extra front.journey line front.shape h (ap (stage_after stage) (sym h) ∙ told.stage_is)) [
      | inl shape ↦ search (rules, append_assoc, all_append, sound_more, front.basic, front.extra, front.journey, front.whole, front.records, told.is)
      | inr alone ↦ search (rules, all_append, front.basic, front.journey, front.whole, alone.1, alone.2, front.records)
    ]

-- ---- if records have the structure of a stage at which the schedule may end, they are a schedule

-- if a basic schedule passes the test `may_lack`, its journey may be missing
pub lack_by_test : (basic : List ℕ) → may_lack basic ≡ true → MayLackJourney basic
lack_by_test = search (rules, either, eqb-true)

-- if the journey of a basic schedule may be missing, the basic schedule passes the test `may_lack`
pub test_by_lack : (basic : List ℕ) → MayLackJourney basic → may_lack basic ≡ true
test_by_lack = search rules

-- at a stage at which the schedule may end, the journey is complete, or it is missing and may be
-- missing
journey_by : (stage : Stage) (basic : List ℕ) (extra journey : Lines) → HasShape stage extra journey → may_end stage (basic ∷ extra ++ journey) ≡ true
    → IsJourney journey ⊎ ((journey ≡ []) × MayLackJourney basic)
journey_by = search (rules, lack_by_test)

-- if records have the structure of a stage at which the schedule may end, they are a schedule
pub schedule_of_front : (stage : Stage) (lines : Lines) → IsFront stage lines → may_end stage lines ≡ true → IsSchedule lines
schedule_of_front stage lines front test = record {
  basic = front.basic;
  extra = front.extra;
  journey = front.journey;
  whole = front.whole;
  records = All-from_recursion IsRecord lines front.records;
  kind = front.kind;
  fields = front.fields;
  details = details_of stage front.extra front.journey front.shape;
  journey_or_none = journey_by stage _ _ _ front.shape (subst (λ l. may_end stage l ≡ true) front.whole test);
  sound = front.sound;
}

-- ---- for each kind of record, one good record

-- an example record of each kind, with good fields
pub witness : Kind → List ℕ
witness header = hd (codes "090624") (codes "2100") (codes "DFROC1A") (codes "DFROC1Z") (codes "U")
witness tiploc_insert = ti (codes "ASHFELD") (codes "ASHFIELD")
witness tiploc_amend = ta (codes "ASHFELD") (codes "ASHFIELD") no_text
witness tiploc_delete = wide 80 (codes "TDASHFELD")
witness association =
    aa (codes "N") (codes "C10001") (codes "C10002") (codes "240610") (codes "240614") (codes "1111100") (codes "NP") (codes "S")
    (codes "ASHFELD") no_text no_text (codes "P")
witness basic_schedule = bs (codes "N") (codes "C10001") (codes "240610") (codes "240614") (codes "1111100") (codes "1A10") (codes "P")
witness extra_details = wide 80 (codes "BX")
witness origin_location = lo (codes "ASHFELD") no_text (codes "2359H") no_text no_text no_text
witness intermediate_location = li (codes "CLAYDON") no_text no_text no_text no_text no_text no_text no_text no_text no_text
witness terminating_location = lt (codes "BRAYTON") no_text (codes "2359H") no_text no_text no_text
witness change_en_route = cr (codes "CLAYDON") no_text (codes "1A11")
witness trailer = zz

-- the record `witness kind` has the kind `kind`
pub witness_kind : (kind : Kind) → HasKind kind (witness kind)
unfolding witness
witness_kind = search rules

-- the record `witness kind` passes the test `is_record`
pub witness_record : (kind : Kind) → is_record (witness kind) ≡ true
unfolding witness
witness_record = search rules

-- the record `witness kind` has good fields
pub witness_fields : (kind : Kind) → HasGoodFields (witness kind)
unfolding witness
witness_fields = search rules

witness_times : (kind : Kind) → (times_along (witness kind ∷ []) ≡ []) ⊎ (times_along (witness kind ∷ []) ≡ last_time ∷ [])
unfolding witness
witness_times = search rules

-- after records with the structure of any stage, the record `witness kind` is sound
pub witness_sound : (stage : Stage) (lines : Lines) (kind : Kind) → IsFront stage lines → is_sound_next lines (witness kind) ≡ true
witness_sound stage lines kind front = test_by_sound_next lines (witness kind) (elim front.sound [
  | inl deletion ↦ inl (subst (λ l. is_deletion (first_record l) ≡ true) (sym front.whole) deletion)
  | inr good ↦ inr (record {
    fields = witness_fields kind;
    falls = elim (witness_times _) [
      | inl none ↦
          let whole = joined [] none ∙ ap fall_count (append-nil (times_along front.journey)) in
          let falls : midnights front.journey ≤ 2 = good.falls in omega arith
      | inr one ↦
          let whole = joined (last_time ∷ []) one ∙ no_fall_last (times_along front.journey)
          (along_within _ (recursion_from_All HasGoodFields front.journey good.fields)) in
          let falls : midnights front.journey ≤ 2 = good.falls in omega arith
    ];
  })
])
  where
    same : times_along lines ≡ times_along front.journey
    same = ap times_along front.whole ∙ times_of_journey front.basic _ front.journey front.kind (details_of _ front.extra _ front.shape)

    joined : (times : List ℕ) → times_along (witness kind ∷ []) ≡ times → midnights (lines ++ witness kind ∷ []) ≡ fall_count
        (times_along front.journey ++ times)
    joined times is = ap fall_count (times_append lines _ ∙ (λ i. same i ++ is i))

-- suppose that records have the structure of a stage, and that a kind leads to a next stage. With
-- the record `witness kind` appended, the records have the structure of that next stage
pub witness_front : (stage : Stage) (lines : Lines) (kind : Kind) (next : Stage) → IsFront stage lines → stage_after stage (Some kind) ≡ Some next
    → IsFront next (lines ++ witness kind ∷ [])
witness_front = search (rules, next_front, witness, test_by_next_line, record_iff_test, witness_record, witness_sound, witness_kind)

-- if records begin a schedule, each prefix of these records begins a schedule
pub begins_shorter : (front rest : Lines) → BeginsSchedule (front ++ rest) → BeginsSchedule front
begins_shorter front rest begins = (rest ++ begins.0, subst IsSchedule (append_assoc front rest begins.0) begins.1)

begins_ended : (lines : Lines) → IsFront after_journey lines → BeginsSchedule lines
begins_ended lines front = ([], subst IsSchedule (sym (append-nil lines)) (schedule_of_front _ _ front refl))

begins_inside : (lines : Lines) → IsFront in_journey lines → BeginsSchedule lines
begins_inside lines front = begins_shorter _ _ (begins_ended (lines ++ witness terminating_location ∷ []) (witness_front _ _ _ _ front refl))

-- records with the structure of a stage begin some schedule
pub front_begins : (stage : Stage) (lines : Lines) → IsFront stage lines → BeginsSchedule lines
front_begins in_journey lines front = begins_inside lines front
front_begins after_journey lines front = begins_ended lines front
front_begins stage lines front = begins_shorter _ _ (begins_inside (lines ++ witness origin_location ∷ []) (witness_front _ _ _ _ front refl))

-- ---- the stage to which records lead determines their structure

front_from : (rest : Lines) (stage : Stage) (done : Lines) (final : Stage) → IsFront stage done → stage_from stage done rest ≡ Some final
    → IsFront final (done ++ rest)
front_from [] stage done final front found = search (rules, append-nil)
front_from (line ∷ rest) stage done final front found =
    let step = then_some (λ next. stage_from next (done ++ line ∷ []) rest) (next_stage stage done line) final found in
    subst (IsFront final) (append_assoc done (line ∷ []) rest)
    (front_from rest step.0 (done ++ line ∷ []) final (next_front stage done line step.0 front step.1) step.2)

-- if records lead the reader to the stage `stage`, they have the structure of `stage`
pub front_of_stage : (lines : Lines) (stage : Stage) → stage_of lines ≡ Some stage → IsFront stage lines
front_of_stage [] stage found = cc
front_of_stage (basic ∷ rest) stage found =
    let told = when_some (is_first_line basic) (stage_from after_basic (basic ∷ []) rest) stage found in
    front_from rest after_basic (basic ∷ []) stage (front_of_basic basic ((first_line_iff_test basic).1 told.0)) told.1

stage_from_append : (front : Lines) (stage : Stage) (done : Lines) (middle : Stage) (more : Lines) → stage_from stage done front ≡ Some middle
    → stage_from stage done (front ++ more) ≡ stage_from middle (done ++ front) more
stage_from_append [] stage done middle more found = let same : stage ≡ middle = cc in λ i. stage_from (same i) (sym (append-nil done) i) more
stage_from_append (line ∷ front) stage done middle more found =
    let step = then_some (λ next. stage_from next (done ++ line ∷ []) front) (next_stage stage done line) middle found in
    (λ i. option_and_then (λ next. stage_from next (done ++ line ∷ []) (front ++ more)) (step.1 i))
    ∙ stage_from_append front step.0 (done ++ line ∷ []) middle more step.2
    ∙ (λ i. stage_from middle (append_assoc done (line ∷ []) front i) more)

-- the stage after two concatenated lists of records can be computed from the stage after the first
-- list
pub stage_of_append : (front : Lines) (stage : Stage) (more : Lines) → stage_of front ≡ Some stage → stage_of (front ++ more) ≡ stage_from stage front more
stage_of_append [] stage more found = cc
stage_of_append (basic ∷ rest) stage more found =
    let told = when_some (is_first_line basic) (stage_from after_basic (basic ∷ []) rest) stage found in
    (λ i. cond (told.0 i) (stage_from after_basic (basic ∷ []) (rest ++ more)) None) ∙ stage_from_append rest _ (basic ∷ []) _ more told.1

-- `next_stage` computes the stage after one more record
pub stage_of_more : (lines : Lines) (stage : Stage) (line : List ℕ) → stage_of lines ≡ Some stage → stage_of (lines ++ line ∷ []) ≡ next_stage stage lines line
stage_of_more lines stage line found = stage_of_append lines stage (line ∷ []) found ∙ some_then (next_stage stage lines line)

stage_from_front : (front rest : Lines) (stage : Stage) (done : Lines) (final : Stage) → stage_from stage done (front ++ rest) ≡ Some final
    → (middle : Stage) × (stage_from stage done front ≡ Some middle)
stage_from_front [] rest stage done final found = (stage, refl)
stage_from_front (line ∷ front) rest stage done final found =
    let step = then_some (λ next. stage_from next (done ++ line ∷ []) (front ++ rest)) (next_stage stage done line) final found in
    let more = stage_from_front front rest step.0 (done ++ line ∷ []) final step.2 in
    (more.0, (λ i. option_and_then (λ next. stage_from next (done ++ line ∷ []) front) (step.1 i)) ∙ more.1)

-- if records lead the reader to a stage, so does each prefix that isn't empty
pub stage_of_front : (basic : List ℕ) (front rest : Lines) (final : Stage) → stage_of (basic ∷ front ++ rest) ≡ Some final
    → (stage : Stage) × (stage_of (basic ∷ front) ≡ Some stage)
stage_of_front basic front rest final found =
    let told = when_some (is_first_line basic) (stage_from after_basic (basic ∷ []) (front ++ rest)) final found in
    let more = stage_from_front front rest after_basic (basic ∷ []) final told.1 in
    (more.0, (λ i. cond (told.0 i) (stage_from after_basic (basic ∷ []) front) None) ∙ more.1)

-- ---- the records of a schedule lead the reader to a stage

-- the stage to which these records lead a reader who is at this stage, judged only by their kinds
abbrev pub stage_along : Stage → Lines → Option Stage
stage_along stage [] = Some stage
stage_along stage (line ∷ rest) = option_and_then (λ next. stage_along next rest) (stage_after stage (kind_of line))

-- the records that follow are sound: the schedule is a deletion, or they have good fields and the
-- schedule passes midnight at most twice
abbrev IsSoundRest : List ℕ → Lines → Lines → Type 0
IsSoundRest basic done rest = (is_deletion basic ≡ true) ⊎ (AllByRecursion HasGoodFields rest × (midnights (basic ∷ done ++ rest) ≤ 2))

sound_head : (basic : List ℕ) (done : Lines) (line : List ℕ) (rest : Lines) → IsSoundRest basic done (line ∷ rest) → is_sound_next (basic ∷ done) line ≡ true
sound_head basic done line rest (inl deletion) = test_by_sound_next (basic ∷ done) line (inl deletion)
sound_head basic done line rest (inr good) =
    let fewer = subst (λ l. midnights (basic ∷ done ++ line ∷ []) ≤ midnights (basic ∷ l)) (append_assoc done (line ∷ []) rest)
    (fewer_midnights (basic ∷ done ++ line ∷ []) rest) in
    let all = good.1 in
    test_by_sound_next (basic ∷ done) line (inr (record { fields = good.0.0; falls = omega arith }))

sound_tail : (basic : List ℕ) (done : Lines) (line : List ℕ) (rest : Lines) → IsSoundRest basic done (line ∷ rest) → IsSoundRest basic (done ++ line ∷ []) rest
sound_tail = search (rules, append_assoc)

stage_from_along : (rest : Lines) (stage : Stage) (basic : List ℕ) (done : Lines) (final : Stage) → AllByRecursion IsRecord rest → IsSoundRest basic done rest
    → stage_along stage rest ≡ Some final
    → stage_from stage (basic ∷ done) rest ≡ Some final
stage_from_along [] stage basic done final records sound along = along
stage_from_along (line ∷ rest) stage basic done final records sound along =
    let step = then_some (λ next. stage_along next rest) (stage_after stage (kind_of line)) final along in
    let next = test_by_next_line stage (basic ∷ done) line step.0
    (record { is = records.0; sound = sound_head basic done line rest sound; stage_is = step.1 }) in
    (λ i. option_and_then (λ next. stage_from next (basic ∷ done ++ line ∷ []) rest) (next i))
    ∙ stage_from_along rest step.0 basic (done ++ line ∷ []) final records.1 (sound_tail basic done line rest sound) step.2

calls_along : (between : Lines) (last : List ℕ) → AllByRecursion IsWithinJourney between → HasKind terminating_location last
    → stage_along in_journey (between ++ last ∷ []) ≡ Some after_journey
calls_along [] last calls terminus = λ i. option_and_then (λ next. Some next) (stage_after in_journey (terminus i))
calls_along (line ∷ between) last calls terminus = grind (arith, (calls_along between last calls.1 terminus))

journey_along : (stage : Stage) (journey : Lines) → stage_after stage (Some origin_location) ≡ Some in_journey → IsJourney journey
    → stage_along stage journey ≡ Some after_journey
journey_along = search (rules, calls_along, recursion_from_All)

-- `stage` is the stage after the records, and at this stage the records may be a complete schedule
pub record IsWholeBy (lines : Lines) (stage : Stage) : Type 0 where
  pub found : stage_of lines ≡ Some stage
  pub may : may_end stage lines ≡ true

-- the kinds of the records after the first lead the reader to a stage at which the schedule may end
record LeadsToEnd (basic : List ℕ) (rest : Lines) : Type 0 where
  pub final : Stage
  pub along : stage_along after_basic rest ≡ Some final
  pub may : may_end final (basic ∷ rest) ≡ true

kinds_lead : (basic : List ℕ) (extra journey : Lines) → AreExtraDetails extra → IsJourney journey ⊎ ((journey ≡ []) × MayLackJourney basic)
    → LeadsToEnd basic (extra ++ journey)
kinds_lead basic extra journey (inl none) (inl is) = search (rules, journey_along)
kinds_lead basic extra journey (inl none) (inr lack) = search (rules, test_by_lack)
kinds_lead basic extra journey (inr one) (inl is) = search (rules, journey_along)
kinds_lead basic extra journey (inr one) (inr lack) = search (rules, test_by_lack)

-- the records of a schedule lead the reader to a stage at which the schedule may end
pub stage_of_schedule : (lines : Lines) → IsSchedule lines → (stage : Stage) × IsWholeBy lines stage
stage_of_schedule lines is = subst (λ l. (stage : Stage) × IsWholeBy l stage) (sym is.whole) (lead.final, record { found = found; may = lead.may })
  where
    records : AllByRecursion IsRecord (is.basic ∷ is.extra ++ is.journey)
    records = recursion_from_All IsRecord (is.basic ∷ is.extra ++ is.journey) (subst (All IsRecord) is.whole is.records)

    lead : LeadsToEnd is.basic (is.extra ++ is.journey)
    lead = kinds_lead _ is.extra _ is.details is.journey_or_none

    sound : IsSoundRest is.basic [] (is.extra ++ is.journey)
    sound = elim is.sound [ inl deletion ↦ inl deletion | inr good ↦ search (rules, all_append, recursion_from_All, midnights_of_journey) ]

    found : stage_of (is.basic ∷ is.extra ++ is.journey) ≡ Some lead.final
    found =
        (λ i. cond ((first_line_iff_test _).0 (record { is = records.0; kind = is.kind; fields = is.fields }) i)
        (stage_from after_basic (is.basic ∷ []) (is.extra ++ is.journey)) None)
        ∙ stage_from_along (is.extra ++ is.journey) _ is.basic _ lead.final records.1 sound lead.along

-- ---- the laws of stages

-- records are a schedule if and only if they lead the reader to a stage at which the schedule may
-- end
pub schedule_iff_stage : (lines : Lines) → IsSchedule lines ↔ ((stage : Stage) × IsWholeBy lines stage)
schedule_iff_stage lines = (stage_of_schedule lines, λ whole. schedule_of_front whole.0 lines (front_of_stage lines whole.0 whole.1.found) whole.1.may)

-- records begin a schedule if and only if they lead the reader to a stage
pub begins_iff_stage : (basic : List ℕ) (rest : Lines) → BeginsSchedule (basic ∷ rest) ↔ ((stage : Stage) × (stage_of (basic ∷ rest) ≡ Some stage))
begins_iff_stage basic rest = (
  λ begins. let whole = stage_of_schedule ((basic ∷ rest) ++ begins.0) begins.1 in stage_of_front basic rest begins.0 whole.0 whole.1.found,
  λ at. front_begins at.0 (basic ∷ rest) (front_of_stage (basic ∷ rest) at.0 at.1),
)

-- the empty list of records begins some schedule
pub no_lines_begin : BeginsSchedule []
no_lines_begin =
    begins_shorter [] (witness basic_schedule ∷ []) (front_begins after_basic (witness basic_schedule ∷ [])
    (search (rules, front_of_basic, witness, record_iff_test, witness_record, witness_kind, witness_fields)))

-- suppose that records lead the reader to a stage. With one more record they begin a schedule if
-- and only if this record leads to a next stage
pub begins_more_iff : (basic : List ℕ) (rest : Lines) (stage : Stage) (line : List ℕ) → stage_of (basic ∷ rest) ≡ Some stage
    → BeginsSchedule (basic ∷ rest ++ line ∷ []) ↔ ((next : Stage) × IsNextLine stage (basic ∷ rest) line next)
begins_more_iff basic rest stage line at = (
  λ begins.
      let found = (begins_iff_stage basic (rest ++ line ∷ [])).0 begins in
      (found.0, next_line_by_test stage (basic ∷ rest) line found.0 (sym (stage_of_more (basic ∷ rest) stage line at) ∙ found.1)),
  λ told.
      (begins_iff_stage basic (rest ++ line ∷ [])).1 (
        told.0,
        stage_of_more (basic ∷ rest) stage line at
            ∙ test_by_next_line stage (basic ∷ rest) line told.0 told.1,
      ),
)

-- ---- which kinds of record are allowed at a stage

-- if the kind of a record leads to no next stage, the record is out of place. No schedule has a
-- record of this kind after the records read so far
pub schedule_out_of_place : (basic : List ℕ) (rest : Lines) (stage : Stage) (line : List ℕ) → stage_of (basic ∷ rest) ≡ Some stage
    → stage_after stage (kind_of line) ≡ None
    → (next : List ℕ) → kind_of next ≡ kind_of line → ¬ BeginsSchedule (basic ∷ rest ++ next ∷ [])
schedule_out_of_place basic rest stage line at none next same begins =
    let told = (begins_more_iff basic rest stage next at).0 begins in
    let bad : None ≡ Some told.0 = sym none ∙ ap (stage_after stage) (sym same) ∙ told.1.stage_is in cc

-- if the kind of a record leads the reader to a next stage, the records read so far, followed by
-- `witness kind`, begin a schedule
pub schedule_in_place : (basic : List ℕ) (rest : Lines) (stage : Stage) (kind : Kind) (next : Stage) → stage_of (basic ∷ rest) ≡ Some stage
    → stage_after stage (Some kind) ≡ Some next
    → BeginsSchedule (basic ∷ rest ++ witness kind ∷ [])
schedule_in_place basic rest stage kind next at found = front_begins next _ (witness_front stage _ kind _ (front_of_stage (basic ∷ rest) _ at) found)

-- ---- the reason why a record leads to no next stage

-- the record's kind is out of place, a field is bad, or the schedule passes midnight for the third
-- time. In a deletion only the kind is checked
abbrev pub IsNoNextLine : Stage → Lines → List ℕ → Type 0
IsNoNextLine stage lines line =
    (stage_after stage (kind_of line) ≡ None)
    ⊎ (((at : ℕ) × (leftmost_bad_field line ≡ Some at) × (is_deletion (first_record lines) ≡ false))
    ⊎ (HasGoodFields line × (2 < midnights (lines ++ line ∷ [])) × (is_deletion (first_record lines) ≡ false)))

-- of a deletion, the leftmost bad field, and whether the schedule passes midnight at most twice,
-- one makes a record unsound
pub unsound_by : (deletion : Bool) (bad : Option ℕ) (few : Bool) → (deletion || (is_none bad && few)) ≡ false
    → ((at : ℕ) × (bad ≡ Some at) × (deletion ≡ false)) ⊎ ((bad ≡ None) × (few ≡ false) × (deletion ≡ false))
unsound_by = search rules

-- if a record leads to no next stage, its kind is out of place, a field is bad, or the schedule
-- passes midnight for the third time
pub no_next_line : (stage : Stage) (lines : Lines) (line : List ℕ) → IsRecord line → next_stage stage lines line ≡ None → IsNoNextLine stage lines line
no_next_line stage lines line is nowhere =
    (elim (stage_after stage (kind_of line)) as (λ after. stage_after stage (kind_of line) ≡ after → IsNoNextLine stage lines line) [
      | None ↦ λ h. inl h
      | Some next ↦ λ h. elim (unsound_by (is_deletion (first_record lines)) (leftmost_bad_field line) (nat_le (midnights (lines ++ line ∷ [])) 2)
          (when_unsound (is_record line) (is_sound_next lines line) _ next nowhere ((record_iff_test line).0 is) h)) [
            | inl field ↦ inr (inl field)
            | inr third ↦ inr (inr (third.0, leb-false (midnights (lines ++ line ∷ [])) 2 third.1, third.2))
          ]
    ]) refl
