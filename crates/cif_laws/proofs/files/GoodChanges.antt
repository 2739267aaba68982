-- The changes of a file within the limit have well-formed keys and bodies, and the records of a
-- schedule's body are a schedule.
use Rattle.cif_laws.proofs.Common.{◌≡◌, ℕ, ◌+◌, ◌-◌, ◌^◌, ◌<◌, inl, inr, List, ◌∷◌, ◌++◌, length, take, All, subst, rules, [], refl, ap, sym, ◌∙◌, Bool, true}
use Rattle.cif_laws.proofs.Common.{false, cond, Some, arith, append_assoc, length-append, Option, ⊤, ◌||◌, ◌==◌, AllByRecursion, flat_map, prefix_len}
use Rattle.cif_laws.proofs.Common.{take-append_seam, All-from_recursion, recursion_from_All, Kind, tiploc_insert, tiploc_amend, association, basic_schedule}
use Rattle.cif_laws.proofs.Common.{trailer, IsRecord, HasKind, kind_of, columns, column, is_date, is_blank, HasGoodFields, is_deletion, is_stp_letter}
use Rattle.cif_laws.proofs.Common.{is_stp_indicator, is_tiploc, is_transaction, checked, as_new, IsTiploc, IsSchedule, IsJourney, IsWithinJourney, IsUnit}
use Rattle.cif_laws.proofs.Common.{follows_basic, Key, Act, Change, schedule_named, schedule_rest, acts_by_kind, changes_of_record, changes_from, op_of}
use Rattle.cif_laws.proofs.Common.{IsGoodKey, IsOpOf}
use Rattle.docker_model.specs.file.File.{IsSingleKind}
use Rattle.docker_model.specs.file.Change.{association_named}
use Rattle.docker_model.specs.file.Change.{keeps_code}
use Rattle.cif_laws.proofs.lists.AllOf.{all_append, all_weaker, all_map}
use Rattle.cif_laws.proofs.records.Columns.{IsGoodIn, good_fields, fields_good, text_in, one_column, printable_column}
use Rattle.cif_laws.proofs.records.Columns.{new_columns, new_column, new_kind, new_record, is_new}
use Rattle.cif_laws.proofs.records.GoodFields.{date_is_day, tiploc_starts, new_tiploc_starts}

-- the key is well formed, and the act's op is well formed and belongs to the key
abbrev pub IsGoodAct : Key × Act → Type 0
IsGoodAct act = IsGoodKey act.0 × IsOpOf act.0 (op_of act.1)

-- ---- the key of a record with good fields is well formed

letter_at : (line : List ℕ) → is_stp_indicator (columns 80 80 line) ≡ true → is_stp_letter (column 80 line) ≡ true
letter_at line is = ap is_stp_letter (sym (one_column line 80 (omega arith))) ∙ is

tiploc_at : (line : List ℕ) → IsRecord line → is_tiploc (columns 3 9 line) ≡ true → IsTiploc (columns 3 9 line)
tiploc_at line is good = (text_in line 3 9 is (omega arith) (omega arith), tiploc_starts (columns 3 9 line) good)

-- the checked fields of an association's key are good: the first date, the timing point and the STP
-- indicator
record AssociationFields (line : List ℕ) : Type 0 where
  pub start : is_date (columns 16 21 line) ≡ true
  pub location : is_tiploc (columns 38 44 line) ≡ true
  pub indicator : is_stp_indicator (columns 80 80 line) ≡ true

association_fields : (line : List ℕ) → HasKind association line → HasGoodFields line → AssociationFields line
association_fields line kind good = (elim (is_deletion line) as (λ b. is_deletion line ≡ b → AssociationFields line) [
  | true ↦ λ h. let found = rw h at (good_fields association line kind good) in record { start = found.1.0; location = found.1.1.0; indicator = found.1.1.1.0 }
  | false ↦ λ h. let found = rw h at (good_fields association line kind good) in
      record { start = found.1.0; location = found.1.1.1.1.0; indicator = found.1.1.1.1.1.0 }
]) refl

association_key_good : (line : List ℕ) → IsRecord line → HasKind association line → HasGoodFields line → IsGoodKey (association_named line)
association_key_good line is kind good =
    let fields = association_fields line kind good in
    record {
      base = text_in line 4 9 is (omega arith) (omega arith);
      associated = text_in line 10 15 is (omega arith) (omega arith);
      start = date_is_day (columns 16 21 line) fields.start;
      location = (text_in line 38 44 is (omega arith) (omega arith), tiploc_starts (columns 38 44 line) fields.location);
      suffix = printable_column line 45 is (omega arith);
      indicator = letter_at line fields.indicator;
    }

record BasicFields (line : List ℕ) : Type 0 where
  pub start : is_date (columns 10 15 line) ≡ true
  pub indicator : is_stp_indicator (columns 80 80 line) ≡ true

basic_fields : (line : List ℕ) → HasKind basic_schedule line → HasGoodFields line → BasicFields line
basic_fields line kind good = (elim (is_deletion line) as (λ b. is_deletion line ≡ b → BasicFields line) [
  | true ↦ λ h. let found = rw h at (good_fields basic_schedule line kind good) in record { start = found.1.0; indicator = found.1.1.0 }
  | false ↦ λ h. let found = rw h at (good_fields basic_schedule line kind good) in record { start = found.1.0; indicator = found.1.1.1.1.0 }
]) refl

schedule_key_good : (line : List ℕ) → IsRecord line → HasKind basic_schedule line → HasGoodFields line → IsGoodKey (schedule_named line)
schedule_key_good line is kind good =
    let fields = basic_fields line kind good in
    record {
      uid = text_in line 4 9 is (omega arith) (omega arith);
      runs_from = date_is_day (columns 10 15 line) fields.start;
      indicator = letter_at line fields.indicator;
    }

-- ---- setting the transaction of a record to N preserves its key and its good fields

same_association : (line : List ℕ) → association_named (as_new line) ≡ association_named line
same_association = search (rules, new_columns, new_column)

-- setting the transaction to N preserves the key of a basic schedule
pub same_schedule : (line : List ℕ) → schedule_named (as_new line) ≡ schedule_named line
same_schedule = search (rules, new_columns, new_column)

no_deletion : (line : List ℕ) → IsRecord line → is_deletion (as_new line) ≡ false
no_deletion line is = λ i. is_new line is i == 68

still_good : (line : List ℕ) (first last : ℕ) (test : List ℕ → Bool) → 3 < first → test (columns first last line) ≡ true
    → test (columns first last (as_new line)) ≡ true
still_good line first last test behind good = ap test (new_columns line first last behind) ∙ good

transaction_good : (line : List ℕ) → IsRecord line → IsGoodIn (as_new line) (checked 3 3 is_transaction)
transaction_good line is = ap (λ b. (b == 78) || (b == 68) || (b == 82)) (one_column (as_new line) 3 (omega arith) ∙ is_new line is)

-- setting the transaction to N preserves the good fields of an association that isn't a deletion
pub new_association_fields : (line : List ℕ) → IsRecord line → HasKind association line → HasGoodFields line → is_deletion line ≡ false
    → HasGoodFields (as_new line)
new_association_fields line is kind good kept =
    let all = good_fields association line kind good in
    fields_good association (as_new line) (new_kind line ∙ kind) (search (rules, no_deletion, transaction_good, still_good))

-- setting the transaction to N preserves the good fields of a basic schedule that isn't a deletion
pub new_basic_fields : (line : List ℕ) → IsRecord line → HasKind basic_schedule line → HasGoodFields line → is_deletion line ≡ false
    → HasGoodFields (as_new line)
new_basic_fields line is kind good kept =
    let all = good_fields basic_schedule line kind good in
    fields_good basic_schedule (as_new line) (new_kind line ∙ kind) (search (rules, no_deletion, transaction_good, still_good))

-- ---- the changes of a single record are well formed

kept_or : (a b : Bool) → (a || b) ≡ false → a ≡ false
kept_or = search rules

single_acts : (line : List ℕ) (following : List (List ℕ)) → IsRecord line → IsSingleKind line → HasGoodFields line
    → AllByRecursion IsGoodAct (acts_by_kind (kind_of line) line following)
single_acts line following is (inl kind) good =
    rw kind ((tiploc_at line is (good_fields tiploc_insert line kind good).0, text_in line 10 72 is (omega arith) (omega arith)), tt)
single_acts line following is (inr (inl kind)) good =
    let fields = good_fields tiploc_amend line kind good in
    rw kind ((elim (keeps_code line) as (λ b. keeps_code line ≡ b → AllByRecursion IsGoodAct (acts_by_kind (Some tiploc_amend) line following)) [
      | true ↦ λ h. rw h ((tiploc_at line is fields.0, text_in line 10 72 is (omega arith) (omega arith)), tt)
      | false ↦ λ h. rw h (
        (tiploc_at line is fields.0, tt),
        (
          (
            (
              text_in line 73 79 is (omega arith) (omega arith),
              new_tiploc_starts (columns 73 79 line) fields.1.0
                  (kept_or (is_blank (columns 73 79 line)) _ h),
            ),
            text_in line 10 72 is (omega arith) (omega arith),
          ),
          tt,
        ),
      )
    ]) refl)
single_acts line following is (inr (inr (inl kind))) good = search (rules, good_fields, tiploc_at)
single_acts line following is (inr (inr (inr kind))) good =
    rw kind ((elim (is_deletion line) as (λ b. is_deletion line ≡ b → AllByRecursion IsGoodAct (acts_by_kind (Some association) line following)) [
      | true ↦ λ h. rw h ((association_key_good line is kind good, tt), tt)
      | false ↦ λ h. search (rules, association_key_good, new_record, new_kind, new_association_fields, is_new, same_association)
    ]) refl)

-- ---- the changes of a schedule are well formed

-- a schedule that isn't a deletion is still a schedule after its transaction is set to N
pub new_is_schedule : (lines : List (List ℕ)) (schedule : IsSchedule lines) → is_deletion schedule.basic ≡ false
    → IsSchedule (as_new schedule.basic ∷ schedule.extra ++ schedule.journey)
new_is_schedule lines schedule kept =
    let records = recursion_from_All IsRecord (schedule.basic ∷ schedule.extra ++ schedule.journey) (subst (All IsRecord) schedule.whole schedule.records) in
    record {
      basic = as_new schedule.basic;
      extra = schedule.extra;
      journey = schedule.journey;
      whole = refl;
      records = All-from_recursion IsRecord (as_new schedule.basic ∷ schedule.extra ++ schedule.journey) (new_record schedule.basic records.0, records.1);
      kind = new_kind schedule.basic ∙ schedule.kind;
      fields = new_basic_fields schedule.basic records.0 schedule.kind schedule.fields kept;
      details = schedule.details;
      journey_or_none = search (rules, new_column);
      sound = elim schedule.sound [ inl deletion ↦ let bad : false ≡ true = sym kept ∙ deletion in cc | inr good ↦ inr good ];
    }

-- the schedule that precedes these records is complete: there are no records, or the first of them
-- can't follow a basic schedule
abbrev pub StopsHere : List (List ℕ) → Type 0
StopsHere [] = ⊤
StopsHere (line ∷ lines) = follows_basic (kind_of line) ≡ false

-- the record can follow a basic schedule within a schedule
abbrev pub Follows : List ℕ → Type 0
Follows line = follows_basic (kind_of line) ≡ true

prefix_is : (lines rest : List (List ℕ)) → AllByRecursion Follows lines → StopsHere rest → prefix_len (λ line. follows_basic (kind_of line))
    (lines ++ rest) ≡ length lines
prefix_is [] [] all stops = refl
prefix_is [] (line ∷ rest) all stops = λ i. cond (stops i) (1 + prefix_len (λ line. follows_basic (kind_of line)) rest) 0
prefix_is (line ∷ lines) rest all stops =
    (λ i. cond (all.0 i) (1 + prefix_len (λ line. follows_basic (kind_of line)) (lines ++ rest)) 0) ∙ (let e = prefix_is lines rest all.1 stops in omega arith)

-- suppose that all records of a list can follow a basic schedule, and that the first record after
-- the list can't. Then the list is the rest of the schedule (`schedule_rest`)
pub rest_is : (lines rest : List (List ℕ)) → AllByRecursion Follows lines → StopsHere rest → schedule_rest (lines ++ rest) ≡ lines
rest_is lines rest all stops = ap (λ n. take n (lines ++ rest)) (prefix_is lines rest all stops) ∙ take-append_seam lines rest

-- if records of this kind can follow a basic schedule, this record can
pub follows_by : (kind : Kind) (line : List ℕ) → HasKind kind line → follows_basic (Some kind) ≡ true → Follows line
follows_by kind line is follows = ap follows_basic is ∙ follows

-- each record of a journey can follow a basic schedule
pub journey_follows : (lines : List (List ℕ)) → IsJourney lines → AllByRecursion Follows lines
journey_follows lines journey = subst (AllByRecursion Follows) (sym journey.whole) (
  follows_by _ journey.first journey.origin refl,
  all_append _ journey.between _ (all_weaker IsWithinJourney _ within journey.between (recursion_from_All IsWithinJourney journey.between journey.calls))
      (follows_by _ journey.last journey.terminus refl, tt),
)
  where
    within : (line : List ℕ) → IsWithinJourney line → Follows line
    within line (inl call) = follows_by _ line call refl
    within line (inr change) = follows_by _ line change refl

-- each record of a schedule after the first can follow a basic schedule
pub schedule_follows : (lines : List (List ℕ)) (schedule : IsSchedule lines) → AllByRecursion Follows (schedule.extra ++ schedule.journey)
schedule_follows = search (rules, all_append, follows_by, journey_follows)

schedule_acts : (lines : List (List ℕ)) (schedule : IsSchedule lines) (rest : List (List ℕ)) → StopsHere rest
    → length (schedule.extra ++ schedule.journey) + 1 < 2 ^ 32 - 1
    → AllByRecursion IsGoodAct (acts_by_kind (kind_of schedule.basic) schedule.basic ((schedule.extra ++ schedule.journey) ++ rest))
schedule_acts lines schedule rest stops few =
    subst (λ k. AllByRecursion IsGoodAct (acts_by_kind k schedule.basic ((schedule.extra ++ schedule.journey) ++ rest))) (sym schedule.kind)
    (by (is_deletion schedule.basic) refl)
  where
    first_is : IsRecord schedule.basic
    first_is = (recursion_from_All IsRecord (schedule.basic ∷ schedule.extra ++ schedule.journey) (subst (All IsRecord) schedule.whole schedule.records)).0

    key_is : IsGoodKey (schedule_named schedule.basic)
    key_is = schedule_key_good schedule.basic first_is schedule.kind schedule.fields

    by : (b : Bool) → is_deletion schedule.basic ≡ b
        → AllByRecursion IsGoodAct (acts_by_kind (Some basic_schedule) schedule.basic ((schedule.extra ++ schedule.journey) ++ rest))
    by true h = rw h ((key_is, tt), tt)
    by false h = rw (h, rest_is _ rest (schedule_follows _ schedule) stops) (
      (
        key_is,
        record {
          schedule = new_is_schedule _ schedule h;
          few = omega arith;
          new = is_new _ first_is;
          key_is = same_schedule schedule.basic;
        },
      ),
      tt,
    )

-- ---- the changes of a file are well formed

-- the key of the change and the body that the change puts are well formed
abbrev pub IsGoodChange : Change → Type 0
IsGoodChange change = IsGoodAct (change.key, change.act)

record_changes : (n : ℕ) (line : List ℕ) (following : List (List ℕ)) → AllByRecursion IsGoodAct (acts_by_kind (kind_of line) line following)
    → AllByRecursion IsGoodChange (changes_of_record n line following)
record_changes = search (rules, all_map)

no_acts : (kind : Option Kind) (line : List ℕ) (following : List (List ℕ)) → follows_basic kind ≡ true
    → AllByRecursion IsGoodAct (acts_by_kind kind line following)
no_acts = search rules

-- each change of these records is well formed
abbrev pub AllChangesGood : List (List ℕ) → Type 0
AllChangesGood lines = (n : ℕ) → AllByRecursion IsGoodChange (changes_from n lines)

behind_schedule : (lines rest : List (List ℕ)) → AllByRecursion Follows lines → AllChangesGood rest → AllChangesGood (lines ++ rest)
behind_schedule [] rest all good = good
behind_schedule (line ∷ lines) rest all good = λ n.
    all_append IsGoodChange (changes_of_record n line (lines ++ rest)) (changes_from (n + 1) (lines ++ rest))
    (record_changes n line (lines ++ rest) (no_acts (kind_of line) line (lines ++ rest) all.0)) (behind_schedule lines rest all.1 good (n + 1))

unit_changes : (unit rest : List (List ℕ)) → IsUnit unit → StopsHere rest → length unit < 2 ^ 32 - 1 → AllChangesGood rest → AllChangesGood (unit ++ rest)
unit_changes unit rest (inl single) stops few good = search (rules, all_append, record_changes, single_acts)
unit_changes unit rest (inr schedule) stops few good =
    let size = ap length schedule.whole in
    subst (λ u. AllChangesGood (u ++ rest)) (sym schedule.whole) (λ n.
    all_append IsGoodChange (changes_of_record n schedule.basic ((schedule.extra ++ schedule.journey) ++ rest))
    (changes_from (n + 1) ((schedule.extra ++ schedule.journey) ++ rest))
    (record_changes n schedule.basic ((schedule.extra ++ schedule.journey) ++ rest) (schedule_acts unit schedule rest stops (omega arith)))
    (behind_schedule (schedule.extra ++ schedule.journey) rest (schedule_follows unit schedule) good (n + 1)))

stops_by : (kind : Kind) (line : List ℕ) → HasKind kind line → follows_basic (Some kind) ≡ false → follows_basic (kind_of line) ≡ false
stops_by kind line is stops = ap follows_basic is ∙ stops

-- in a list of units followed by a trailer, the first record can't follow a basic schedule
pub units_stop : (units : List (List (List ℕ))) (last : List ℕ) → AllByRecursion IsUnit units → HasKind trailer last
    → StopsHere (flat_map (λ unit. unit) units ++ last ∷ [])
units_stop [] last all end = stops_by trailer last end refl
units_stop (unit ∷ units) last all end = search (rules, append_assoc)

-- the changes of units within the limit are well formed
pub units_changes : (units : List (List (List ℕ))) (last : List ℕ) → AllByRecursion IsUnit units → HasKind trailer last
    → length (flat_map (λ unit. unit) units) < 2 ^ 32 - 1
    → AllChangesGood (flat_map (λ unit. unit) units ++ last ∷ [])
units_changes [] last all end few = search (rules, all_append, record_changes)
units_changes (unit ∷ units) last all end few =
    let size = length-append unit (flat_map (λ u. u) units) in
    subst AllChangesGood (sym (append_assoc unit (flat_map (λ u. u) units) (last ∷ [])))
    (unit_changes unit (flat_map (λ u. u) units ++ last ∷ []) all.0 (units_stop units last all.1 end) (omega arith)
    (units_changes units last all.1 end (omega arith)))
