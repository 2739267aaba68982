-- A body and its thinned form belong to the same key. The thin records of a schedule don't call at
-- the place.
use Rattle.cif_laws.proofs.Common.{◌≡◌, ℕ, ◌≤◌, List, [], ◌∷◌, ◌++◌, subst, inl, refl, ap, sym, ◌∙◌, rules, Some, None, Bool, true, false, cond, Contains, map}
use Rattle.cif_laws.proofs.Common.{Option, option_and_then, codes, slice_index_or, ◌||◌, ◌&&◌, bytes_eq, AllPass, list_all, All-from_recursion}
use Rattle.cif_laws.proofs.Common.{AllPass-from_list_all, basic_schedule, origin_location, terminating_location, HasKind, kind_of, IsRecord, columns}
use Rattle.cif_laws.proofs.Common.{is_location, is_printable, HasGoodFields, Occasion, arrival, departure, timed, times_by_kind, fall_count, midnights}
use Rattle.cif_laws.proofs.Common.{calls_at, IsSchedule, first_record, Key, tiploc_key, association_key, schedule_key, ScheduleKey, Body, tiploc_body}
use Rattle.cif_laws.proofs.Common.{association_body, schedule_body, IsScheduleOf, IsBodyOf}
use Rattle.docker_laws.specs.NearDay.{may_reach}
use Rattle.docker_laws.specs.Thinning.{ends_at, ends_elsewhere, thin_lines, lines_for, body_for}
use Rattle.cif_laws.proofs.lists.Membership.{cons-Contains-first, member_of}
use Rattle.cif_laws.proofs.lists.BoolsAndOptions.{none_some}

-- ---- the made-up origin and terminus

-- the made-up origin and terminus at a TIPLOC
abbrev origin_at : List ℕ → List ℕ
origin_at code = slice_index_or (ends_at code) 0 []

abbrev terminus_at : List ℕ → List ℕ
terminus_at code = slice_index_or (ends_at code) 1 []

abbrev nowhere : List ℕ
nowhere = codes "NOWHERE"

abbrev another : List ℕ
another = codes "ANOTHER"

-- whether a record is a location record with this place
abbrev stops_at : List ℕ → List ℕ → Bool
stops_at place line = is_location (kind_of line) && bytes_eq (columns 3 9 line) place

-- the made-up origin and terminus don't call at the place
pub ends_apart : (place : List ℕ) → calls_at place (ends_elsewhere place) ≡ false
ends_apart = search rules

-- if a schedule doesn't call at a place, neither does its first record
first_apart : (place : List ℕ) (lines : List (List ℕ)) → calls_at place lines ≡ false → stops_at place (first_record lines) ≡ false
first_apart = search rules

-- if a schedule doesn't call at a place, its thin records don't call at that place
pub thin_elsewhere : (place : List ℕ) (lines : List (List ℕ)) → calls_at place lines ≡ false → calls_at place (thin_lines place (first_record lines)) ≡ false
thin_elsewhere place lines none = λ i. first_apart place lines none i || ends_apart place i

-- if the first record of a schedule is a basic schedule, its thin records don't call at the place
pub thin_apart : (place basic : List ℕ) → HasKind basic_schedule basic → calls_at place (thin_lines place basic) ≡ false
thin_apart place basic kind = λ i. (is_location (kind i) && bytes_eq (columns 3 9 basic) place) || ends_apart place i

-- ---- a journey of only an origin and a terminus passes midnight at most twice

-- the times in a list of pairs, each of which is an occasion and a time
abbrev times_in : List (Occasion × ℕ) → List ℕ
times_in timings = map (λ (time : Occasion × ℕ). time.1) timings

few_by : (first last : Option ℕ) → fall_count (times_in (timed departure first ++ (timed arrival last ++ []))) ≤ 2
few_by = search rules

few_ends : (first last : List ℕ) → HasKind origin_location first → HasKind terminating_location last → midnights (first ∷ last ∷ []) ≤ 2
few_ends first last origin terminus = subst (λ times. fall_count (times_in times) ≤ 2)
    (sym (λ i. times_by_kind (origin i) first ++ (times_by_kind (terminus i) last ++ []))) (few_by _ _)

-- ---- a schedule is still a schedule if its origin and its terminus are replaced

-- the basic schedule of a schedule is a record
basic_record : (lines : List (List ℕ)) (is : IsSchedule lines) → IsRecord is.basic
basic_record lines is = member_of IsRecord _ is.basic is.records
    (subst (λ ls. Contains ls is.basic) (sym is.whole) (cons-Contains-first _ (is.extra ++ is.journey)))

-- the basic schedule, any good origin and any good terminus together form a schedule
with_any_ends : (lines : List (List ℕ)) → IsSchedule lines → (first last : List ℕ) → IsRecord first → IsRecord last → HasKind origin_location first
    → HasKind terminating_location last → HasGoodFields first → HasGoodFields last → IsSchedule (first_record lines ∷ first ∷ last ∷ [])
with_any_ends lines is first last first_is last_is origin terminus first_good last_good =
    subst (λ (basic : List ℕ). IsSchedule (basic ∷ first ∷ last ∷ [])) (sym (ap first_record is.whole)) (record {
      basic = is.basic;
      extra = [];
      journey = first ∷ last ∷ [];
      whole = refl;
      records = All-from_recursion IsRecord (is.basic ∷ first ∷ last ∷ []) (basic_record lines is, (first_is, (last_is, tt)));
      kind = is.kind;
      fields = is.fields;
      details = inl refl;
      journey_or_none = search rules;
      sound = search (rules, few_ends);
    })

-- the basic schedule, with any origin and any terminus that have good fields, forms a schedule with
-- the same key as the original schedule
pub any_ends_of_key : (key : ScheduleKey) (lines : List (List ℕ)) → IsScheduleOf key lines → (first last : List ℕ) → IsRecord first → IsRecord last
    → HasKind origin_location first → HasKind terminating_location last → HasGoodFields first → HasGoodFields last
    → IsScheduleOf key (first_record lines ∷ first ∷ last ∷ [])
any_ends_of_key = search (rules, with_any_ends)

-- ---- a body and its thinned form belong to the same key

-- the thin records of a schedule form a schedule with the same key as the whole schedule
pub thin_of_key : (place : List ℕ) (key : ScheduleKey) (lines : List (List ℕ)) → IsScheduleOf key lines
    → IsScheduleOf key (thin_lines place (first_record lines))
thin_of_key place key lines is = by (bytes_eq place nowhere)
  where
    printable : (line : List ℕ) → list_all is_printable line ≡ true → AllPass is_printable line
    printable line all = AllPass-from_list_all is_printable line all

    by : (b : Bool) → IsScheduleOf key (first_record lines ∷ cond b (ends_at another) (ends_at nowhere))
    by true = any_ends_of_key _ _ is _ _ (refl, printable (origin_at another) refl) (refl, printable (terminus_at another) refl) refl refl refl refl
    by false = any_ends_of_key _ _ is _ _ (refl, printable (origin_at nowhere) refl) (refl, printable (terminus_at nowhere) refl) refl refl refl refl

-- the records of a schedule that the docker of a place and a day needs (`lines_for`) form a
-- schedule with the same key
pub needed_of_key : (place : List ℕ) (day : ℕ) (key : ScheduleKey) (lines : List (List ℕ)) → IsScheduleOf key lines
    → IsScheduleOf key (lines_for place day lines)
needed_of_key place day key lines is = by (calls_at place lines && may_reach day lines)
  where
    by : (b : Bool) → IsScheduleOf key (cond b lines (thin_lines place (first_record lines)))
    by true = is
    by false = thin_of_key place key lines is

-- a body, and the body that the docker of a place and a day needs instead of it, belong to the same
-- key
pub needed_is_body : (place : List ℕ) (day : ℕ) (key : Key) (body : Body) → IsBodyOf key body → IsBodyOf key (body_for place day body)
needed_is_body place day (schedule_key key) (schedule_body lines) is = needed_of_key place day key lines is
needed_is_body place day (tiploc_key code) (schedule_body lines) is = absurd is
needed_is_body place day (association_key key) (schedule_body lines) is = absurd is
needed_is_body place day key (tiploc_body bytes) is = is
needed_is_body place day key (association_body line) is = is

-- ---- at a key that isn't a schedule's, a table keeps its body

-- suppose that a function on bodies changes only schedules
module _ (change : Body → Option Body) (of_tiploc : (bytes : List ℕ) → change (tiploc_body bytes) ≡ Some (tiploc_body bytes))
    (of_association : (line : List ℕ) → change (association_body line) ≡ Some (association_body line)) where
  -- the function doesn't change a body whose key isn't a schedule's
  pub body_stays : (key : Key) → ((lines : List (List ℕ)) → ¬ IsBodyOf key (schedule_body lines)) → (found : Option Body)
      → ((body : Body) → found ≡ Some body → IsBodyOf key body) → option_and_then change found ≡ found
  body_stays key apart None is = refl
  body_stays key apart (Some (tiploc_body bytes)) is = of_tiploc bytes
  body_stays key apart (Some (association_body line)) is = of_association line
  body_stays key apart (Some (schedule_body lines)) is = absurd (apart lines (is (schedule_body lines) refl))

  -- if the function leaves a schedule, the body was a schedule before
  pub was_schedule : (found : Option Body) (lines : List (List ℕ)) → option_and_then change found ≡ Some (schedule_body lines)
      → (whole : List (List ℕ)) × (found ≡ Some (schedule_body whole)) × (change (schedule_body whole) ≡ Some (schedule_body lines))
  was_schedule None lines is = none_some (schedule_body lines) is
  was_schedule (Some (schedule_body whole)) lines is = (whole, refl, is)
  was_schedule (Some (tiploc_body bytes)) lines is = absurd (let bad : Some (tiploc_body bytes) ≡ Some (schedule_body lines) = sym (of_tiploc bytes) ∙ is in cc)
  was_schedule (Some (association_body line)) lines is =
      absurd (let bad : Some (association_body line) ≡ Some (schedule_body lines) = sym (of_association line) ∙ is in cc)
