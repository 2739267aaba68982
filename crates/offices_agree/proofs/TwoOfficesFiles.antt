-- The two files of the worked example are CIF files, and their plain table has a known docker.
use Rattle.cif_laws.proofs.Common.{◌≡◌, ℕ, List, [], ◌∷◌, refl, inl, inr, lit≤, ◌≤◌, rules, ◌++◌, All, codes, flat_map, All-from_recursion, IsFile, IsUnit}
use Rattle.cif_laws.proofs.Common.{IsSchedule, IsWithinJourney, most_records, IsFileText, ScheduleKey, Key, tiploc_key, schedule_key, Body, tiploc_body}
use Rattle.cif_laws.proofs.Common.{schedule_body, Change, changes, put, IsRecord, columns, HasKind, basic_schedule, header, origin_location}
use Rattle.cif_laws.proofs.Common.{terminating_location, midnights, HasGoodFields, as_new}
use Rattle.jiff_core.specs.Calendar.{days_from_civil, day_count, days_of_years, days_of_months}
use Rattle.cif_laws.proofs.schedules.WorkedSchedule.{record_by_test}

-- ---- the records

abbrev pub full_header : List ℕ
full_header =
    codes "HDTPS.UDFROC1.PD2406080806242100DFROC1A       FA                                "

abbrev pub place_record : List ℕ
place_record =
    codes "TIASHFELD         ASHFELD JUNCTION                                              "

abbrev pub first_basic : List ℕ
first_basic =
    codes "BSNC100012406102406141111100 POO1A10                                           P"

abbrev pub first_origin : List ℕ
first_origin =
    codes "LOASHFELD 0900 09001  SL                                                        "

abbrev pub first_terminus : List ℕ
first_terminus =
    codes "LTBRAYTON 0930 09322  FL                                                        "

abbrev pub second_basic : List ℕ
second_basic =
    codes "BSNC200022406102406141111100 POO2B20                                           P"

abbrev pub second_origin : List ℕ
second_origin =
    codes "LOBRAYTON 0820 08201  UL                                                        "

abbrev pub second_terminus : List ℕ
second_terminus =
    codes "LTASHFELD 0850 08502  UL                                                        "

abbrev pub trailer_record : List ℕ
trailer_record =
    codes "ZZ                                                                              "

abbrev pub update_header : List ℕ
update_header =
    codes "HDTPS.UDFROC1.PD2406090906242100DFROC1BDFROC1AUA                                "

abbrev pub revised_basic : List ℕ
revised_basic =
    codes "BSRC100012406102406141111100 POO1A10                                           P"

abbrev pub revised_origin : List ℕ
revised_origin =
    codes "LOASHFELD 0905 09053  SL                                                        "

abbrev pub revised_terminus : List ℕ
revised_terminus =
    codes "LTBRAYTON 0935 09372  FL                                                        "

-- the schedules: the two of the full extract, and the revision of the first
abbrev pub first_schedule : List (List ℕ)
first_schedule = first_basic ∷ first_origin ∷ first_terminus ∷ []

abbrev pub second_schedule : List (List ℕ)
second_schedule = second_basic ∷ second_origin ∷ second_terminus ∷ []

abbrev pub revision : List (List ℕ)
revision = revised_basic ∷ revised_origin ∷ revised_terminus ∷ []

-- the full extract and the update
abbrev pub full_file : List (List ℕ)
full_file =
    full_header ∷ place_record ∷ first_basic ∷ first_origin ∷ first_terminus ∷ second_basic ∷ second_origin ∷ second_terminus
    ∷ trailer_record ∷ []

abbrev pub update_file : List (List ℕ)
update_file = update_header ∷ revised_basic ∷ revised_origin ∷ revised_terminus ∷ trailer_record ∷ []

-- ---- both are files

-- three records are a schedule: a basic schedule, an origin and a terminus
schedule_of_three : (basic origin terminus : List ℕ) → IsRecord basic → IsRecord origin → IsRecord terminus
    → HasKind basic_schedule basic → HasKind origin_location origin → HasKind terminating_location terminus
    → HasGoodFields basic → HasGoodFields origin → HasGoodFields terminus → midnights (origin ∷ terminus ∷ []) ≤ 2
    → IsSchedule (basic ∷ origin ∷ terminus ∷ [])
schedule_of_three basic origin terminus one two three is starts ends good leaves arrives falls = record {
  basic = basic;
  extra = [];
  journey = origin ∷ terminus ∷ [];
  whole = refl;
  records = All-from_recursion IsRecord (basic ∷ origin ∷ terminus ∷ []) (one, (two, (three, tt)));
  kind = is;
  fields = good;
  details = inl refl;
  journey_or_none = inl (record {
    first = origin;
    between = [];
    last = terminus;
    whole = refl;
    origin = starts;
    calls = All-from_recursion IsWithinJourney [] tt;
    terminus = ends;
  });
  sound = inr (record { fields = All-from_recursion HasGoodFields (origin ∷ terminus ∷ []) (leaves, (arrives, tt)); falls = falls });
}

first_is : IsSchedule first_schedule
first_is = search (rules, schedule_of_three, record_by_test, lit≤)

second_is : IsSchedule second_schedule
second_is = search (rules, schedule_of_three, record_by_test, lit≤)

revision_is : IsSchedule revision
revision_is = search (rules, schedule_of_three, record_by_test, lit≤)

-- a header, units and the trailer are a file
file_of : (first : List ℕ) (units : List (List (List ℕ))) → IsRecord first → HasKind header first → HasGoodFields first → All IsUnit units
    → IsFile (first ∷ flat_map (λ unit. unit) units ++ trailer_record ∷ [])
file_of first units is kind good each = record {
  first = first;
  units = units;
  last = trailer_record;
  whole = refl;
  header_record = is;
  header_kind = kind;
  header_fields = good;
  each = each;
  trailer_record = record_by_test trailer_record refl refl;
  trailer_kind = refl;
}

full_is_file : IsFile full_file
full_is_file = file_of full_header ((place_record ∷ []) ∷ first_schedule ∷ second_schedule ∷ []) (record_by_test full_header refl refl) refl refl
    (All-from_recursion IsUnit ((place_record ∷ []) ∷ first_schedule ∷ second_schedule ∷ [])
    (inl (place_record, refl, record_by_test place_record refl refl, inl refl, refl), (inr first_is, (inr second_is, tt))))

update_is_file : IsFile update_file
update_is_file = file_of update_header (revision ∷ []) (record_by_test update_header refl refl) refl refl
    (All-from_recursion IsUnit (revision ∷ []) (inr revision_is, tt))

-- ---- what the files change

abbrev pub place : List ℕ
place = codes "ASHFELD"

abbrev pub first_key : ScheduleKey
first_key = record { uid = codes "C10001"; runs_from = 23537; indicator = 80 }

abbrev pub second_key : ScheduleKey
second_key = record { uid = codes "C20002"; runs_from = 23537; indicator = 80 }

-- the revision is stored as if its transaction were N
abbrev pub revised_schedule : List (List ℕ)
revised_schedule = as_new revised_basic ∷ revised_origin ∷ revised_terminus ∷ []

abbrev pub description : Body
description = tiploc_body (columns 10 72 place_record)

abbrev pub putting : ℕ → Key → Body → Change
putting number key body = record { number = number; key = key; act = put body }

abbrev pub full_changes : List Change
full_changes =
    putting 2 (tiploc_key place) description ∷ putting 3 (schedule_key first_key) (schedule_body first_schedule)
    ∷ putting 6 (schedule_key second_key) (schedule_body second_schedule) ∷ []

abbrev pub update_changes : List Change
update_changes = putting 2 (schedule_key first_key) (schedule_body revised_schedule) ∷ []

pub changes_of_full : changes full_file ≡ full_changes
unfolding days_from_civil day_count days_of_years days_of_months
changes_of_full = refl

pub changes_of_update : changes update_file ≡ update_changes
unfolding days_from_civil day_count days_of_years days_of_months
changes_of_update = refl

-- ---- the texts of the files

-- the text of a file: each record is a line
abbrev pub text_of : List (List ℕ) → List ℕ
text_of file = flat_map (λ (line : List ℕ). line ++ codes "\n") file

abbrev pub full_text : List ℕ
full_text = text_of full_file

abbrev pub update_text : List ℕ
update_text = text_of update_file

pub full_is : IsFileText most_records full_text full_file
full_is = record { lines = refl; is = full_is_file; within = lit≤ tt }

pub update_is : IsFileText most_records update_text update_file
update_is = record { lines = refl; is = update_is_file; within = lit≤ tt }
