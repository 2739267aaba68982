-- Worked examples of records, fields, dates, times and changes, as computed from the definitions.
use Rattle.cif_laws.proofs.Common.{◌≡◌, ℕ, List, [], ◌∷◌, ◌++◌, length, refl, map, Some, None, true, false, codes, kind_of, header, basic_schedule}
use Rattle.cif_laws.proofs.Common.{origin_location, terminating_location, trailer, columns, column, leftmost_bad_byte, day_number, date_number, is_date}
use Rattle.cif_laws.proofs.Common.{end_number, scheduled_time, leftmost_bad_field, times_along, midnights, lines_of, tiploc_key, schedule_named, tiploc_body}
use Rattle.cif_laws.proofs.Common.{schedule_body, delete, put, Change, changes}
use Rattle.jiff_core.specs.Calendar.{days_from_civil, day_count, days_of_years, days_of_months}
use Rattle.docker_model.specs.records.Date.{weekday_of}
use Rattle.docker_model.specs.records.Clock.{public_time}
use Rattle.cif_laws.specs.UnitChange.{changes_of_unit, changes_of_units}
use Rattle.cif_laws.proofs.records.Builders.{wide, no_text, hd, bs, lo, li, lt, ta, zz, f2, f2_header, f2_basic}
use Rattle.cif_laws.proofs.records.Builders.{f2_origin, f2_terminus, f2_schedule, rename, rename_amend, night_schedule}

kinds : map kind_of f2 ≡ Some header ∷ Some basic_schedule ∷ Some origin_location ∷ Some terminating_location ∷ Some trailer ∷ []
kinds = refl

start_of_header : columns 1 48 f2_header ≡ codes "HDTPS.UDFROC1.PD2406090906242100DFROC1ADFROC1ZUA"
start_of_header = refl

start_of_basic : columns 1 36 f2_basic ≡ codes "BSNC100012406102406141111100 POO1A10"
start_of_basic = refl

uid_of_basic : columns 4 9 f2_basic ≡ codes "C10001"
uid_of_basic = refl

indicator_of_basic : column 80 f2_basic ≡ 80
indicator_of_basic = refl

whole_origin : f2_origin ≡ codes "LOASHFELD 0900 09001  SL                                                        "
whole_origin = refl

records_are_long : map length f2 ≡ 80 ∷ 80 ∷ 80 ∷ 80 ∷ 80 ∷ []
records_are_long = refl

no_bad_byte : map leftmost_bad_byte f2 ≡ None ∷ None ∷ None ∷ None ∷ None ∷ []
no_bad_byte = refl

tab_in_column_20 : leftmost_bad_byte (wide 80 (codes "TIASHFELD" ++ wide 10 no_text ++ 9 ∷ [])) ≡ Some 20
tab_in_column_20 = refl

unknown_kind : kind_of (wide 80 (codes "LN")) ≡ None
unknown_kind = refl

no_bad_field : map leftmost_bad_field f2 ≡ None ∷ None ∷ None ∷ None ∷ None ∷ []
no_bad_field = refl

bad_indicator : leftmost_bad_field (hd (codes "090624") (codes "2100") (codes "DFROC1A") (codes "DFROC1Z") (codes "X")) ≡ Some 47
bad_indicator = refl

bad_departure : leftmost_bad_field (lo (codes "ASHFELD") no_text (codes "2400") (codes "0900") (codes "1") (codes "SL")) ≡ Some 11
bad_departure = refl

bad_runs_from : leftmost_bad_field (bs (codes "N") (codes "C10001") (codes "230229") (codes "240614") (codes "1111100") (codes "1A10") (codes "P")) ≡ Some 10
bad_runs_from = refl

-- in a deletion the end date and the days-run field may be blank, since neither is checked
good_deletion : leftmost_bad_field (bs (codes "D") (codes "C10001") (codes "240610") no_text no_text no_text (codes "P")) ≡ None
good_deletion = refl

days : map is_date (codes "591231" ∷ codes "600101" ∷ codes "000229" ∷ codes "230229" ∷ []) ≡ true ∷ true ∷ true ∷ false ∷ []
days = refl

day_of_10_june : day_number 2024 6 10 ≡ 23537
unfolding days_from_civil day_count days_of_years days_of_months
day_of_10_june = refl

last_day_of_all : date_number (codes "591231") ≡ 36524
unfolding days_from_civil day_count days_of_years days_of_months
last_day_of_all = refl

first_day_of_all : date_number (codes "600101") ≡ 0
unfolding days_from_civil day_count days_of_years days_of_months
first_day_of_all = refl

leap_day : date_number (codes "000229") ≡ 14669
unfolding days_from_civil day_count days_of_years days_of_months
leap_day = refl

no_end : end_number (codes "999999") ≡ 65535
no_end = refl

weekdays : map weekday_of (0 ∷ 23537 ∷ 36524 ∷ []) ≡ 4 ∷ 0 ∷ 2 ∷ []
weekdays = refl

half_minute : map scheduled_time (codes "0000H" ∷ codes "0900 " ∷ codes "2359H" ∷ codes "     " ∷ []) ≡ Some 1 ∷ Some 1080 ∷ Some 2879 ∷ None ∷ []
half_minute = refl

public_times : map public_time (codes "0000" ∷ codes "    " ∷ codes "0932" ∷ []) ≡ None ∷ None ∷ Some 572 ∷ []
public_times = refl

-- the times of `night_schedule` are 23:55, 00:00½ twice, 00:10 and 00:20. So the schedule passes
-- midnight once
night_times : times_along night_schedule ≡ 2870 ∷ 1 ∷ 1 ∷ 20 ∷ 40 ∷ []
night_times = refl

one_midnight : midnights night_schedule ≡ 1
one_midnight = refl

-- a line may end with a line feed, or with a carriage return and a line feed. The last line needs
-- no line end
line_ends : map lines_of ((codes "ab" ++ 10 ∷ codes "c" ++ 10 ∷ []) ∷ (codes "ab" ++ 13 ∷ 10 ∷ codes "c" ++ 13 ∷ 10 ∷ []) ∷ (codes "ab" ++ 10 ∷ codes "c") ∷
    (codes "ab" ++ 10 ∷ codes "c" ++ 13 ∷ []) ∷ [])
    ≡ (codes "ab" ∷ codes "c" ∷ []) ∷ (codes "ab" ∷ codes "c" ∷ []) ∷ (codes "ab" ∷ codes "c" ∷ []) ∷ (codes "ab" ∷ codes "c" ∷ []) ∷ []
line_ends = refl

no_lines : lines_of [] ≡ []
no_lines = refl

changes_of_f2 : changes f2 ≡ record { number = 2; key = schedule_named f2_basic; act = put (schedule_body f2_schedule) } ∷ []
changes_of_f2 = refl

changes_of_rename : changes rename
    ≡ record { number = 2; key = tiploc_key (codes "ASHFELD"); act = delete }
    ∷ record { number = 2; key = tiploc_key (codes "ASHFLDN"); act = put (tiploc_body (columns 10 72 rename_amend)) } ∷ []
changes_of_rename = refl

-- a TIPLOC amendment whose new code equals the old code makes only one change, which puts a body
-- under this code
changes_of_same_code : changes (f2_header ∷ ta (codes "ASHFELD") (codes "ASHFIELD CENTRAL") (codes "ASHFELD") ∷ zz ∷ [])
    ≡ record {
      number = 2;
      key = tiploc_key (codes "ASHFELD");
      act = put (tiploc_body (columns 10 72 (ta (codes "ASHFELD") (codes "ASHFIELD CENTRAL") (codes "ASHFELD"))));
    } ∷ []
changes_of_same_code = refl

-- for a TIPLOC amendment, a schedule of three records and another amendment, the changes of each
-- unit have the number of the unit's first record
numbers_of_units : map (λ (change : Change). change.number) (changes_of_units 2 ((rename_amend ∷ []) ∷ f2_schedule ∷ (rename_amend ∷ []) ∷ []))
    ≡ 2 ∷ 2 ∷ 3 ∷ 6 ∷ 6 ∷ []
numbers_of_units = refl

units_of_f2 : changes_of_units 2 (f2_schedule ∷ []) ≡ changes f2
units_of_f2 = refl

-- a deletion with a journey makes only one change
change_of_deletion : changes_of_unit 2 (bs (codes "D") (codes "C10001") (codes "240610") no_text no_text no_text (codes "P") ∷ f2_origin ∷ f2_terminus ∷ [])
    ≡ record { number = 2; key = schedule_named f2_basic; act = delete } ∷ []
change_of_deletion = refl

-- a schedule whose last arrival is at this time. The schedule passes midnight a third time if the
-- last arrival is at 00:01, but not if the last arrival is at 00:06
abbrev late_schedule : List ℕ → List (List ℕ)
late_schedule arrives =
    bs (codes "N") (codes "C20001") (codes "240610") (codes "240610") (codes "1000000") (codes "2B20") (codes "P")
    ∷ lo (codes "ASHFELD") no_text (codes "2355") (codes "2355") (codes "1") (codes "SL")
    ∷ li (codes "COLWELL") no_text no_text no_text (codes "0010") no_text no_text no_text no_text no_text
    ∷ li (codes "DUNMERE") no_text no_text no_text (codes "0005") no_text no_text no_text no_text no_text
    ∷ lt (codes "BRAYTON") no_text arrives no_text (codes "2") (codes "FL") ∷ []

third_midnight_of : midnights (late_schedule (codes "0001")) ≡ 3
third_midnight_of = refl

two_midnights : midnights (late_schedule (codes "0006")) ≡ 2
two_midnights = refl
