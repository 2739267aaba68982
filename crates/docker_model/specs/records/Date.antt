-- Dates and day numbers. Day 0 is 1 January 1960. The definitions use the calendar of the crate
-- `jiff`. Each definition says how wide its field is. If a field is shorter, each missing byte
-- counts as 0.
use Rattle.std.specs.Prelude.{ℕ, ◌+◌, ◌-◌, ◌*◌, List, slice_index, nat_le, if◌then◌else◌, Bool, ◌&&◌}
use Rattle.std.specs.Prelude.{pos, ◌+ℤ◌, unsigned_abs, ◌≤◌, codes, ◌||◌, ◌==◌, ◌%◌, count_by}
use Rattle.std.specs.List.{list_all, range_with_len}
use Rattle.std.specs.Int.{is_in_range}
use Rattle.std.specs.Char.{is_ascii_digit}
use Rattle.std.specs.Str.{bytes_eq}
use Rattle.jiff.specs.Words.{days_in_month}
use Rattle.jiff_core.specs.Calendar.{days_from_civil}

-- converts two digits of a field to a number. The first digit has the index `i`, counted from 0: in
-- `2025` the digits from index 2 have the value 25. The field must contain both digits
abbrev pub two_digits : List ℕ → ℕ → ℕ
two_digits field i = 10 * (slice_index field i - 48) + (slice_index field (i + 1) - 48)

-- converts a year of two digits to a full year: 60 to 99 are 1960 to 1999, and 00 to 59 are 2000 to
-- 2059
abbrev pub full_year : ℕ → ℕ
full_year n = if nat_le 60 n then 1900 + n else 2000 + n

-- whether the calendar has this year, month and day. For example, the calendar has no 29 February
-- 2023
abbrev pub is_calendar_day : ℕ → ℕ → ℕ → Bool
is_calendar_day year month day = is_in_range 1 12 month && is_in_range 1 (days_in_month (pos year) month) day

-- converts a calendar day to its day number, which is the number of days since 1 January 1960. For
-- example, 2 January 1960 has the number 1. The year must be at least 1960. The constant 3653 is
-- the number of days from 1 January 1960 to 1 January 1970
abbrev pub day_number : ℕ → ℕ → ℕ → ℕ
day_number year month day = unsigned_abs (days_from_civil (pos year) month day +ℤ pos 3653)

-- the last day number, for 31 December 2059
abbrev pub last_day : ℕ
last_day = 36524

-- `day` is the number of a day from 1960 to 2059
abbrev pub IsDay : ℕ → Type 0
IsDay day = day ≤ last_day

-- the end number of a schedule or an association that has no last day
abbrev pub no_end_number : ℕ
no_end_number = 65535

-- whether six bytes are a date in the form YYMMDD: six digits, for a day that exists in the
-- calendar
abbrev pub is_date : List ℕ → Bool
is_date field = list_all is_ascii_digit field && is_calendar_day (full_year (two_digits field 0)) (two_digits field 2) (two_digits field 4)

-- converts a date of six bytes, in the form YYMMDD, to its day number
abbrev pub date_number : List ℕ → ℕ
date_number field = day_number (full_year (two_digits field 0)) (two_digits field 2) (two_digits field 4)

-- whether six bytes are a date in the form DDMMYY: six digits, for a day that exists in the
-- calendar
abbrev pub is_date_day_first : List ℕ → Bool
is_date_day_first field = list_all is_ascii_digit field && is_calendar_day (full_year (two_digits field 4)) (two_digits field 2) (two_digits field 0)

-- converts a date of six bytes, in the form DDMMYY, to its day number
abbrev pub date_number_day_first : List ℕ → ℕ
date_number_day_first field = day_number (full_year (two_digits field 4)) (two_digits field 2) (two_digits field 0)

-- whether these are the six bytes `999999`, which mean no end
abbrev pub is_no_end : List ℕ → Bool
is_no_end field = bytes_eq field (codes "999999")

-- whether six bytes are an end date: a date in the form YYMMDD, or `999999`
abbrev pub is_end_date : List ℕ → Bool
is_end_date field = is_no_end field || is_date field

-- converts an end date of six bytes to its end number: the date's day number, or 65535 for `999999`
abbrev pub end_number : List ℕ → ℕ
end_number field = if is_no_end field then no_end_number else date_number field

-- whether seven bytes are a days-run field: one byte for each day from Monday to Sunday, and each
-- byte is `0` or `1`
abbrev pub is_days : List ℕ → Bool
is_days field = list_all (λ b. (b == 48) || (b == 49)) field

-- whether this weekday is among the days run, a field of seven bytes. Monday is 0 and Sunday is 6.
-- For example, weekday 4, Friday, is among the days run `1111100`, and weekday 5 isn't
abbrev pub runs_on_weekday : List ℕ → ℕ → Bool
runs_on_weekday field weekday = slice_index field weekday == 49

-- converts a day number to its weekday, where Monday is 0. Day 0 was a Friday
abbrev pub weekday_of : ℕ → ℕ
weekday_of day = (day + 4) % 7

-- the year of a day number from 0 to 36524: the last year that begins on or before that day
abbrev pub year_of : ℕ → ℕ
year_of day = 1959 + count_by (λ year. nat_le (day_number year 1 1) day) (range_with_len 1960 100)

-- the month of a day number from 0 to 36524: the last month of its year that begins on or before
-- that day
abbrev pub month_of : ℕ → ℕ
month_of day = count_by (λ month. nat_le (day_number (year_of day) month 1) day) (range_with_len 1 12)

-- the day of the month of a day number from 0 to 36524
abbrev pub day_of_month : ℕ → ℕ
day_of_month day = day + 1 - day_number (year_of day) (month_of day) 1
