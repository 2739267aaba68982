-- The printed forms of days and times. Each definition says how wide its field is.
use Rattle.std.specs.Prelude.{ℕ, List, replicate, ◌+◌, ◌/◌, ◌%◌, [], ◌∷◌, ◌++◌, codes, ◌==◌, if◌then◌else◌}
use Rattle.std.specs.Str.{bytes_eq}
use Rattle.docker_model.specs.records.Date.{year_of, month_of, day_of_month}

-- a text of `n` spaces
abbrev pub spaces : ℕ → List ℕ
spaces n = replicate n 32

-- converts a number below 100 to two digits
abbrev pub two_digit_text : ℕ → List ℕ
two_digit_text n = (48 + n / 10) ∷ (48 + n % 10) ∷ []

-- converts a number below 10,000 to four digits
abbrev pub four_digit_text : ℕ → List ℕ
four_digit_text n = two_digit_text (n / 100) ++ two_digit_text (n % 100)

-- converts a year, a month and a day to YYYY-MM-DD
abbrev pub date_text : ℕ → ℕ → ℕ → List ℕ
date_text year month day = four_digit_text year ++ codes "-" ++ two_digit_text month ++ codes "-" ++ two_digit_text day

-- converts a day number from 0 to 36524 to YYYY-MM-DD: day 0 is `1960-01-01`
abbrev pub day_text : ℕ → List ℕ
day_text day = date_text (year_of day) (month_of day) (day_of_month day)

-- converts a minute of the day, from 0 to 1439, to HHMM: 435 is `0715`
abbrev pub minute_text : ℕ → List ℕ
minute_text minute = two_digit_text (minute / 60) ++ two_digit_text (minute % 60)

-- converts a time in half minutes, from 0 to 2879, to HHMM followed by H for half a minute or by a
-- space: 871 is `0715H`
abbrev pub time_text : ℕ → List ℕ
time_text time = minute_text (time / 2) ++ (if time % 2 == 1 then codes "H" else codes " ")

-- converts a public time of four bytes to its printed form. `0000` means that there is no public
-- time, and becomes four spaces. Any other time stays as it is
abbrev pub shown_public : List ℕ → List ℕ
shown_public field = if bytes_eq field (codes "0000") then spaces 4 else field
