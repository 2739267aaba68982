-- The code tests dates and computes their day numbers with tables of the months. The results equal
-- the tests and the day numbers in the definitions.
use Rattle.cif_laws.proofs.Common.{◌≡◌, ℕ, suc, ◌+◌, ◌-◌, ◌*◌, ◌/◌, ◌<◌, ◌≤◌, nat_lt, Bool, true, cond, ◌&&◌, List, rules, [], ◌∷◌, length, slice_index_or}
use Rattle.cif_laws.proofs.Common.{take, refl, sym, pos, ◌∙◌, arith, ◌==◌, ◌||◌, slice_index, list_all, is_ascii_digit, is_calendar_day, day_number, last_day}
use Rattle.cif_laws.proofs.Common.{is_days}
use Rattle.jiff_core.specs.Calendar.{is_leap_year, days_of_months, day_count, days_of_years, IsCivilDate}
use Rattle.jiff_core.proofs.SignedLemmas.{signed_arith}
use Rattle.jiff_core.proofs.MarchLemmas.{day_count-early}
use Rattle.jiff_core.proofs.CalendarLemmas.{days_of_months_table, day_count-day_of_year, day_count-lt_year}
use Rattle.cif_laws.proofs.records.Dates.{is_calendar_day-IsDate, day_number-day_count}

-- six bytes are digits if and only if the first four are digits and the other two are digits
pub six_digits : (field : List ℕ) → length field ≡ 6
    → ((list_all is_ascii_digit (take 4 field) && is_ascii_digit (slice_index field 4)) && is_ascii_digit (slice_index field 5))
    ≡ list_all is_ascii_digit field
six_digits (a ∷ b ∷ c ∷ d ∷ e ∷ f ∷ []) size = search rules
six_digits _ size = absurd (omega arith)

-- whether a byte is the code of `0` or of `1`
abbrev is_flag : ℕ → Bool
is_flag b = (b == 48) || (b == 49)

-- seven bytes are flags if and only if the first four are flags and the other three are flags
pub seven_flags : (field : List ℕ) → length field ≡ 7
    → (((is_days (take 4 field) && is_flag (slice_index field 4)) && is_flag (slice_index field 5)) && is_flag (slice_index field 6)) ≡ is_days field
seven_flags (a ∷ b ∷ c ∷ d ∷ e ∷ f ∷ g ∷ []) size = grind arith
seven_flags _ size = absurd (omega arith)

-- how many days of a year come before this month, if the year isn't a leap year. Months are from 1
-- to 12
abbrev pub days_before : ℕ → ℕ
days_before month = slice_index_or {A = ℕ} (0 ∷ 0 ∷ 31 ∷ 59 ∷ 90 ∷ 120 ∷ 151 ∷ 181 ∷ 212 ∷ 243 ∷ 273 ∷ 304 ∷ 334 ∷ []) month 0

-- how many leap days a year has before a month: 1 in a leap year from March on, and otherwise 0
abbrev pub leap_before : Bool → ℕ → ℕ
leap_before leap month = cond (nat_lt 2 month && leap) 1 0

-- `days_before` says how many days of a year come before a month. In a leap year there is one more day before each month from March on
before_month : (y n : ℕ) → n < 12 → days_of_months (pos y) n ≡ days_before (suc n) + leap_before (is_leap_year (pos y)) (suc n)
before_month = search (rules, days_of_months_table, pos)

-- in the calendar library, 1 January 2060 has the day count 4,404,825
start_of_2060 : day_count (pos 2060) 1 1 ≡ 4_404_825
unfolding day_count days_of_years days_of_months
start_of_2060 = refl

-- a day in the years 1960 to 2059. The number of years from 1960 to its year is `years`
module _ (years y month day : ℕ) (since : years + 1960 ≡ y) (high : y ≤ 2059) (good : is_calendar_day y month day ≡ true) where
  its_parts : IsCivilDate (pos y) month day
  its_parts = search (rules, is_calendar_day-IsDate, signed_arith)

  -- the day number plus 1 is the sum of three numbers. They are the number of days from 1960 to the
  -- beginning of the year, the number of days in the year before the month, and the day of the
  -- month
  pub numbered : (leap : Bool) → leap ≡ is_leap_year (pos y)
      → 365 * years + ((years + 3) / 4 + leap_before leap month) + days_before month + day ≡ day_number y month day + 1
  numbered leap is =
      let back : suc (month - 1) ≡ month = omega (arith, its_parts.1.0) in
      let low : month - 1 < 12 = omega (arith, its_parts.1.0, its_parts.1.1) in
      let before : days_of_months (pos y) (month - 1) ≡ days_before month + leap_before leap month =
      before_month y (month - 1) low ∙ (λ i. days_before (back i) + leap_before (sym is i) (back i)) in
      let number = day_number-day_count y month day (omega arith) (omega arith) its_parts.1.0 its_parts.2.0 in
      let place = day_count-day_of_year (pos y) month day its_parts.2.0 in
      let start = day_count-early (pos y) (y + 9999) 1 1 (omega (arith, signed_arith)) (omega arith) (omega arith) (omega arith) in
      omega arith

  -- the day number is at most the last day number
  pub number_bound : day_number y month day ≤ last_day
  number_bound = search (rules, day_number-day_count, its_parts, day_count-lt_year, pos, signed_arith, start_of_2060)
