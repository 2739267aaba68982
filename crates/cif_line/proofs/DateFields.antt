-- The digits YYMMDD in a day's text YYYY-MM-DD are read back as the same day.
use Rattle.cif_laws.proofs.Common.{◌≡◌, ℕ, ◌+◌, ◌-◌, ◌*◌, ◌/◌, ◌%◌, ◌<◌, ◌≤◌, List, [], ◌∷◌, ◌++◌, true, ap, sym, subst, slice_index, ◌∙◌, pos, arith}
use Rattle.cif_laws.proofs.Common.{common_steps, rules, list_all, is_ascii_digit, nat_tests, is_calendar_day, day_number, is_date, date_number, two_digits}
use Rattle.cif_laws.proofs.Common.{full_year, last_day, day_text}
use Rattle.jiff_core.proofs.SignedLemmas.{signed_arith}
use Rattle.jiff_core.proofs.CalendarLemmas.{days_in_month_bounds}
use Rattle.docker_model.specs.records.PrintedTime.{two_digit_text}
use Rattle.cif_laws.proofs.records.Dates.{is_calendar_day-IsDate}
use Rattle.cif_line.proofs.CivilDays.{IsDayOf, number_is, text_is, day_at}

-- 48 plus a number below 10 is the code of a digit
is_digit : (n : ℕ) → n < 10 → is_ascii_digit (48 + n) ≡ true
is_digit n low = grind (arith, nat_tests)

-- six numbers below 10, each plus 48, are the codes of six digits
are_digits : (a b c d e f : ℕ) → a < 10 → b < 10 → c < 10 → d < 10 → e < 10 → f < 10
    → list_all is_ascii_digit ((48 + a) ∷ (48 + b) ∷ (48 + c) ∷ (48 + d) ∷ (48 + e) ∷ (48 + f) ∷ []) ≡ true
are_digits = search (rules, is_digit)

-- the last two digits of a year from 1960 to 2059 are read as that year
year_is : (year : ℕ) → 1960 ≤ year → year ≤ 2059 → full_year (year % 100) ≡ year
year_is year low high = grind (arith, nat_tests)

-- the two digits of a number below 100 spell that number
digits_are : (n : ℕ) → 10 * ((48 + n / 10) - 48) + ((48 + n % 10) - 48) ≡ n
digits_are n = omega arith

-- a date's digits YYMMDD
abbrev pub six_digits : ℕ → ℕ → ℕ → List ℕ
six_digits year month day = two_digit_text (year % 100) ++ two_digit_text month ++ two_digit_text day

-- the digits YYMMDD of a day pass the test for a date, and are read as a date with the day's number
module _ (number year month day : ℕ) (h : IsDayOf number year month day) where
  on_calendar : is_calendar_day year month day ≡ true
  on_calendar = search (rules, pos, signed_arith, is_calendar_day-IsDate)

  year_read : full_year (two_digits (six_digits year month day) 0) ≡ year
  year_read = ap full_year (digits_are (year % 100)) ∙ year_is year h.low h.high

  -- the digits YYMMDD of a day pass the test for a date
  pub six_digits-is_date : is_date (six_digits year month day) ≡ true
  six_digits-is_date = grind (common_steps, arith, are_digits, days_in_month_bounds, pos, year_read, digits_are, on_calendar)

  -- the digits YYMMDD of a day are read as a date with the day's number
  pub six_digits-date_number : date_number (six_digits year month day) ≡ number
  six_digits-date_number = (λ i. day_number (year_read i) (digits_are month i) (digits_are day i)) ∙ number_is number year month day h

-- the digits YYMMDD of a text YYYY-MM-DD
abbrev pub digits_in : List ℕ → List ℕ
digits_in text = slice_index text 2 ∷ slice_index text 3 ∷ slice_index text 5 ∷ slice_index text 6 ∷ slice_index text 8 ∷ slice_index text 9 ∷ []

-- in the text YYYY-MM-DD of a day number, the digits YYMMDD are a date with this day number
pub digits_in-day_text : (number : ℕ) → number ≤ last_day → (text : List ℕ) → text ≡ day_text number
    → (is_date (digits_in text) ≡ true) × (date_number (digits_in text) ≡ number)
digits_in-day_text number low text same = let at = day_at _ low in by at.0 at.1 at.2 at.3
  where
    by : (year month day : ℕ) → IsDayOf number year month day → (is_date (digits_in text) ≡ true) × (date_number (digits_in text) ≡ number)
    by year month day h = subst (λ t. (is_date (digits_in t) ≡ true) × (date_number (digits_in t) ≡ number)) (sym (same ∙ text_is _ _ _ _ h))
        (six_digits-is_date number year month day h, six_digits-date_number number year month day h)
