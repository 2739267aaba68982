-- Each day number up to the last is the number of exactly one day of the calendar.
use Rattle.cif_laws.proofs.Common.{◌≡◌, ℕ, zero, suc, ◌+◌, ◌<◌, ◌≤◌, refl, subst, pos, arith, inl, inr, rules, unsigned_abs, cases_order, day_number, last_day}
use Rattle.cif_laws.proofs.Common.{day_text, date_text}
use Rattle.std.proofs.Common.{ℤ, negsuc, ◌+ℤ◌}
use Rattle.std.proofs.lemmas.Int.{by_lt_z}
use Rattle.jiff.specs.Words.{IsBetween, epoch_day}
use Rattle.jiff_core.specs.declared.civil.date.Date.{Date}
use Rattle.jiff_core.specs.Calendar.{IsCivilDate, days_in_month, day_count, days_of_years, days_of_months}
use Rattle.jiff_core.proofs.SignedLemmas.{signed_arith}
use Rattle.jiff_core.proofs.DateLemmas.{civil}
use Rattle.jiff_core.proofs.CalendarLemmas.{days_from_civil-day_count, day_count-lt_year, day_count-day, day_count-next_month}
use Rattle.jiff_core.proofs.CalendarLemmas.{day_count-next_year, day_count-last_of_year, days_in_month_bounds}
use Rattle.cif_laws.proofs.records.Dates.{day_number-day_count, day_text-day_number}

-- `number` is the number of days from 1 January 1960 to this date, which is in the years 1960 to
-- 2059
pub record IsDayOf (number year month day : ℕ) : Type 0 where
  pub low : 1960 ≤ year
  pub high : year ≤ 2059
  pub is_civil : IsCivilDate (pos year) month day
  pub count : day_count (pos year) month day ≡ number + 4_368_300

-- in the calendar, 1 January 1960 has the day count 4,368,300, and 31 December 2059 has the day
-- count 4,404,824
start_of_1960 : day_count (pos 1960) 1 1 ≡ 4_368_300
unfolding day_count days_of_years days_of_months
start_of_1960 = refl

end_of_2059 : day_count (pos 2059) 12 31 ≡ 4_404_824
unfolding day_count days_of_years days_of_months
end_of_2059 = refl

-- the number of days from 1 January 1960 to a date is the date's day number
pub number_is : (number year month day : ℕ) → IsDayOf number year month day → day_number year month day ≡ number
number_is = search (rules, day_number-day_count)

-- the day number of a date is printed like the date
pub text_is : (number year month day : ℕ) → IsDayOf number year month day → day_text number ≡ date_text year month day
text_is number year month day h = subst (λ n. day_text n ≡ date_text year month day) (number_is _ _ _ _ h) (day_text-day_number _ _ _ h.low h.high h.is_civil)

-- if the day count of a date isn't below the count of 1 January 1960 or above the count of 31
-- December 2059, the year is from 1960 to 2059
years_between : (year : ℤ) (month day : ℕ) → IsCivilDate year month day → 4_368_300 ≤ day_count year month day → day_count year month day ≤ 4_404_824
    → IsBetween (pos 1960) (pos 2059) year
years_between = search (rules, pos, signed_arith, start_of_1960, day_count-lt_year, end_of_2059, by_lt_z)

-- the calendar's day count of a date is 366 more than the number of days from -9999-01-01 to the
-- date
count_of : (date : Date) (days : ℕ) → epoch_day date +ℤ pos 4_371_587 ≡ pos days → day_count date.year date.month date.day ≡ days + 366
count_of = search (rules, days_from_civil-day_count, signed_arith)

-- if a date is `number` days after 1 January 1960, its day number is `number`, and its year is from
-- 1960 to 2059
pub day_of_date : (date : Date) (number : ℕ) → number ≤ last_day → epoch_day date +ℤ pos 4_371_587 ≡ pos (4_367_934 + number)
    → IsBetween (pos 1960) (pos 2059) date.year × IsDayOf number (unsigned_abs date.year) date.month date.day
day_of_date date number low since =
    let count = count_of date _ since in
    let years = years_between date.year _ date.day (civil date) (omega arith) (omega arith) in
    (years, by date.year (civil date) count years)
  where
    by : (year : ℤ) → IsCivilDate year date.month date.day → day_count year date.month date.day ≡ 4_367_934 + number + 366
        → IsBetween (pos 1960) (pos 2059) year → IsDayOf number (unsigned_abs year) date.month date.day
    by (pos year) is_civil count years =
        record { low = omega (arith, signed_arith, years.0); high = omega (arith, signed_arith, years.1); is_civil = is_civil; count = omega arith }
    by (negsuc year) is_civil count years = absurd (omega (arith, signed_arith, years.0))

-- if the last day of a year comes before 31 December 2059, the year is before 2059
before_2059 : (number year : ℕ) → suc number ≤ last_day → year ≤ 2059 → day_count (pos year) 12 31 ≡ number + 4_368_300 → year < 2059
before_2059 = search (rules, cases_order, end_of_2059, pos)

-- a claim is proved if it is proved in two cases: `a` is below `b`, or `b` is at most `a`
by_lt : {P : Type 0} (a b : ℕ) → (a < b → P) → (b ≤ a → P) → P
by_lt {P = P} a b below above = elim (cases_order a b) [ inl same ↦ above (omega arith) | inr (inl lt) ↦ below lt | inr (inr gt) ↦ above (omega arith) ]

-- the next day is in the same month, in the next month or in the next year
module _ (number year month day : ℕ) (low : suc number ≤ last_day) (h : IsDayOf number year month day) where
  next_day : day < days_in_month (pos year) month → IsDayOf (suc number) year month (day + 1)
  next_day = search (rules, day_count-day, pos)

  next_month : days_in_month (pos year) month ≤ day → month < 12 → IsDayOf (suc number) year (month + 1) 1
  next_month = search (rules, day_count-day, pos, day_count-next_month, days_in_month_bounds)

  next_year : days_in_month (pos year) month ≤ day → 12 ≤ month → IsDayOf (suc number) (year + 1) 1 1
  next_year last end =
      let december : month ≡ 12 = omega (arith, h.is_civil.1.1) in
      by (subst (λ m. IsDayOf number year m day) december h) (subst (λ m. days_in_month (pos year) m ≤ day) december last)
    where
      by : IsDayOf number year 12 day → 31 ≤ day → IsDayOf (suc number) (year + 1) 1 1
      by here last =
          let same : day ≡ 31 = omega (arith, here.is_civil.2.1) in
          let count : day_count (pos year) 12 31 ≡ number + 4_368_300 = subst (λ d. day_count (pos year) 12 d ≡ number + 4_368_300) same here.count in
          let step = day_count-next_year (pos year) (pos (year + 1)) (omega (arith, signed_arith)) (omega (arith, signed_arith)) in
          let end_of_year = day_count-last_of_year (pos year) in
          let high : year < 2059 = before_2059 number year low here.high count in
          record {
            low = omega (arith, here.low);
            high = omega arith;
            is_civil = (omega (arith, signed_arith), (omega arith, omega arith), (omega arith, omega arith));
            count = omega arith;
          }

-- each day number up to the last is the number of a day of the calendar
pub day_at : (number : ℕ) → number ≤ last_day → (year : ℕ) × (month : ℕ) × (day : ℕ) × IsDayOf number year month day
day_at zero low = search (rules, signed_arith, start_of_1960)
day_at (suc number) low = let before = day_at number (omega arith) in by before.0 before.1 before.2 before.3
  where
    by : (year month day : ℕ) → IsDayOf number year month day → (y : ℕ) × (m : ℕ) × (d : ℕ) × IsDayOf (suc number) y m d
    by year month day h =
        by_lt day (days_in_month (pos year) month) (λ lt. (year, month, day + 1, next_day number year month day low h lt))
        (λ last. by_lt month 12 (λ lt. (year, month + 1, 1, next_month number year month day low h last lt))
        (λ end. (year + 1, 1, 1, next_year number year month day low h last end)))
