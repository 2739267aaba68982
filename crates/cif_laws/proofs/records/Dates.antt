-- Lemmas on day numbers, and on their relation to the calendar of the crate `jiff`.
use Rattle.cif_laws.proofs.Common.{◌≡◌, ℕ, ◌≤◌, true, pos, arith, zero, suc, ◌+◌, ◌<◌, ◌∙◌, subst, Bool, false, cond, refl, inl, inr, ◌-◌, rules, ◌↔◌, nat_le}
use Rattle.cif_laws.proofs.Common.{leb-true, le-leb, cases_order, lt-leb, is_calendar_day, day_number, day_text, date_text}
use Rattle.std.specs.Prelude.{count_by}
use Rattle.std.specs.List.{range_with_len}
use Rattle.std.proofs.lemmas.List.Sums.{sum_by-cons}
use Rattle.jiff_core.specs.Calendar.{IsDate, days_in_month, day_count, days_of_years, days_of_months, IsCivilDate}
use Rattle.jiff_core.proofs.SignedLemmas.{signed_arith}
use Rattle.jiff_core.proofs.CalendarLemmas.{days_in_month_bounds, day_count-lt_year, day_count-lt_month, day_count-day, days_from_civil-day_count}
use Rattle.docker_model.specs.records.Date.{year_of, month_of, day_of_month}
use Rattle.cif_laws.proofs.lists.BoolsAndOptions.{and_true as and_both, both}

-- a year, a month and a day pass the test `is_calendar_day` if and only if they are a date in the
-- calendar of `jiff`
pub is_calendar_day-IsDate : (year month day : ℕ) → year ≤ 9999 → (is_calendar_day year month day ≡ true) ↔ IsDate (pos year) (pos month) (pos day)
is_calendar_day-IsDate = search (rules, both, leb-true, pos, signed_arith, and_both, le-leb)

-- if the first `k` numbers of a range pass a test and the other numbers of the range fail it,
-- `count_by` is `k`
count_prefix : (p : ℕ → Bool) (a n k : ℕ) → k ≤ n → ((i : ℕ) → i < k → p (a + i) ≡ true) → ((i : ℕ) → k ≤ i → i < n → p (a + i) ≡ false)
    → count_by p (range_with_len a n) ≡ k
count_prefix p a zero k within passes fails = omega arith
count_prefix p a (suc n) zero within passes fails =
    let first : p a ≡ false = subst (λ x. p x ≡ false) (omega arith) (fails 0 (omega arith) (omega arith)) in
    let rest = count_prefix p (a + 1) n 0 (omega arith) (λ i below. absurd (omega arith)) (λ i low high. subst (λ x. p x ≡ false) (omega arith)
    (fails (i + 1) (omega arith) (omega arith))) in
    sum_by-cons (λ x. cond (p x) 1 0) a (range_with_len (a + 1) n) ∙ (λ i. cond (first i) 1 0 + rest i)
count_prefix p a (suc n) (suc k) within passes fails =
    let first : p a ≡ true = subst (λ x. p x ≡ true) (omega arith) (passes 0 (omega arith)) in
    let rest = count_prefix p (a + 1) n k (omega arith)
    (λ i below. subst (λ x. p x ≡ true) (shifted i) (passes (i + 1) (omega arith)))
    (λ i low high. subst (λ x. p x ≡ false) (shifted i) (fails (i + 1) (omega arith) (omega arith))) in
    sum_by-cons (λ x. cond (p x) 1 0) a (range_with_len (a + 1) n) ∙ (λ i. cond (first i) 1 0 + rest i) ∙ (omega arith)
  where
    shifted : (i : ℕ) → a + (i + 1) ≡ (a + 1) + i
    shifted i = omega arith

-- 1 January 1960 has the day count 4,368,300 in the calendar of `jiff`
start_of_1960 : day_count (pos 1960) 1 1 ≡ 4_368_300
unfolding day_count days_of_years days_of_months
start_of_1960 = refl

civil_start : (y : ℕ) → y ≤ 9999 → IsCivilDate (pos y) 1 1
civil_start y low = (omega (arith, signed_arith), (omega arith, omega arith), (omega arith, omega (arith, days_in_month_bounds (pos y) 1)))

later_year : (y y₂ m d m₂ d₂ : ℕ) → IsCivilDate (pos y) m d → 1 ≤ d₂ → y < y₂ → day_count (pos y) m d < day_count (pos y₂) m₂ d₂
later_year y y₂ m d m₂ d₂ civil day lt = day_count-lt_year (pos y) m d (pos y₂) m₂ d₂ civil day (omega (arith, signed_arith))

-- no day of a year is earlier than 1 January of that year
first_of_year : (y m d : ℕ) → y ≤ 9999 → 1 ≤ m → 1 ≤ d → day_count (pos y) 1 1 ≤ day_count (pos y) m d
first_of_year y m d low month day = elim (cases_order 1 m) [
  | inl same ↦ let step = day_count-day (pos y) 1 1 d (omega arith) day in subst (λ v. day_count (pos y) 1 1 ≤ day_count (pos y) v d) same (omega arith)
  | inr (inl lt) ↦ let up = day_count-lt_month (pos y) 1 1 m d (civil_start y low) day lt in omega arith
  | inr (inr gt) ↦ absurd (omega arith)
]

first_of_month : (y m d : ℕ) → 1 ≤ d → day_count (pos y) m 1 ≤ day_count (pos y) m d
first_of_month y m d day = let step = day_count-day (pos y) m 1 d (omega arith) day in omega arith

-- the day number of a date is its day count in the calendar of `jiff`, minus the day count of 1
-- January 1960
pub day_number-day_count : (y m d : ℕ) → 1960 ≤ y → y ≤ 9999 → 1 ≤ m → 1 ≤ d → day_number y m d + 4_368_300 ≡ day_count (pos y) m d
day_number-day_count = search (rules, pos, signed_arith, days_from_civil-day_count, start_of_1960, first_of_year, cases_order, later_year, civil_start)

-- `year_of`, `month_of` and `day_of_month` are inverse to `day_number`
module _ (y m d : ℕ) (year : 1960 ≤ y) (last : y ≤ 2059) (civil : IsCivilDate (pos y) m d) where
  number_here : day_number y m d + 4_368_300 ≡ day_count (pos y) m d
  number_here = day_number-day_count y m d year (omega arith) civil.1.0 civil.2.0

  year_passes : (i : ℕ) → i < y - 1959 → nat_le (day_number (1960 + i) 1 1) (day_number y m d) ≡ true
  year_passes = search (rules, cases_order, first_of_year, day_number-day_count, number_here, le-leb, later_year, civil_start)

  year_fails : (i : ℕ) → y - 1959 ≤ i → i < 100 → nat_le (day_number (1960 + i) 1 1) (day_number y m d) ≡ false
  year_fails = search (rules, later_year, day_number-day_count, number_here, lt-leb)

  -- `year_of` converts the day number of a date to the year of the date
  pub year_of-day_number : year_of (day_number y m d) ≡ y
  year_of-day_number =
      let counted = count_prefix (λ v. nat_le (day_number v 1 1) (day_number y m d)) 1960 100 (y - 1959) (omega arith) year_passes year_fails in
      omega arith

  month_passes : (i : ℕ) → i < m → nat_le (day_number y (1 + i) 1) (day_number y m d) ≡ true
  month_passes i below = elim (cases_order (1 + i) m) [
    | inl same ↦ search (rules, first_of_month, day_number-day_count, number_here, le-leb, civil.2.0, civil.1.0)
    | inr (inl lt) ↦
        let up = day_count-lt_month (pos y) (1 + i) 1 m d (
          civil.0,
          (omega arith, (let high = civil.1.1 in omega arith)),
          (omega arith, omega (arith, days_in_month_bounds (pos y) (1 + i))),
        ) civil.2.0 lt in
        let there = day_number-day_count y (1 + i) 1 year (omega arith) (omega arith) (omega arith) in
        let here = number_here in
        le-leb (day_number y (1 + i) 1) (day_number y m d) (omega arith)
    | inr (inr gt) ↦ absurd (omega arith)
  ]

  month_fails : (i : ℕ) → m ≤ i → i < 12 → nat_le (day_number y (1 + i) 1) (day_number y m d) ≡ false
  month_fails i low high =
      let up = day_count-lt_month (pos y) m d (1 + i) 1 civil (omega arith) (omega arith) in
      let there = day_number-day_count y (1 + i) 1 year (omega arith) (omega arith) (omega arith) in
      let here = number_here in
      lt-leb (day_number y (1 + i) 1) (day_number y m d) (omega arith)

  -- `month_of` converts the day number of a date to the month of the date
  pub month_of-day_number : month_of (day_number y m d) ≡ m
  month_of-day_number = search (rules, count_prefix, month_passes, month_fails, year_of-day_number)

  -- `day_of_month` converts the day number of a date to the day of the month
  pub day_of_month-day_number : day_of_month (day_number y m d) ≡ d
  day_of_month-day_number = grind (arith, day_number-day_count, number_here, day_count-day, pos, year_of-day_number, month_of-day_number)

  -- the day number of a date is printed as this date
  pub day_text-day_number : day_text (day_number y m d) ≡ date_text y m d
  day_text-day_number = search (rules, year_of-day_number, month_of-day_number, day_of_month-day_number)

-- like `day_text-day_number`, for a date that passes the test `is_calendar_day`
pub day_text-of_calendar : (year month day : ℕ) → 1960 ≤ year → year ≤ 2059 → is_calendar_day year month day ≡ true
    → day_text (day_number year month day) ≡ date_text year month day
day_text-of_calendar year month day low high h =
    let parts = both _ _ h in
    let months = both _ _ parts.0 in
    let days = both _ _ parts.1 in
    day_text-day_number year month day low high (
      omega (arith, signed_arith),
      (leb-true 1 month months.0, leb-true month 12 months.1),
      (leb-true 1 day days.0, leb-true day (days_in_month (pos year) month) days.1),
    )
