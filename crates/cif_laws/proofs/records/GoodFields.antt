-- The values of good fields: day numbers, minutes, TIPLOCs and letters are within their bounds.
use Rattle.cif_laws.proofs.Common.{◌≡◌, ℕ, ◌≤◌, List, true, arith, ◌+◌, refl, rules, common_steps, false, pos, ◌<◌, sym, ◌∙◌, ◌⊎◌, eqb-true, slice_index, not}
use Rattle.cif_laws.proofs.Common.{◌==◌, ◌||◌, list_all, is_ascii_digit, leb-true, leb-false, ltb-true, two_digits, full_year, is_calendar_day, day_number}
use Rattle.cif_laws.proofs.Common.{IsDay, is_date, date_number, is_date_day_first, is_clock, is_blank, is_tiploc, is_new_tiploc}
use Rattle.jiff_core.specs.Calendar.{day_count, days_of_years, days_of_months}
use Rattle.jiff_core.proofs.SignedLemmas.{signed_arith}
use Rattle.jiff_core.proofs.CalendarLemmas.{day_count-lt_year}
use Rattle.docker_model.specs.records.Date.{date_number_day_first}
use Rattle.docker_model.specs.records.Clock.{minute_of}
use Rattle.cif_laws.proofs.records.Dates.{is_calendar_day-IsDate, day_number-day_count}
use Rattle.cif_laws.proofs.lists.BoolsAndOptions.{both, either}

-- ---- the day number of a good date is from 0 to 36524

digit_at : (field : List ℕ) (i : ℕ) → list_all is_ascii_digit field ≡ true → slice_index field i ≤ 57
digit_at = grind (common_steps, arith, leb-true, both)

pair_below : (field : List ℕ) (i : ℕ) → list_all is_ascii_digit field ≡ true → two_digits field i ≤ 99
pair_below field i all = let a = digit_at field i all in let b = digit_at field (i + 1) all in omega arith

year_is : (n : ℕ) → n ≤ 99 → (1960 ≤ full_year n) × (full_year n ≤ 2059)
year_is = search (rules, leb-true, leb-false)

new_year_2060 : day_count (pos 2060) 1 1 ≡ 4_404_825
unfolding day_count days_of_years days_of_months
new_year_2060 = refl

day_within : (year month day : ℕ) → 1960 ≤ year → year ≤ 2059 → is_calendar_day year month day ≡ true → IsDay (day_number year month day)
day_within = search (rules, is_calendar_day-IsDate, signed_arith, pos, day_count-lt_year, day_number-day_count, new_year_2060)

-- the day number of a good date is from 0 to 36524
pub date_is_day : (field : List ℕ) → is_date field ≡ true → IsDay (date_number field)
date_is_day = search (rules, both, year_is, pair_below, day_within)

-- the day number of a good date that is written with its day first is from 0 to 36524
pub date_day_first_is_day : (field : List ℕ) → is_date_day_first field ≡ true → IsDay (date_number_day_first field)
date_day_first_is_day = search (rules, both, year_is, pair_below, day_within)

-- ---- the values of good times, TIPLOCs and letters are within their bounds

-- the minute of a good clock time is below 1440
pub clock_minute : (field : List ℕ) → is_clock field ≡ true → minute_of field < 1440
clock_minute = search (rules, both, ltb-true)

-- a good TIPLOC doesn't start with a space
pub tiploc_starts : (field : List ℕ) → is_tiploc field ≡ true → ¬ (slice_index field 0 ≡ 32)
tiploc_starts field is same = let bad : false ≡ true = sym (λ i. not (same i == 32)) ∙ is in cc

-- a good new TIPLOC that isn't blank doesn't start with a space
pub new_tiploc_starts : (field : List ℕ) → is_new_tiploc field ≡ true → is_blank field ≡ false → ¬ (slice_index field 0 ≡ 32)
new_tiploc_starts = search (rules, either, tiploc_starts)

-- a good update indicator is F or U
pub update_letter : (letter : ℕ) → ((letter == 70) || (letter == 85)) ≡ true → (letter ≡ 70) ⊎ (letter ≡ 85)
update_letter = search (rules, either, eqb-true)
