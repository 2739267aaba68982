use Rattle.cif_laws.proofs.Common.{rules, arith, ◌≡◌, ◌≤◌, ◌+◌, ◌*◌, ◌/◌, ◌∙◌, day_number, full_year, last_day}
use Rattle.cif_line.proofs.Dates.{numbered, number_bound, days_before, leap_before}
use Rattle.cif_line.proofs.calendar.day_number.Goals as goal

-- the code computes how many leap days the year has before the month, which is 1 or 0
extra_is : (c : goal.After-result-2-1) → c.from.result ≡ leap_before c.is_leap_year.result c.args.month
extra_is c = search rules

-- the code computes a sum and then subtracts 1 from it. The sum is the day number plus 1
sum_is : (c : goal.After-result-2-1)
    → 365 * c.years_from_1960-years.result + ((c.years_from_1960-years.result + 3) / 4 + c.from.result) + days_before c.args.month + c.args.day
    ≡ day_number (full_year c.args.year) c.args.month c.args.day + 1
sum_is c =
    (λ i. 365 * c.years_from_1960-years.result + ((c.years_from_1960-years.result + 3) / 4 + extra_is c i) + days_before c.args.month + c.args.day)
    ∙ numbered c.years_from_1960-years.result (full_year c.args.year) c.args.month c.args.day c.years_from_1960-years.ensures.value (omega arith)
    c.requires.good c.is_leap_year.result (c.is_leap_year.ensures c.requires.year_in)

-- the day number is at most the last day's number
bound_is : (c : goal.After-result-2-1) → day_number (full_year c.args.year) c.args.month c.args.day ≤ last_day
bound_is c = number_bound _ _ _ _ c.years_from_1960-years.ensures.value (omega arith) c.requires.good

pub overflow_add-result-3 : goal.overflow_add-result-3
overflow_add-result-3 c = omega (arith, sum_is c, bound_is c)

pub returns-clause-value : goal.returns-clause-value
returns-clause-value c = omega (arith, sum_is c)

pub returns-clause-bound : goal.returns-clause-bound
returns-clause-bound c = omega (arith, sum_is c, bound_is c)
