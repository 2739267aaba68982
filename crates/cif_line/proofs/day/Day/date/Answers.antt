use Rattle.cif_laws.proofs.Common.{◌≡◌, pos, subst, unsigned_abs, day_text, date_text}
use Rattle.jiff.specs.Words.{IsBetween}
use Rattle.cif_line.proofs.CivilDays.{IsDayOf, text_is, day_of_date}
use Rattle.cif_line.proofs.day.Day.date.Goals as goal

-- the date that the calendar library computes from a day number has this day number
its_day : (c : goal.After-from_days_since_min)
    → IsBetween (pos 1960) (pos 2059) c.from_days_since_min.result.year
    × IsDayOf c.self.inside.number (unsigned_abs c.from_days_since_min.result.year) c.from_days_since_min.result.month c.from_days_since_min.result.day
its_day c = day_of_date c.from_days_since_min.result c.self.inside.number c.self.invariant c.from_days_since_min.ensures

pub returns-clause-years : goal.returns-clause-years
returns-clause-years c = (its_day c).0

pub returns-clause-text : goal.returns-clause-text
returns-clause-text c =
    let date = c.from_days_since_min.result in
    subst (λ n. day_text n ≡ date_text (unsigned_abs date.year) date.month date.day) c.self.view_is (text_is _ _ _ _ (its_day c).1)
