-- Worked examples of days for which a schedule may count, and of days for which it can't. The
-- schedule runs from 10 to 16 June 2024, day 23537 to day 23543.
use Rattle.cif_laws.proofs.Common.{◌≡◌, [], true, false, refl}
use Rattle.jiff_core.specs.Calendar.{days_from_civil, day_count, days_of_years, days_of_months}
use Rattle.docker_laws.specs.NearDay.{may_reach, near_entries}
use Rattle.docker_laws.specs.Thinning.{excerpt_on}
use Rattle.cif_laws.proofs.records.Builders.{night_schedule}
use Rattle.docker_laws.proofs.examples.ExcerptExamples.{place, alone}

-- on 9 June, the day before the schedule's first day, the schedule may count. Its train may be the
-- associated train of a train on 9 June, and start a day later
partner_tomorrow : near_entries 23536 alone.entries ≡ alone.entries
unfolding days_from_civil day_count days_of_years days_of_months
partner_tomorrow = refl

-- on 8 June, two days before its first day, the schedule can't count
too_early : near_entries 23535 alone.entries ≡ []
unfolding days_from_civil day_count days_of_years days_of_months
too_early = refl

-- on 19 June, three days after its last day, the schedule may count. A train may start on 17 June,
-- pass midnight twice, and have the train of 16 June as its associated train
partner_long_ago : near_entries 23546 alone.entries ≡ alone.entries
unfolding days_from_civil day_count days_of_years days_of_months
partner_long_ago = refl

-- on 20 June, four days after its last day, the schedule can't count
too_late : near_entries 23547 alone.entries ≡ []
unfolding days_from_civil day_count days_of_years days_of_months
too_late = refl

-- ---- the days on which a schedule may have an event

-- the excerpt for COLWELL on 10 June, the schedule's first day, has the schedule
first_day : (excerpt_on place 23537 alone).entries ≡ alone.entries
unfolding days_from_civil day_count days_of_years days_of_months
first_day = refl

-- the excerpt for COLWELL on 9 June doesn't have the schedule. It calls at COLWELL, but not on this
-- day, and it isn't the schedule of an associated train
day_before : (excerpt_on place 23536 alone).entries ≡ []
unfolding days_from_civil day_count days_of_years days_of_months
day_before = refl

-- the schedule doesn't pass midnight, so no event of it is on 17 June, the day after its last day
day_after : (excerpt_on place 23544 alone).entries ≡ []
unfolding days_from_civil day_count days_of_years days_of_months
day_after = refl

-- a schedule of 10 June passes midnight, so it may have events on the two days after it
night_reaches : may_reach 23538 night_schedule ≡ true
unfolding days_from_civil day_count days_of_years days_of_months
night_reaches = refl

night_ends : may_reach 23540 night_schedule ≡ false
unfolding days_from_civil day_count days_of_years days_of_months
night_ends = refl
