-- Worked examples of events and docker lines.
use Rattle.cif_laws.proofs.Common.{◌≡◌, [], ◌∷◌, ◌++◌, length, refl, map, Some, codes, columns, day_text, date_text, arrival, pass, departure, dividing}
use Rattle.cif_laws.proofs.Common.{ScheduleKey, tiploc_body, Event, events_of, event_day, event_identity, first_event_at, line_of_event, line_of_association}
use Rattle.cif_laws.proofs.Common.{line_text, last_line, description_in}
use Rattle.jiff_core.specs.Calendar.{days_from_civil, day_count, days_of_years, days_of_months}
use Rattle.docker_model.specs.docker.DockerText.{files_text}
use Rattle.state_laws.proofs.examples.StateExamples.{f2_item}
use Rattle.cif_laws.proofs.records.Builders.{f2_schedule, night_schedule, changing_schedule, rename_amend}

-- the departure of the train in the example file
abbrev pub leaves_f2 : Event
leaves_f2 = record { number = 1; place = 1; occasion = departure; time = 1080 }

-- the arrival of the train in the example file
abbrev pub ends_f2 : Event
ends_f2 = record { number = 2; place = 2; occasion = arrival; time = 1140 }

events_of_f2 : events_of f2_schedule ≡ leaves_f2 ∷ ends_f2 ∷ []
events_of_f2 = refl

-- the key of the schedule in the example file
abbrev pub f2_key : ScheduleKey
f2_key = record { uid = codes "C10001"; runs_from = 23537; indicator = 80 }

departure_line : line_text (line_of_event f2_key 23537 f2_schedule leaves_f2) ≡ codes "0900  D 1A10 C10001 P   1   SL      0900 ASHFELD BRAYTON"
departure_line = refl

arrival_line : line_text (line_of_event f2_key 23537 f2_schedule ends_f2) ≡ codes "0930  A 1A10 C10001 P   2       FL  0932 ASHFELD BRAYTON"
arrival_line = refl

events_of_night : events_of night_schedule
    ≡ record { number = 1; place = 1; occasion = departure; time = 2870 }
    ∷ record { number = 2; place = 2; occasion = arrival; time = 1 }
    ∷ record { number = 3; place = 2; occasion = departure; time = 1 }
    ∷ record { number = 4; place = 3; occasion = pass; time = 20 }
    ∷ record { number = 5; place = 4; occasion = arrival; time = 40 } ∷ []
events_of_night = refl

-- the first event of the schedule is on 10 June, and all its later events are on 11 June
days_of_night : map (event_day 23537 night_schedule) (events_of night_schedule) ≡ 23537 ∷ 23538 ∷ 23538 ∷ 23538 ∷ 23538 ∷ []
days_of_night = refl

-- the key of the schedule that passes midnight
abbrev pub night_key : ScheduleKey
night_key = record { uid = codes "C20001"; runs_from = 23537; indicator = 80 }

night_lines : map (λ event. line_text (line_of_event night_key 23537 night_schedule event)) (events_of night_schedule)
    ≡ codes "2355  D 2B20 C20001 P   1   SL      2355 ASHFELD BRAYTON"
    ∷ codes "0000H A 2B20 C20001 P   2   SL  FL       ASHFELD BRAYTON"
    ∷ codes "0000H D 2B20 C20001 P   2   SL  FL  0001 ASHFELD BRAYTON"
    ∷ codes "0010  P 2B20 C20001 P                    ASHFELD BRAYTON"
    ∷ codes "0020  A 2B20 C20001 P   2       FL  0021 ASHFELD BRAYTON" ∷ []
night_lines = refl

identities_along : map (event_identity changing_schedule) (events_of changing_schedule) ≡ codes "5E50" ∷ codes "5E51" ∷ codes "5E51" ∷ []
identities_along = refl

first_at_colwell : first_event_at night_schedule (codes "COLWELL") 32 ≡ Some (record { number = 2; place = 2; occasion = arrival; time = 1 })
first_at_colwell = refl

association_line : line_text (line_of_association dividing 80 f2_key 23537 f2_schedule ends_f2 (codes "C30002") (codes "3C32"))
    ≡ codes "0930  V 1A10 C10001 P   2                C30002  3C32   "
association_line = refl

last_is_wide : length last_line ≡ 56
last_is_wide = refl

date_of_10_june : date_text 2024 6 10 ≡ codes "2024-06-10"
date_of_10_june = refl

description : description_in (Some (tiploc_body (columns 10 72 rename_amend))) ≡ codes "ASHFIELD NEW              "
description = refl

day_of_10_june : day_text 23537 ≡ codes "2024-06-10"
unfolding days_from_civil day_count days_of_years days_of_months
day_of_10_june = refl

files_of_f2 : files_text (f2_item ∷ []) ≡ codes "2024-06-09 2100 DFROC1A U DFROC1Z" ++ 10 ∷ []
unfolding days_from_civil day_count days_of_years days_of_months
files_of_f2 = refl
