-- Worked examples of the changes that are kept for COLWELL and a day, and of four wrong thinnings.
-- Each of the wrong thinnings keeps too few changes or records.
use Rattle.cif_laws.proofs.Common.{length-append, ◌≡◌, ℕ, ◌≤◌, List, [], ◌∷◌, refl, inl, inr, rules, Some, None, arith, lit<, ap, sym, ◌∙◌, subst, Bool, true}
use Rattle.cif_laws.proofs.Common.{false, cond, codes, ◌↔◌, ◌&&◌, nat_le, Greater, is_eq, leb-true, spaces, arrival, CallsAt, midnights, IsSchedule}
use Rattle.cif_laws.proofs.Common.{first_record, Key, tiploc_key, association_key, schedule_key, ScheduleKey, tiploc_body, association_body, schedule_body, Act}
use Rattle.cif_laws.proofs.Common.{delete, put, Change, schedule_key_cmp, IsAtMost, Table, empty_table, Event, event_day, IsRunning, TrainRuns, schedule_runs}
use Rattle.cif_laws.proofs.Common.{schedule_choice_cmp, DockerLine, line_of_event, IsAssociationLine, IsPartnerIdentity, partner_start, IsEventLine}
use Rattle.cif_laws.proofs.Common.{IsDockerList}
use Rattle.jiff_core.specs.Calendar.{days_from_civil, day_count, days_of_years, days_of_months}
use Rattle.docker_laws.specs.StandIn.{IsStandIn}
use Rattle.docker_laws.specs.Thinning.{lines_for, thin_changes, table_of, IsThinning}
use Rattle.cif_laws.proofs.records.Builders.{f2, no_text, bs, lo, li, lt, night_schedule}
use Rattle.cif_laws.proofs.lists.Membership.{nil-Contains}
use Rattle.cif_laws.proofs.lists.BoolsAndOptions.{both, none_some}
use Rattle.cif_laws.proofs.orders.Orders.{same_key}
use Rattle.state_laws.proofs.indexes.CallsTest.{calls_test}
use Rattle.state_laws.proofs.examples.StateExamples.{f2_state}
use Rattle.docker_laws.specs.FileSummary.{summary_of}
use Rattle.docker_laws.proofs.dockers.Events.{event_calls}
use Rattle.docker_laws.proofs.dockers.FewMidnights.{falls_below}
use Rattle.docker_laws.proofs.dockers.ThinDocker.{stand_in_by_first}
use Rattle.docker_laws.proofs.dockers.ThinChanges.{thinning_of_all, thinning_removed}
use Rattle.docker_laws.proofs.examples.ExcerptExamples.{place, key_of, stops, stops_key, short_key, link, link_key, far_link, far_link_key}

-- ---- thin records

-- for a train that doesn't call at the place, only the basic schedule is kept, followed by a made-up
-- origin and terminus
night_elsewhere : lines_for (codes "EASTRIG") 23537 night_schedule
    ≡ bs (codes "N") (codes "C20001") (codes "240610") (codes "240610") (codes "1000000") (codes "2B20") (codes "P")
    ∷ lo (codes "NOWHERE") no_text (codes "0000") (codes "0000") no_text no_text
    ∷ lt (codes "NOWHERE") no_text (codes "0000") (codes "0000") no_text no_text ∷ []
night_elsewhere = refl

-- if the place is NOWHERE, the made-up origin and terminus are at ANOTHER
night_from_nowhere : lines_for (codes "NOWHERE") 23537 night_schedule
    ≡ bs (codes "N") (codes "C20001") (codes "240610") (codes "240610") (codes "1000000") (codes "2B20") (codes "P")
    ∷ lo (codes "ANOTHER") no_text (codes "0000") (codes "0000") no_text no_text
    ∷ lt (codes "ANOTHER") no_text (codes "0000") (codes "0000") no_text no_text ∷ []
night_from_nowhere = refl

-- for a train that calls at the place, all records are kept, if it runs on the day
night_here : lines_for place 23537 night_schedule ≡ night_schedule
unfolding days_from_civil day_count days_of_years days_of_months
night_here = refl

-- all records are also kept if the train starts on the day before and passes midnight
night_after : lines_for place 23538 night_schedule ≡ night_schedule
unfolding days_from_civil day_count days_of_years days_of_months
night_after = refl

-- for a day on which the train can't have an event, only the basic schedule is kept
night_before : lines_for place 23536 night_schedule
    ≡ bs (codes "N") (codes "C20001") (codes "240610") (codes "240610") (codes "1000000") (codes "2B20") (codes "P")
    ∷ lo (codes "NOWHERE") no_text (codes "0000") (codes "0000") no_text no_text
    ∷ lt (codes "NOWHERE") no_text (codes "0000") (codes "0000") no_text no_text ∷ []
unfolding days_from_civil day_count days_of_years days_of_months
night_before = refl

-- ---- a list of changes

abbrev change_of : ℕ → Key → Act → Change
change_of number key act = record { number = number; key = key; act = act }

-- an overlay for 11 June. On this day the train takes another route and doesn't call at COLWELL
abbrev way_round : List (List ℕ)
way_round =
    bs (codes "N") (codes "C40001") (codes "240611") (codes "240611") (codes "0100000") (codes "4D40") (codes "O")
    ∷ lo (codes "ASHFELD") no_text (codes "2300") no_text (codes "1") no_text
    ∷ li (codes "DUNMERE") no_text no_text no_text (codes "2320") no_text no_text no_text no_text no_text
    ∷ lt (codes "BRAYTON") no_text (codes "2350") no_text (codes "1") no_text ∷ []

-- the thin records of the overlay
abbrev thin_way_round : List (List ℕ)
thin_way_round =
    first_record way_round ∷ lo (codes "NOWHERE") no_text (codes "0000") (codes "0000") no_text no_text
    ∷ lt (codes "NOWHERE") no_text (codes "0000") (codes "0000") no_text no_text ∷ []

-- a schedule that runs from 1 to 3 June
abbrev long_ago : List (List ℕ)
long_ago =
    bs (codes "N") (codes "C40003") (codes "240601") (codes "240603") (codes "1111111") (codes "4D43") (codes "P")
    ∷ lo (codes "ASHFELD") no_text (codes "2300") no_text (codes "1") no_text
    ∷ lt (codes "COLWELL") no_text (codes "2350") no_text (codes "1") no_text ∷ []

abbrev all_changes : List Change
all_changes =
    change_of 2 (tiploc_key (codes "ASHFELD")) (put (tiploc_body (spaces 63))) ∷ change_of 3 (tiploc_key (codes "COLWELL")) (put (tiploc_body (spaces 63)))
    ∷ change_of 4 (association_key link_key) (put (association_body link)) ∷ change_of 5 (association_key far_link_key) (put (association_body far_link))
    ∷ change_of 6 (schedule_key stops_key) (put (schedule_body stops)) ∷ change_of 9 (schedule_key short_key) (put (schedule_body way_round))
    ∷ change_of 13 (schedule_key (key_of (codes "C40003") 23528 80)) (put (schedule_body long_ago)) ∷ []

-- for COLWELL on 11 June five changes are kept: puts of the TIPLOC, the association at COLWELL, the
-- train that calls there and the thin overlay, and a deletion
kept_of_all : thin_changes place 23538 all_changes
    ≡ change_of 3 (tiploc_key (codes "COLWELL")) (put (tiploc_body (spaces 63))) ∷ change_of 4 (association_key link_key) (put (association_body link))
    ∷ change_of 6 (schedule_key stops_key) (put (schedule_body stops)) ∷ change_of 9 (schedule_key short_key) (put (schedule_body thin_way_round))
    ∷ change_of 13 (schedule_key (key_of (codes "C40003") 23528 80)) delete ∷ []
unfolding days_from_civil day_count days_of_years days_of_months
kept_of_all = refl

-- ---- two tables with different dockers

-- two dockers for a day differ if one of them has a line and the other has none
differ : (whole wrong : Table) (day : ℕ) (line : DockerLine) → IsEventLine wrong place day line
    → ((other : DockerLine) → ¬ IsEventLine whole place day other) → ((other : DockerLine) → ¬ IsAssociationLine whole place day other)
    → ¬ ((lines : List DockerLine) → IsDockerList whole place day lines ↔ IsDockerList wrong place day lines)
differ whole wrong day line has no_event no_association same = nil-Contains line (((((same []).0 nothing).members line).1 (inl has)))
  where
    nothing : IsDockerList whole place day []
    nothing = record {
      ascending = tt;
      members = λ other. (
        λ among. absurd (nil-Contains other among),
        λ told. absurd (elim told [
          | inl event ↦ no_event other event
          | inr association ↦ no_association other association
        ]),
      );
    }

-- a change that puts a schedule
abbrev put_schedule : ℕ → ScheduleKey → List (List ℕ) → Change
put_schedule number key lines = change_of number (schedule_key key) (put (schedule_body lines))

-- a list of one change: a put of the schedule of the train that ends at COLWELL
abbrev stops_alone : List Change
stops_alone = put_schedule 2 stops_key stops ∷ []

-- the event of the train's arrival at COLWELL at 23:50
abbrev arrives : Event
arrives = record { number = 2; place = 2; occasion = arrival; time = 2860 }

abbrev schedule_in : Key → ScheduleKey
schedule_in (schedule_key key) = key
schedule_in _ = stops_key

-- schedule keys that compare as equal are equal
same_schedule : (key other : ScheduleKey) → is_eq (schedule_key_cmp key other) ≡ true → key ≡ other
same_schedule key other h = ap schedule_in (same_key (schedule_key key) (schedule_key other) h)

-- the table after `stops_alone` has no schedule with a key other than `stops_key`
only_stops : (other : ScheduleKey) (others : List (List ℕ)) → table_of stops_alone (schedule_key other) ≡ Some (schedule_body others) → stops_key ≡ other
only_stops = grind (arith, stops_key, stops, same_schedule, none_some)

-- according to the schedules in the table after `stops_alone`, the train runs and has a docker line
-- at COLWELL
stops_line : (start : ℕ) → schedule_runs (first_record stops) start ≡ true → event_day start stops arrives ≡ start
    → IsEventLine (table_of stops_alone) place start (line_of_event stops_key start stops arrives)
stops_line start runs today = record {
  start = start;
  key = stops_key;
  schedule = stops;
  train_runs = search (rules, stops_key, only_stops);
  event = arrives;
  among = (1, lit< tt, refl);
  here = refl;
  today = today;
  is = refl;
}

-- ---- wrong: the put of a schedule that can't count is dropped, and an earlier put of the same key
-- is kept

-- a revision that makes the schedule end on 10 June
abbrev ended : List (List ℕ)
ended =
    bs (codes "N") (codes "C40001") (codes "240610") (codes "240610") (codes "1000000") (codes "4D40") (codes "P")
    ∷ lo (codes "ASHFELD") no_text (codes "2300") no_text (codes "1") no_text
    ∷ lt (codes "COLWELL") no_text (codes "2350") no_text (codes "1") no_text ∷ []

abbrev revised : List Change
revised = put_schedule 2 stops_key stops ∷ put_schedule 5 stops_key ended ∷ []

-- for 16 June the revision is kept in its thin form, which is a deletion
revision_deletes : thin_changes place 23543 revised ≡ put_schedule 2 stops_key stops ∷ change_of 5 (schedule_key stops_key) delete ∷ []
unfolding days_from_civil day_count days_of_years days_of_months
revision_deletes = refl

-- for 16 June the put before the revision may also be removed, so that no change is kept
revision_removes : IsThinning place 23543 revised []
unfolding days_from_civil day_count days_of_years days_of_months
revision_removes = search (rules, thinning_removed, place, stops_key, thinning_of_all)

-- after the revision, `ended` is the only schedule in the table
revised_is : (other : ScheduleKey) (others : List (List ℕ)) → table_of revised (schedule_key other) ≡ Some (schedule_body others) → ended ≡ others
revised_is = grind (arith, stops_key, stops, none_some)

ends_by : (start : ℕ) → schedule_runs (first_record ended) start ≡ true → start ≤ 23537
unfolding days_from_civil day_count days_of_years days_of_months
ends_by start runs = leb-true start 23537 (both (nat_le 23537 start) (nat_le start 23537) (both (nat_le 23537 start && nat_le start 23537) _ runs).0).1

no_falls : midnights ended ≡ 0
no_falls = refl

-- on 16 June no train arrives at COLWELL
no_arrival : (line : DockerLine) → ¬ IsEventLine (table_of revised) place 23543 line
no_arrival line is =
    let same = revised_is is.key is.schedule is.train_runs.chosen.running.is_live in
    let runs = is.train_runs.chosen.running.runs_then in
    let low = ends_by is.start (subst (λ (ls : List (List ℕ)). schedule_runs (first_record ls) is.start ≡ true) (sym same) runs) in
    let front = falls_below is.schedule is.event.number in
    let few : midnights is.schedule ≡ 0 = ap midnights (sym same) ∙ no_falls in
    let today = is.today in
    omega arith

no_link : (line : DockerLine) → ¬ IsAssociationLine (table_of revised) place 23543 line
no_link line is = none_some (association_body is.association) is.chosen.associated.is_live

-- if the revision is dropped, but not the put before it, the docker is wrong: a train arrives at
-- COLWELL on 16 June
dropped_revision_is_wrong : ¬ ((lines : List DockerLine) → IsDockerList (table_of revised) place 23543 lines
    ↔ IsDockerList (table_of stops_alone) place 23543 lines)
unfolding days_from_civil day_count days_of_years days_of_months
dropped_revision_is_wrong = differ (table_of revised) _ 23543 _ (stops_line 23543 refl refl) no_arrival no_link

-- ---- wrong: a schedule that doesn't call at the place is dropped

abbrev overlaid : List Change
overlaid = put_schedule 2 stops_key stops ∷ put_schedule 5 short_key way_round ∷ []

-- for 11 June the overlay is kept in its thin form
overlay_is_kept : thin_changes place 23538 overlaid ≡ put_schedule 2 stops_key stops ∷ put_schedule 5 short_key thin_way_round ∷ []
unfolding days_from_civil day_count days_of_years days_of_months
overlay_is_kept = refl

-- on 11 June the train runs according to the overlay
overlay_runs : IsRunning (table_of overlaid) (codes "C40001") 23538 short_key way_round
unfolding days_from_civil day_count days_of_years days_of_months
overlay_runs = record { uid_is = refl; is_live = refl; runs_then = refl }

not_there : (lines : List (List ℕ)) → way_round ≡ lines → ¬ CallsAt place lines
not_there = search (rules, place, calls_test)

-- on 11 June the train doesn't run according to the schedule that calls at COLWELL
not_by_stops : (uid : List ℕ) (start : ℕ) (key : ScheduleKey) (lines : List (List ℕ)) → stops_key ≡ key → start ≡ 23538
    → ¬ TrainRuns (table_of overlaid) uid start key lines
not_by_stops uid start key lines same day runs =
    let uid_is : codes "C40001" ≡ uid = ap (λ (k : ScheduleKey). k.uid) same ∙ runs.chosen.running.uid_is in
    let running : IsRunning (table_of overlaid) uid start short_key way_round = search (rules, overlaid, short_key, way_round, overlay_runs) in
    runs.chosen.first short_key way_round running (subst (λ (k : ScheduleKey). schedule_choice_cmp k short_key ≡ Greater) same refl)

no_falls_of_stops : midnights stops ≡ 0
no_falls_of_stops = refl

-- on 11 June no train arrives at COLWELL
no_arrival_then : (line : DockerLine) → ¬ IsEventLine (table_of overlaid) place 23538 line
no_arrival_then line is = by (is_eq (schedule_key_cmp short_key is.key)) (is_eq (schedule_key_cmp stops_key is.key)) refl is.train_runs.chosen.running.is_live
  where
    started : stops ≡ is.schedule → is.start ≡ 23538
    started same = search (rules, falls_below, no_falls_of_stops)

    by : (b c : Bool) → is_eq (schedule_key_cmp stops_key is.key) ≡ c
        → cond b (Some (schedule_body way_round)) (cond c (Some (schedule_body stops)) None) ≡ Some (schedule_body is.schedule) → ⊥
    by true c h there = not_there is.schedule (let same : way_round ≡ is.schedule = cc in same) (event_calls is.schedule is.event place is.among is.here)
    by false true h there =
        not_by_stops is.key.uid is.start is.key is.schedule (same_schedule stops_key is.key h)
        (started (let same : stops ≡ is.schedule = cc in same)) is.train_runs
    by false false h there = none_some (schedule_body is.schedule) there

no_link_then : (line : DockerLine) → ¬ IsAssociationLine (table_of overlaid) place 23538 line
no_link_then line is = none_some (association_body is.association) is.chosen.associated.is_live

-- if the overlay is dropped, the docker is wrong: a train arrives at COLWELL on 11 June
dropped_overlay_is_wrong : ¬ ((lines : List DockerLine) → IsDockerList (table_of overlaid) place 23538 lines
    ↔ IsDockerList (table_of stops_alone) place 23538 lines)
unfolding days_from_civil day_count days_of_years days_of_months
dropped_overlay_is_wrong = differ (table_of overlaid) _ 23538 _ (stops_line 23538 refl refl) no_arrival_then no_link_then

-- the overlay with another origin and another terminus. The overlay may also be kept in this form,
-- because neither is COLWELL
abbrev other_ends : List (List ℕ)
other_ends =
    first_record way_round ∷ lo (codes "EASTRIG") no_text (codes "0000") no_text no_text no_text
    ∷ lt (codes "EASTRIG") no_text (codes "0000") no_text no_text no_text ∷ []

other_ends_serve : IsStandIn place 23538 way_round other_ends
other_ends_serve = stand_in_by_first place 23538 way_round other_ends refl refl refl

-- ---- wrong: a schedule keeps only its basic schedule

basic_alone_is_wrong : ¬ IsSchedule (first_record stops ∷ [])
basic_alone_is_wrong = search (rules, stops, length-append)

-- ---- wrong: an associated train that starts on the next day is dropped

-- the schedule of a train that runs on 12 June and doesn't call at COLWELL
abbrev follows_on : List (List ℕ)
follows_on =
    bs (codes "N") (codes "C40002") (codes "240612") (codes "240612") (codes "0010000") (codes "4D42") (codes "P")
    ∷ lo (codes "BRAYTON") no_text (codes "0010") no_text (codes "1") no_text
    ∷ lt (codes "ASHFELD") no_text (codes "0050") no_text (codes "1") no_text ∷ []

abbrev follows_on_key : ScheduleKey
follows_on_key = key_of (codes "C40002") 23539 80

abbrev partner_alone : List Change
partner_alone = put_schedule 2 follows_on_key follows_on ∷ []

-- the put of the train's thin records
abbrev thin_partner : List Change
thin_partner =
    put_schedule 2 follows_on_key
    (first_record follows_on ∷ lo (codes "NOWHERE") no_text (codes "0000") (codes "0000") no_text no_text
    ∷ lt (codes "NOWHERE") no_text (codes "0000") (codes "0000") no_text no_text ∷ []) ∷ []

-- for 11 June the train's schedule is kept: the train may be the associated train of a train on 11
-- June, and start a day later
partner_is_kept : thin_changes place 23538 partner_alone ≡ thin_partner
unfolding days_from_civil day_count days_of_years days_of_months
partner_is_kept = refl

-- for 15 June the train's schedule is kept too: a train may start on 13 June, pass midnight twice,
-- and have the train of 12 June as its associated train
partner_is_still_kept : thin_changes place 23542 partner_alone ≡ thin_partner
unfolding days_from_civil day_count days_of_years days_of_months
partner_is_still_kept = refl

-- for 10 and 16 June the train's schedule isn't kept: the thin form of its put is a deletion
partner_is_far : (thin_changes place 23537 partner_alone ≡ change_of 2 (schedule_key follows_on_key) delete ∷ [])
    × (thin_changes place 23543 partner_alone ≡ change_of 2 (schedule_key follows_on_key) delete ∷ [])
unfolding days_from_civil day_count days_of_years days_of_months
partner_is_far = (refl, refl)

only_follows_on : (other : ScheduleKey) (others : List (List ℕ)) → table_of partner_alone (schedule_key other) ≡ Some (schedule_body others)
    → follows_on_key ≡ other
only_follows_on = grind (arith, same_schedule, none_some)

-- the docker of 11 June shows the associated train's identity, if the association has the date
-- indicator `N`
identity_there : IsPartnerIdentity (table_of partner_alone) (codes "C40002") (partner_start 78 23538) (codes "4D42")
unfolding days_from_civil day_count days_of_years days_of_months
identity_there = inl (
  follows_on_key,
  follows_on,
  record {
    chosen = record {
      running = record { uid_is = refl; is_live = refl; runs_then = refl };
      first = λ other others running.
          subst (λ (k : ScheduleKey). IsAtMost schedule_choice_cmp follows_on_key k) (only_follows_on other _ running.is_live) (λ greater. cc);
    };
    no_cancellation = λ cancelled. omega arith;
  },
  refl,
)

-- without the associated train the docker of 11 June can't show that train's identity
dropped_partner_is_wrong : ¬ IsPartnerIdentity empty_table (codes "C40002") (partner_start 78 23538) (codes "4D42")
dropped_partner_is_wrong = search (rules, none_some)

-- ---- the summary of a file

-- the summary of the example file is the example state
summary_of_f2 : summary_of f2 ≡ f2_state
unfolding days_from_civil day_count days_of_years days_of_months
summary_of_f2 = refl
