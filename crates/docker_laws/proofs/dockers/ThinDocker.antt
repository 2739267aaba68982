-- A table and its thinned table for a place and a day have the same docker for that place and that
-- day.
use Rattle.cif_laws.proofs.Common.{◌≡◌, ℕ, zero, suc, ◌+◌, ◌-◌, ◌<◌, ◌≤◌, List, subst, refl, ◌∙◌, rules, Bool, true, false, cond, Some, None, arith, ◌&&◌, ◌||◌}
use Rattle.cif_laws.proofs.Common.{nat_lt, IsTrue, option_and_then, lt-ltb, bytes_eq-Decides, basic_schedule, HasKind, midnights, calls_at, first_record, Key}
use Rattle.cif_laws.proofs.Common.{tiploc_key, schedule_key, association_key, ScheduleKey, schedule_body, Table, HasGoodBodies, IsBodyOf, falls_to}
use Rattle.cif_laws.proofs.Common.{schedule_runs}
use Rattle.docker_laws.specs.NearDay.{runs_near, may_reach}
use Rattle.docker_laws.specs.StandIn.{HasEventOn, IsStandIn, StandsFor}
use Rattle.docker_laws.specs.Thinning.{thin_lines, lines_for, may_matter, thin_body, thinned}
use Rattle.cif_laws.proofs.lists.BoolsAndOptions.{then_some, none_some, and_true}
use Rattle.state_laws.proofs.indexes.CallsTest.{calls_test}
use Rattle.docker_laws.proofs.dockers.Events.{event_calls}
use Rattle.docker_laws.proofs.dockers.FewMidnights.{bodies_few, falls_below}
use Rattle.docker_laws.proofs.dockers.KeptSchedules.{first_kind}
use Rattle.docker_laws.proofs.dockers.SameDocker.{HaveOneDocker, docker_again}
use Rattle.docker_laws.proofs.dockers.NearDocker.{own_stand_in, stand_in_docker}
use Rattle.docker_laws.specs.Excerpt.{IsExcerpt}
use Rattle.docker_laws.proofs.dockers.ExcerptDocker.{excerpt_docker}
use Rattle.docker_laws.proofs.dockers.ExcerptState.{or_left, or_right}
use Rattle.docker_laws.proofs.dockers.ThinBody.{thin_apart, needed_is_body, body_stays, was_schedule}

-- ---- which records may replace a schedule

-- a train that doesn't call at the place has no event there
no_event : (place : List ℕ) (day start : ℕ) (lines : List (List ℕ)) → calls_at place lines ≡ false → ¬ HasEventOn place day start lines
no_event = search (rules, calls_test, event_calls)

-- records with the same first record may replace a schedule, if the schedule has no event at the
-- place on the day, and these records don't call at the place
stand_in_without : (place : List ℕ) (day : ℕ) (whole lines : List (List ℕ)) → first_record lines ≡ first_record whole
    → ((start : ℕ) → start ≤ day → day ≤ start + 2 → IsTrue (schedule_runs (first_record whole) start) → ¬ HasEventOn place day start whole)
    → calls_at place lines ≡ false → IsStandIn place day whole lines
stand_in_without = search (rules, no_event)

-- records with the same first record may replace a schedule, if neither these records nor the
-- records of the schedule call at the place
pub stand_in_by_first : (place : List ℕ) (day : ℕ) (whole lines : List (List ℕ)) → first_record lines ≡ first_record whole → calls_at place whole ≡ false
    → calls_at place lines ≡ false → IsStandIn place day whole lines
stand_in_by_first = search (rules, stand_in_without, no_event)

-- ---- a schedule with an event on the day passes the test `may_reach`

falls_positive : (lines : List (List ℕ)) (number : ℕ) → 0 < falls_to lines number → nat_lt 0 (midnights lines) ≡ true
falls_positive lines number some = let low = falls_below lines number in lt-ltb 0 (midnights lines) (omega arith)

-- if a schedule runs on a start day and has an event on the day, it passes the test `may_reach`.
-- The start day is the day or one of the two days before it
reaches : (day start : ℕ) (lines : List (List ℕ)) (number : ℕ) → start ≤ day → day ≤ start + 2 → IsTrue (schedule_runs (first_record lines) start)
    → start + falls_to lines number ≡ day → may_reach day lines ≡ true
reaches day start lines number low high runs today = (elim (day - start) as (λ back. day - start ≡ back → may_reach day lines ≡ true) [
  | zero ↦ λ h. or_left (schedule_runs basic day) _ (subst (λ (d : ℕ). schedule_runs basic d ≡ true) (let same : start ≡ day = omega arith in same) runs)
  | suc zero ↦ λ h. later (omega arith) (or_left (schedule_runs basic (day - 1)) _ (runs_at 1 (omega arith)))
  | suc (suc zero) ↦ λ h. later (omega arith) (or_right (schedule_runs basic (day - 1)) _ (runs_at 2 (omega arith)))
  | suc (suc (suc n)) ↦ λ h. absurd (omega arith)
]) refl
  where
    basic : List ℕ
    basic = first_record lines

    runs_at : (back : ℕ) → start ≡ day - back → schedule_runs basic (day - back) ≡ true
    runs_at back same = subst (λ (d : ℕ). schedule_runs basic d ≡ true) same runs

    later : 0 < falls_to lines number → (schedule_runs basic (day - 1) || schedule_runs basic (day - 2)) ≡ true → may_reach day lines ≡ true
    later some before = or_right (schedule_runs basic day) _ (and_true (nat_lt 0 (midnights lines)) _ (falls_positive lines _ some) before)

-- records with the same first record may replace a schedule, if no event of the schedule may be on
-- the day, and these records don't call at the place
pub stand_in_other_day : (place : List ℕ) (day : ℕ) (whole lines : List (List ℕ)) → first_record lines ≡ first_record whole → may_reach day whole ≡ false
    → calls_at place lines ≡ false → IsStandIn place day whole lines
stand_in_other_day place day whole lines same never no_other = stand_in_without place _ whole _ same (search (rules, reaches)) no_other

-- the records of a schedule that the docker of the place and the day needs (`lines_for`) may
-- replace the schedule
pub needed_stand_in : (place : List ℕ) (day : ℕ) (lines : List (List ℕ)) → HasKind basic_schedule (first_record lines)
    → IsStandIn place day lines (lines_for place day lines)
needed_stand_in place day lines kind = by (calls_at place lines) (may_reach day lines) refl refl
  where
    by : (b c : Bool) → calls_at place lines ≡ b → may_reach day lines ≡ c
        → IsStandIn place day lines (cond (b && c) lines (thin_lines place (first_record lines)))
    by true true h g = own_stand_in place _ lines
    by true false h g = stand_in_other_day _ day _ (thin_lines place (first_record lines)) refl g (thin_apart _ (first_record lines) kind)
    by false c h g = stand_in_by_first _ day _ (thin_lines place (first_record lines)) refl h (thin_apart _ (first_record lines) kind)

-- ---- the thinned table may replace the table

module _ (place : List ℕ) (day : ℕ) (live : Table) where
  -- suppose that a schedule in the table runs on a start day near the day. Then the thinned table
  -- has, at the same key, the records of this schedule that the docker needs (`lines_for`)
  schedule_left : (key : ScheduleKey) (lines : List (List ℕ)) → live (schedule_key key) ≡ Some (schedule_body lines)
      → runs_near day (first_record lines) ≡ true → thinned place day live (schedule_key key) ≡ Some (schedule_body (lines_for place day lines))
  schedule_left = search rules

  -- for each schedule in the thinned table, the table has a schedule at the same key. The thinned
  -- table has the records of that schedule that the docker needs (`lines_for`)
  schedule_was : (key : ScheduleKey) (lines : List (List ℕ)) → thinned place day live (schedule_key key) ≡ Some (schedule_body lines)
      → (whole : List (List ℕ)) × (live (schedule_key key) ≡ Some (schedule_body whole)) × (lines_for place day whole ≡ lines)
  schedule_was key lines is =
      let was = was_schedule (thin_body place day) (λ bytes. refl) (λ line. refl) (live (schedule_key key)) lines is in
      (was.0, was.1, same was.0 (runs_near day (first_record was.0)) was.2)
    where
      same : (whole : List (List ℕ)) (b : Bool) → cond b (Some (schedule_body (lines_for place day whole))) None ≡ Some (schedule_body lines)
          → lines_for place day whole ≡ lines
      same whole true h = cc
      same whole false h = none_some (schedule_body lines) h

  -- the thinned table may replace the table, if the bodies of the table are well formed
  pub thinned_stands : HasGoodBodies live → StandsFor place day live (thinned place day live)
  thinned_stands good = record {
    tiploc = here (tiploc_key place) ((bytes_eq-Decides place place).1 refl) (λ lines is. is);
    associations = λ key at_place. here (association_key key) ((bytes_eq-Decides key.location place).1 at_place) (λ lines is. is);
    schedules = λ key whole is_live runs. (lines_for place day whole, schedule_left _ _ is_live runs, needed_stand_in _ _ _ (basic_there key whole is_live));
    no_others = λ key lines left runs.
        let was = schedule_was _ _ left in
        (was.0, was.1, subst (IsStandIn place day was.0) was.2 (needed_stand_in _ _ _ (basic_there key was.0 was.1)));
  }
    where
      basic_there : (key : ScheduleKey) (whole : List (List ℕ)) → live (schedule_key key) ≡ Some (schedule_body whole)
          → HasKind basic_schedule (first_record whole)
      basic_there key whole there = first_kind _ _ (good (schedule_key key) (schedule_body whole) there)

      here : (key : Key) → may_matter place key ≡ true → ((lines : List (List ℕ)) → ¬ IsBodyOf key (schedule_body lines))
          → thinned place day live key ≡ live key
      here key matters apart = (λ i. cond (matters i) (option_and_then (thin_body place day) (live key)) None)
          ∙ body_stays (thin_body place day) (λ bytes. refl) (λ line. refl) key apart (live key) (good key)

  -- if the bodies of a table are well formed, so are the bodies of the thinned table
  pub thin_good : HasGoodBodies live → HasGoodBodies (thinned place day live)
  thin_good = search (rules, needed_is_body, none_some, then_some)

  module _ (good : HasGoodBodies live) where
    -- a table and its thinned table have the same docker for the place and the day
    pub thin_docker : HaveOneDocker live (thinned place day live) place day
    thin_docker = search (rules, stand_in_docker, thinned_stands, bodies_few, thin_good)

    -- an excerpt of the thinned table has the same docker for the place and the day as the whole
    -- table
    pub thin_excerpt_docker : (part : Table) → IsExcerpt place (thinned place day live) part → HaveOneDocker live part place day
    thin_excerpt_docker part is = docker_again thin_docker (excerpt_docker place _ part is day)
