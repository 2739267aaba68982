-- Each train in a docker starts near the docker's day. If one table may replace another, both have
-- the same docker. If a table loses only schedules that run on no start day near a day, the dockers
-- of that day are unchanged.
use Rattle.cif_laws.proofs.Common.{◌≡◌, ℕ, zero, suc, ◌+◌, ◌-◌, ◌≤◌, List, subst, inl, ◌⊎◌, refl, rules, ap, sym, ◌∙◌, true, false, Some, None, Contains, arith}
use Rattle.cif_laws.proofs.Common.{IsTrue, column, first_record, Key, tiploc_key, schedule_key, association_key, ScheduleKey, AssociationKey, Body}
use Rattle.cif_laws.proofs.Common.{schedule_body, association_body, Table, schedule_runs, IsRunning, partner_start, description_in}
use Rattle.docker_laws.specs.NearDay.{near_starts, runs_near}
use Rattle.docker_laws.specs.StandIn.{HasEventOn, IsStandIn, StandsFor}
use Rattle.cif_laws.proofs.lists.Membership.{cons-Contains, cons-Contains-first}
use Rattle.cif_laws.proofs.lists.BoolsAndOptions.{none_some}
use Rattle.state_laws.proofs.indexes.CallsTest.{any_forth}
use Rattle.docker_laws.proofs.dockers.FewMidnights.{HasFewMidnights}
use Rattle.docker_laws.proofs.dockers.StartDays.{event_within}
use Rattle.docker_laws.proofs.dockers.SameDocker.{Covers, HaveOneDocker, docker_over}

-- ---- each train in a docker line starts near the docker's day

-- the start day is near the day: at most three days before the day and at most one day after it
abbrev pub IsStartNear : ℕ → ℕ → Type 0
IsStartNear day start = (start ≤ day + 1) × (day ≤ start + 3)

-- the list `near_starts` has each start day near the day
pub near_start : (day start : ℕ) → IsStartNear day start → Contains (near_starts day) start
near_start day start near = (elim ((day + 1) - start) as (λ back. (day + 1) - start ≡ back → Contains (near_starts day) start) [
  | zero ↦ λ h. at (day + 1) (omega arith) (search (rules, cons-Contains-first))
  | suc zero ↦ λ h. at day (omega arith) (search (rules, cons-Contains, cons-Contains-first))
  | suc (suc zero) ↦ λ h. at (day - 1) (omega arith) (search (rules, cons-Contains, cons-Contains-first))
  | suc (suc (suc zero)) ↦ λ h. at (day - 2) (omega arith) (search (rules, cons-Contains, cons-Contains-first))
  | suc (suc (suc (suc n))) ↦ λ h. at (day - 3) (omega arith) (search (rules, cons-Contains, cons-Contains-first))
]) refl
  where
    at : (x : ℕ) → x ≡ start → Contains (near_starts day) x → Contains (near_starts day) start
    at x same among = subst (Contains (near_starts day)) same among

-- a schedule that runs on a start day near the day passes the test `runs_near`
pub runs_near_by : (day start : ℕ) (line : List ℕ) → IsStartNear day start → IsTrue (schedule_runs line start) → runs_near day line ≡ true
runs_near_by day start line near runs = any_forth (λ (s : ℕ). schedule_runs line s) (near_starts day) start (near_start day start near) runs

near_partner : (day start : ℕ) → (start ≤ day) × (day ≤ start + 2) → (indicator partner : ℕ) → partner_start indicator start ≡ Some partner
    → IsStartNear day partner
near_partner = search rules

module _ (live : Table) (few : HasFewMidnights live) (place : List ℕ) (day : ℕ) where
  -- a train with an event at the place on the day starts on that day or on one of the two days
  -- before it
  started : (uid : List ℕ) (start : ℕ) (key : ScheduleKey) (lines : List (List ℕ)) → IsRunning live uid start key lines → HasEventOn place day start lines
      → (start ≤ day) × (day ≤ start + 2)
  started uid start key lines is has = event_within start lines has.event day (few key lines is.is_live) has.today

  -- a train with an event at the place on the day starts near the day
  pub calls_near : (uid : List ℕ) (start : ℕ) (key : ScheduleKey) (lines : List (List ℕ)) → IsRunning live uid start key lines
      → HasEventOn place day start lines → IsStartNear day start
  calls_near uid start key lines is has = let within = started uid start key lines is has in (omega arith, omega arith)

  -- if a train has an event at the place on the day, its associated train starts near the day
  pub partner_near : (key : AssociationKey) (line : List ℕ) → key.location ≡ place → live (association_key key) ≡ Some (association_body line)
      → (start : ℕ) (base : ScheduleKey) (lines : List (List ℕ)) → IsRunning live key.base start base lines → HasEventOn place day start lines
      → (partner : ℕ) → partner_start (column 37 line) start ≡ Some partner → IsStartNear day partner
  partner_near key line here is_live start base lines is has partner starts = near_partner day start (started _ _ _ _ is has) (column 37 line) partner starts

-- ---- if one table may replace another, both have the same docker

-- if records may replace a schedule in the docker, the schedule may also replace these records
turned : (place : List ℕ) (day : ℕ) (one other : List (List ℕ)) → IsStandIn place day one other → IsStandIn place day other one
turned place day one other is = record {
  runs = λ start near. sym (is.runs start near);
  identity = sym is.identity;
  calls = λ start low high runs either.
      sym (is.calls start low high (is.runs start (near_start _ _ (omega arith, omega arith)) ∙ runs) (search rules));
}

-- a schedule may replace itself
pub own_stand_in : (place : List ℕ) (day : ℕ) (lines : List (List ℕ)) → IsStandIn place day lines lines
own_stand_in place day lines = record { runs = λ start near. refl; identity = refl; calls = λ start low high runs either. refl }

module _ (one other : Table) (place : List ℕ) (day : ℕ) (few : HasFewMidnights one) where
  -- suppose that a table has each association of another table at the place. Suppose also that it has,
  -- for each schedule of the other table that runs near the day, a schedule that may replace it. Then
  -- it covers the other table
  stands_over : ((key : ScheduleKey) (whole : List (List ℕ)) → one (schedule_key key) ≡ Some (schedule_body whole)
      → runs_near day (first_record whole) ≡ true
      → (lines : List (List ℕ)) × (other (schedule_key key) ≡ Some (schedule_body lines)) × IsStandIn place day whole lines)
      → ((key : AssociationKey) (line : List ℕ) → key.location ≡ place → one (association_key key) ≡ Some (association_body line)
      → other (association_key key) ≡ Some (association_body line))
      → Covers (λ uid start. IsStartNear day start) one other place day
  stands_over schedules associations = record {
    runs = λ uid start near key lines is.
        let found = schedules key lines is.is_live (runs_near_by day _ (first_record lines) near is.runs_then) in (
          found.0,
          record { uid_is = is.uid_is; is_live = found.1; runs_then = sym (found.2.runs start (near_start _ start near)) ∙ is.runs_then },
          record {
            identity = found.2.identity;
            calls = λ has.
                let within = started one few place day uid start key lines is has in
                found.2.calls start within.0 within.1 is.runs_then (inl has);
          },
        );
    links = search rules;
    calls = calls_near one few place day;
    names = partner_near one few place day;
  }

-- if one table may replace another for the place and the day, both have the same docker for this
-- place and day
pub stand_in_docker : (place : List ℕ) (day : ℕ) (live part : Table) → StandsFor place day live part → HasFewMidnights live → HasFewMidnights part
    → HaveOneDocker live part place day
stand_in_docker place day live part stands few few_too = docker_over
    (stands_over live part place day few stands.schedules (λ key line here is_live. stands.associations key here ∙ is_live))
    (stands_over part live place day few_too
    (λ key lines is_live runs. let found = stands.no_others key lines is_live runs in (found.0, found.1, turned place day _ lines found.2))
    (λ key line here is_live. sym (stands.associations key here) ∙ is_live))
    (ap description_in stands.tiploc)

-- ---- removing schedules that don't run near a day leaves the dockers of that day unchanged

-- the key may be left out: its body is a schedule that runs on no start day near the day
abbrev pub IsLeftOut : ℕ → Table → Key → Type 0
IsLeftOut day live key = (lines : List (List ℕ)) × (live key ≡ Some (schedule_body lines)) × (runs_near day (first_record lines) ≡ false)

-- `part` results from `live` by leaving out schedules that run on no start day near the day. At
-- each key `part` equals `live`, or `part` has no body and the key may be left out
abbrev pub IsNearPart : ℕ → Table → Table → Type 0
IsNearPart day live part = (key : Key) → (part key ≡ live key) ⊎ ((part key ≡ None) × IsLeftOut day live key)

module _ (day : ℕ) (live part : Table) (is : IsNearPart day live part) where
  -- if the table `part` has a body at a key, the table `live` has the same body at this key
  was_there : (key : Key) (body : Body) → part key ≡ Some body → live key ≡ Some body
  was_there = search (rules, none_some)

  -- the tables `live` and `part` have the same description of a place, since no TIPLOC is left out
  pub near_description : (place : List ℕ) → description_in (part (tiploc_key place)) ≡ description_in (live (tiploc_key place))
  near_description = search rules

  -- the tables `live` and `part` have the same docker on the day
  pub near_docker : HasFewMidnights live → (place : List ℕ) → HaveOneDocker live part place day
  near_docker few place = docker_over
      (stands_over live part place day few (λ key lines is_live runs. (lines, search rules, own_stand_in place day lines)) (search rules))
      (stands_over part live place day (search (rules, was_there)) (λ key lines is_live runs. (lines, was_there _ _ is_live, own_stand_in place day lines))
      (search (rules, was_there)))
      (near_description place)
