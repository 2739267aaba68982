-- The events of a live schedule are on the start day of its train or on one of the two days after
-- it. So the trains of one day's docker start on at most three different days.
use Rattle.cif_laws.proofs.Common.{◌≡◌, ℕ, zero, suc, ◌+◌, ◌-◌, ◌≤◌, List, [], ◌∷◌, subst, Some, Contains, arith, rules, filter, nat_le, leb-true, le-leb}
use Rattle.cif_laws.proofs.Common.{midnights, schedule_key, ScheduleKey, schedule_body, Table, HasGoodBodies, Event, event_day, falls_to}
use Rattle.docker_laws.specs.Gathering.{start_days}
use Rattle.cif_laws.proofs.lists.Membership.{cons-Contains, cons-Contains-first, map-Contains}
use Rattle.docker_laws.proofs.dockers.FewMidnights.{bodies_few, falls_below}
use Rattle.cif_laws.proofs.lists.FilteredMembers.{filter_back, filter_forth}

-- a live schedule passes midnight at most twice up to any event
pub few_falls_to : (live : Table) (key : ScheduleKey) (lines : List (List ℕ)) → HasGoodBodies live → live (schedule_key key) ≡ Some (schedule_body lines)
    → (number : ℕ) → falls_to lines number ≤ 2
few_falls_to live key lines good is number = let front = falls_below lines number in let few = bodies_few live good key lines is in omega arith

-- a train with an event on the day starts on that day or on one of the two days before it
pub event_within : (start : ℕ) (lines : List (List ℕ)) (event : Event) (day : ℕ) → midnights lines ≤ 2 → event_day start lines event ≡ day
    → (start ≤ day) × (day ≤ start + 2)
event_within start lines event day few today = let front = falls_below lines event.number in (omega arith, omega arith)

-- ---- the start days for a day are the day and the two days before it

-- the start days for a day are that day and the two days before it, without days before day 0
pub start_days_iff : (day start : ℕ) → (Contains (start_days day) start → (start ≤ day) × (day ≤ start + 2)) × ((start ≤ day) × (day ≤ start + 2)
    → Contains (start_days day) start)
start_days_iff day start = (forth, back)
  where
    forth : Contains (start_days day) start → (start ≤ day) × (day ≤ start + 2)
    forth among = search (rules, filter_back, leb-true)

    three : (n : ℕ) → n ≤ 2 → Contains (0 ∷ 1 ∷ 2 ∷ []) n
    three zero low = cons-Contains-first 0 (1 ∷ 2 ∷ [])
    three (suc zero) low = cons-Contains 0 (1 ∷ 2 ∷ []) 1 (cons-Contains-first 1 (2 ∷ []))
    three (suc (suc zero)) low = cons-Contains 0 (1 ∷ 2 ∷ []) 2 (cons-Contains 1 (2 ∷ []) 2 (cons-Contains-first 2 []))
    three (suc (suc (suc n))) low = absurd (omega arith)

    back : (start ≤ day) × (day ≤ start + 2) → Contains (start_days day) start
    back within =
        let low = within.0 in
        let high = within.1 in
        let is : day - (day - start) ≡ start = omega arith in
        subst (Contains (start_days day)) is
        (map-Contains (λ n. day - n) (filter (λ n. nat_le n day) (0 ∷ 1 ∷ 2 ∷ [])) (day - start)
        (filter_forth (λ n. nat_le n day) (0 ∷ 1 ∷ 2 ∷ []) (day - start) (three (day - start) (omega arith)) (le-leb (day - start) day (omega arith))))
