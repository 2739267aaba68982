-- If a valid state keeps only the entries that may count on a day, it is still valid, and its
-- dockers of that day are unchanged.
use Rattle.cif_laws.proofs.Common.{◌≡◌, ℕ, List, inl, inr, ◌⊎◌, refl, ap, sym, ◌∙◌, true, false, None, rules, first_record, schedule_body, Op, put_with, Entry}
use Rattle.cif_laws.proofs.Common.{body_of, State, IsValid, AreAscending, live_table}
use Rattle.docker_laws.specs.NearDay.{runs_near, may_count, near_entries, near_state}
use Rattle.docker_laws.proofs.dockers.Sublists.{sublist_filter}
use Rattle.cif_laws.proofs.lists.FilteredMembers.{filter_back, filter_forth}
use Rattle.state_laws.proofs.states.PlainTable.{Keyed, Found, NotFound, find_in, one_per_key, live_at, live_none}
use Rattle.docker_laws.proofs.dockers.FewMidnights.{bodies_few}
use Rattle.state_laws.proofs.states.GoodBodies.{good_bodies}
use Rattle.docker_laws.proofs.dockers.ExcerptState.{some_valid}
use Rattle.docker_laws.proofs.dockers.NearDocker.{IsLeftOut, IsNearPart, near_docker}
use Rattle.docker_laws.proofs.dockers.SameDocker.{HaveOneDocker}

-- an op that can't count on the day is a put of a schedule that runs on no start day near the day
may_not : (day : ℕ) (op : Op) → may_count day op ≡ false
    → (lines : List (List ℕ)) × (op ≡ put_with (schedule_body lines)) × (runs_near day (first_record lines) ≡ false)
may_not day (put_with (schedule_body lines)) h = (lines, refl, h)
may_not day _ h = absurd (let bad : true ≡ false = h in cc)

-- if a state keeps only the entries that may count on a day, its live table loses only schedules
-- that run on no start day near the day
pub near_part : (day : ℕ) (state : State) → AreAscending state.entries → IsNearPart day (live_table state) (live_table (near_state day state))
near_part day state up key = by (find_in (near_entries day state.entries) key) (find_in state.entries key)
  where
    left_out : (pair : Keyed) → live_table state key ≡ body_of pair.1.op
        → (lines : List (List ℕ)) × (pair.1.op ≡ put_with (schedule_body lines)) × (runs_near day (first_record lines) ≡ false)
        → IsLeftOut day (live_table state) key
    left_out pair has may = (may.0, has ∙ ap body_of may.1, may.2)

    by : Found (near_entries day state.entries) key ⊎ NotFound (near_entries day state.entries) key → Found state.entries key ⊎ NotFound state.entries key
        → (live_table (near_state day state) key ≡ live_table state key)
        ⊎ ((live_table (near_state day state) key ≡ None) × IsLeftOut day (live_table state) key)
    by (inl near) (inl all) =
        let among = (filter_back (λ (entry : Keyed). may_count day entry.1.op) state.entries (key, near.0.1) near.2).0 in
        let same = one_per_key state.entries up key near.0.1 all.0.1 among all.2 in
        inl (live_at (near_state day state) key near.0 near.1 ∙ ap (λ (entry : Entry). body_of entry.op) same ∙ sym (live_at state key all.0 all.1))
    by (inl near) (inr none) =
        absurd (none.1 near.0.1 (filter_back (λ (entry : Keyed). may_count day entry.1.op) state.entries (key, near.0.1) near.2).0)
    by (inr never) (inr none) = inl (live_none (near_state day state) key never.0 ∙ sym (live_none state key none.0))
    by (inr never) (inl all) =
        inr (
          live_none (near_state day state) key never.0,
          (elim (may_count day all.0.1.op) as (λ b. may_count day all.0.1.op ≡ b → IsLeftOut day (live_table state) key) [
            | true ↦ λ h. absurd (never.1 all.0.1 (filter_forth (λ (entry : Keyed). may_count day entry.1.op) state.entries (key, all.0.1) all.2 h))
            | false ↦ λ h. left_out all.0 (live_at state key all.0 all.1) (may_not day all.0.1.op h)
          ]) refl,
        )

-- if a valid state keeps only the entries that may count on a day, it is still valid
pub near_valid : (day : ℕ) (state : State) → IsValid state → IsValid (near_state day state)
near_valid = search (rules, some_valid, sublist_filter)

-- if a valid state loses the entries that can't count on a day, its dockers for that day are
-- unchanged
pub near_state_docker : (place : List ℕ) (day : ℕ) (state : State) → IsValid state
    → HaveOneDocker (live_table state) (live_table (near_state day state)) place day
near_state_docker place day state valid = near_docker day _ _ (near_part day state valid.entries.1) (bodies_few _ (good_bodies state valid)) place
