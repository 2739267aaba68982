-- Of a schedule that calls at a place, a valid state may keep only the records that the docker of the
-- place and a day needs. Then the state is still valid, and has the same docker for this place and
-- day. Its excerpt for the place is valid too, and has the same docker.
use Rattle.cif_laws.proofs.Common.{◌≡◌, ℕ, List, [], ◌∷◌, refl, ap, sym, ◌∙◌, subst, Bool, true, false, cond, Some, map, arith, rules, Option, ◌↔◌, ◌&&◌}
use Rattle.cif_laws.proofs.Common.{option_map, find, is_eq, on, basic_schedule, HasKind, calls_at, first_record, Key, tiploc_key, schedule_key, association_key}
use Rattle.cif_laws.proofs.Common.{ScheduleKey, Body, tiploc_body, schedule_body, association_body, HasNotToLapse, Op, body_end, key_cmp, State, IsValid}
use Rattle.cif_laws.proofs.Common.{IsGoodEntry, IsOpOf, IsBodyOf, HasGoodBodies, AreAscending, live_table, DockerLine, IsDockerList}
use Rattle.docker_laws.specs.NearDay.{may_reach, near_entries, near_state}
use Rattle.docker_laws.specs.StandIn.{IsStandIn, StandsFor}
use Rattle.docker_laws.specs.Thinning.{thin_lines, lines_for, excerpt_lines, excerpt_body, excerpt_op, excerpt_entry, shortened}
use Rattle.docker_laws.specs.Thinning.{excerpt_on}
use Rattle.cif_laws.proofs.lists.Membership.{Contains-map, all_members, member_of}
use Rattle.cif_laws.proofs.lists.Later.{later_map}
use Rattle.cif_laws.proofs.orders.Ascending.{later_of, ascending_of}
use Rattle.state_laws.proofs.states.PlainTable.{Keyed}
use Rattle.state_laws.proofs.states.GoodBodies.{good_bodies}
use Rattle.docker_laws.proofs.dockers.FewMidnights.{bodies_few}
use Rattle.docker_laws.proofs.dockers.KeptSchedules.{first_kind}
use Rattle.docker_laws.proofs.dockers.ExcerptWalk.{walk_valid, walk_docker}
use Rattle.docker_laws.proofs.dockers.SameDocker.{HaveOneDocker, docker_again}
use Rattle.docker_laws.proofs.dockers.NearDocker.{own_stand_in, stand_in_docker}
use Rattle.docker_laws.proofs.dockers.NearState.{near_valid, near_state_docker}
use Rattle.docker_laws.proofs.dockers.ThinBody.{needed_is_body, body_stays, was_schedule}
use Rattle.docker_laws.proofs.dockers.ThinDocker.{needed_stand_in}

-- ---- a body, and the body that the excerpt has instead of it

module _ (place : List ℕ) (day : ℕ) where
  excerpt_is_body : (key : Key) (body : Body) → IsBodyOf key body → IsBodyOf key (excerpt_body place day body)
  excerpt_is_body key (schedule_body lines) is = elim (calls_at place lines) as (λ b. IsBodyOf key (schedule_body (cond b (lines_for place day lines) lines))) [
    | true ↦ needed_is_body place day key (schedule_body lines) is
    | false ↦ is
  ]
  excerpt_is_body key (tiploc_body bytes) is = is
  excerpt_is_body key (association_body line) is = is

  -- an op in the excerpt is well formed, if the whole op is
  pub excerpt_is_op : (key : Key) (op : Op) → IsOpOf key op → IsOpOf key (excerpt_op place day op)
  excerpt_is_op = search (rules, excerpt_is_body)

  -- the first record of a schedule is also the first record that the excerpt has
  first_stays : (lines : List (List ℕ)) → first_record (excerpt_lines place day lines) ≡ first_record lines
  first_stays lines = by (calls_at place lines) (may_reach day lines)
    where
      by : (b c : Bool) → first_record (cond b (cond (b && c) lines (thin_lines place (first_record lines))) lines) ≡ first_record lines
      by true true = refl
      by true false = refl
      by false c = refl

  end_stays : (body : Body) → body_end (excerpt_body place day body) ≡ body_end body
  end_stays = search (rules, first_stays)

  -- ---- the shortened state is valid

  abbrev short : Keyed → Keyed
  short = excerpt_entry place day

  -- if the schedules of a valid state that call at the place keep only what the docker needs, the
  -- state is still valid
  pub shortened_valid : (state : State) → IsValid state → IsValid (shortened place day state)
  shortened_valid state valid =
      let near : IsValid (near_state day state) = near_valid _ state valid in
      record {
        horizon = near.horizon;
        ledger = near.ledger;
        entries = (
          all_members _ (map short entries) (λ entry among.
              let found = Contains-map _ entries _ among in
              subst (IsGoodEntry state.ledger) found.2 (good found.0 (member_of (IsGoodEntry state.ledger) _ found.0 near.entries.0 found.1))),
          ascending near.entries.1,
        );
        have_lapsed = all_members _ (map short entries) (λ entry among.
            let found = Contains-map _ entries _ among in
            subst (λ (e : Keyed). HasNotToLapse state.horizon e.1.op) found.2 (search (rules, member_of, end_stays)));
      }
    where
      entries : List Keyed
      entries = near_entries day state.entries

      good : (entry : Keyed) → IsGoodEntry state.ledger entry → IsGoodEntry state.ledger (short entry)
      good entry is = record { key = is.key; stamp = is.stamp; op = excerpt_is_op _ entry.1.op is.op }

      ascending : AreAscending entries → AreAscending (map short entries)
      ascending up = ascending_of _ (map short entries) (later_map _ short _ (later_of (on (λ (entry : Keyed). entry.0) key_cmp) _ up))

  -- ---- the live table of the shortened state

  find_short : (key : Key) (entries : List Keyed) → find (λ (entry : Keyed). is_eq (key_cmp entry.0 key)) (map short entries)
      ≡ option_map short (find (λ (entry : Keyed). is_eq (key_cmp entry.0 key)) entries)
  find_short key [] = refl
  find_short key (entry ∷ entries) = grind (arith, (find_short key entries))

  -- the bodies in the shortened state's live table are the bodies that the excerpt has instead of
  -- those in the state's live table
  live_short : (state : State) (key : Key)
      → live_table (shortened place day state) key ≡ option_map (excerpt_body place day) (live_table (near_state day state) key)
  live_short = search (rules, find_short)

  -- ---- the shortened state has the same docker as the state

  excerpt_stand_in : (lines : List (List ℕ)) → HasKind basic_schedule (first_record lines) → IsStandIn place day lines (excerpt_lines place day lines)
  excerpt_stand_in lines kind = elim (calls_at place lines) as (λ b. IsStandIn place day lines (cond b (lines_for place day lines) lines)) [
    | true ↦ needed_stand_in place day lines kind
    | false ↦ own_stand_in place day lines
  ]

  -- an entry that may count, as the excerpt has it
  abbrev changed : Body → Option Body
  changed body = Some (excerpt_body place day body)

  module _ (state : State) (valid : IsValid state) where
    near_good : HasGoodBodies (live_table (near_state day state))
    near_good = good_bodies (near_state day state) (near_valid day state valid)

    short_good : HasGoodBodies (live_table (shortened place day state))
    short_good = good_bodies (shortened place day state) (shortened_valid state valid)

    kind_there : (key : ScheduleKey) (whole : List (List ℕ)) → live_table (near_state day state) (schedule_key key) ≡ Some (schedule_body whole)
        → HasKind basic_schedule (first_record whole)
    kind_there key whole there = first_kind key whole (near_good (schedule_key key) (schedule_body whole) there)

    -- the shortened state has the same body as the state at a key that isn't a schedule's, if that
    -- entry may count on the day
    same_there : (key : Key) → ((lines : List (List ℕ)) → ¬ IsBodyOf key (schedule_body lines))
        → live_table (shortened place day state) key ≡ live_table (near_state day state) key
    same_there key apart = live_short state key ∙ body_stays changed (λ bytes. refl) (λ line. refl) key apart _ (near_good key)

    -- the shortened state has the same body as the state at the place's TIPLOC, if that entry may
    -- count on the day
    pub same_tiploc : live_table (shortened place day state) (tiploc_key place) ≡ live_table (near_state day state) (tiploc_key place)
    same_tiploc = same_there (tiploc_key place) (λ lines is. is)

    short_stands : StandsFor place day (live_table (near_state day state)) (live_table (shortened place day state))
    short_stands = record {
      tiploc = same_tiploc;
      associations = λ key here. same_there (association_key key) (λ lines is. is);
      schedules = λ key whole is_live runs. (
        excerpt_lines place day whole,
        live_short state (schedule_key key) ∙ ap (option_map (excerpt_body place day)) is_live,
        excerpt_stand_in whole (kind_there key whole is_live),
      );
      no_others = λ key lines left runs.
          let was = was_schedule changed (λ bytes. refl) (λ line. refl) _ lines (sym (live_short state (schedule_key key)) ∙ left) in
          let same : excerpt_lines place day was.0 ≡ lines = cc in
          (was.0, was.1, subst (IsStandIn place day was.0) same (excerpt_stand_in was.0 (kind_there key was.0 was.1)));
    }

    -- a valid state and the shortened state have the same docker for the place and the day
    pub shortened_docker : HaveOneDocker (live_table state) (live_table (shortened place day state)) place day
    shortened_docker = docker_again (near_state_docker place day state valid)
        (stand_in_docker place day _ _ short_stands (bodies_few _ near_good) (bodies_few _ short_good))

    -- a valid state and the shortened state have the same docker list for the place and the day
    pub shortened_list : (lines : List DockerLine)
        → IsDockerList (live_table state) place day lines ↔ IsDockerList (live_table (shortened place day state)) place day lines
    shortened_list = shortened_docker.list

-- ---- the excerpt for a place and a day has the same docker as the state

-- the excerpt of a valid state for a place and a day is valid
pub excerpt_on_valid : (place : List ℕ) (day : ℕ) (state : State) → IsValid state → IsValid (excerpt_on place day state)
excerpt_on_valid place day state valid = walk_valid place (shortened place day state) (shortened_valid place day state valid)

-- a valid state and its excerpt for a place and a day have the same docker for this place and day
pub excerpt_on_docker : (place : List ℕ) (day : ℕ) (state : State) → IsValid state
    → HaveOneDocker (live_table state) (live_table (excerpt_on place day state)) place day
excerpt_on_docker place day state valid = docker_again (shortened_docker place day state valid)
    (walk_docker place (shortened place day state) day (shortened_valid place day state valid))
