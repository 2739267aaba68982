-- On each day from the third day after a horizon, a table has the same dockers before and after its
-- rows lapse with the horizon.
use Rattle.cif_laws.proofs.Common.{◌≡◌, ℕ, ◌+◌, ◌≤◌, List, arith, rules, no_end_number, tiploc_key, Table, lapse_table, description_in}
use Rattle.state_laws.proofs.states.TableLapsed.{was_live, body_stays}
use Rattle.docker_laws.proofs.dockers.LapsedChoice.{running_forth, running_back, associated_forth, associated_back}
use Rattle.docker_laws.proofs.dockers.FewMidnights.{HasFewMidnights}
use Rattle.docker_laws.proofs.dockers.SameDocker.{Covers, itself, HaveOneDocker, docker_over}
use Rattle.docker_laws.proofs.dockers.NearDocker.{IsStartNear, calls_near, partner_near}

module _ (horizon : ℕ) (bound : horizon ≤ no_end_number) (live : Table) (few : HasFewMidnights live) (place : List ℕ) (day : ℕ)
    (from : horizon + 3 ≤ day) where
  -- the lapsed table has all that the docker needs from the table
  pub over : Covers (λ uid start. IsStartNear day start) live (lapse_table horizon live) place day
  over = record {
    runs = λ uid start near key lines is. (lines, running_forth horizon bound live start (omega arith) uid key lines is, itself place day start lines);
    links = λ group here start near. associated_forth horizon bound live start (omega arith) group;
    calls = calls_near live few place day;
    names = partner_near live few place day;
  }

  -- the table has all that the docker needs from the lapsed table
  pub back : Covers (λ uid start. IsStartNear day start) (lapse_table horizon live) live place day
  back = record {
    runs = λ uid start near key lines is. (lines, running_back horizon bound live start (omega arith) uid key lines is, itself place day start lines);
    links = λ group here start near. associated_back horizon bound live start (omega arith) group;
    calls = calls_near (lapse_table horizon live) few_lapsed place day;
    names = partner_near (lapse_table horizon live) few_lapsed place day;
  }
    where
      few_lapsed : HasFewMidnights (lapse_table horizon live)
      few_lapsed = search (rules, was_live)

  -- lapsing leaves the description of a place unchanged, since TIPLOCs don't lapse
  pub description_stays : description_in (lapse_table horizon live (tiploc_key place)) ≡ description_in (live (tiploc_key place))
  description_stays = search (rules, body_stays)

  -- on each day from the third day after the horizon, the table has the same docker before and
  -- after its rows lapse
  pub lapsed_docker : HaveOneDocker live (lapse_table horizon live) place day
  lapsed_docker = docker_over over back description_stays
