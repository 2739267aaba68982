-- A walk over the rows that the indexes list for a place finds each docker line of the place.
use Rattle.cif_laws.proofs.Common.{◌≡◌, ℕ, List, ◌++◌, refl, ap, sym, ◌∙◌, inl, inr, ◌⊎◌, Some, Contains, rules, on, Contains-append_left}
use Rattle.cif_laws.proofs.Common.{Contains-append_right, Contains-append_cases, IsSorted, IsPermutation, Key, association_key, schedule_key, Body}
use Rattle.cif_laws.proofs.Common.{association_body, schedule_body, IsBelow, key_cmp, Table, HasGoodBodies, Row, AreRowsOf, Group, DockerLine, docker_line_cmp}
use Rattle.cif_laws.proofs.Common.{IsDockerList}
use Rattle.state_laws.specs.Index.{AreCalling, AreLinked, AreOfUid}
use Rattle.docker_laws.specs.LiveRows.{HasSchedulesOf, HasAssociationsOf, train_in, link_in}
use Rattle.docker_laws.specs.Gathering.{IsWalk, gathered}
use Rattle.docker_laws.proofs.dockers.GatheredLines.{sorted_gathering}
use Rattle.docker_laws.proofs.dockers.TrainOfRows.{trains_tell}
use Rattle.docker_laws.proofs.dockers.LinkOfRows.{links_tell}
use Rattle.cif_laws.proofs.lists.Later.{later_append}
use Rattle.cif_laws.proofs.orders.Ascending.{later_of, ascending_of}

module _ (live : Table) (place : List ℕ) (linked calling : List Row) (are_linked : AreLinked live place linked)
    (are_calling : AreCalling live place calling) where
  linked_before : (a b : Row) → Contains linked a → Contains calling b → IsBelow (on (λ (row : Row). row.0) key_cmp) a b
  linked_before a b in_a in_b =
      let one = (are_linked.members a.0 a.1).0 in_a in
      let two = (are_calling.members b.0 b.1).0 in_b in
      (λ i. key_cmp (one.2 i) (two.2 i))

  live_row : (key : Key) (body : Body) → Contains linked (key, body) ⊎ Contains calling (key, body) → live key ≡ Some body
  live_row key body (inl here) = let one = (are_linked.members key body).0 here in ap live one.2 ∙ one.4.is_live ∙ ap Some (sym one.3)
  live_row key body (inr here) = let one = (are_calling.members key body).0 here in ap live one.2 ∙ one.4.is_live ∙ ap Some (sym one.3)

  -- `linked` has the rows of the associations at a place, and `calling` has the rows of the
  -- schedules that call there. Together they are enough to find all docker lines of the place
  -- (`IsWalk`)
  pub indexed_walk : IsWalk live place (linked ++ calling)
  indexed_walk = record {
    ascending = ascending_of _ _ (later_append _ _ _ (later_of _ _ are_linked.ascending) (later_of _ _ are_calling.ascending) linked_before);
    each = λ key body among. live_row _ _ (Contains-append_cases linked calling (key, body) among);
    schedules = λ key lines is calls. Contains-append_right linked calling (schedule_key key, schedule_body lines)
        ((are_calling.members (schedule_key key) (schedule_body lines)).1 (key, lines, refl, refl, record { is_live = is; calls = calls }));
    associations = λ key line is here. Contains-append_left linked calling (association_key key, association_body line)
        ((are_linked.members (association_key key) (association_body line)).1 (key, line, refl, refl, record { is_live = is; here = here }));
  }

-- suppose that lines are gathered from the rows of the associations at a place and of the schedules
-- that call there. After sorting, these lines are the docker list
pub indexed_docker : (live : Table) (place : List ℕ) (day : ℕ) (rows linked calling : List Row) (lines : List DockerLine) → HasGoodBodies live
    → AreRowsOf live rows
    → AreLinked live place linked → AreCalling live place calling
    → IsPermutation (gathered (train_in rows) (link_in rows) place day (linked ++ calling)) lines → IsSorted docker_line_cmp lines
    → IsDockerList live place day lines
indexed_docker = search (rules, sorted_gathering, trains_tell, links_tell, indexed_walk)

-- the rows of a UID include each of the UID's schedules
pub of_uid_has : (live : Table) (uid : List ℕ) (rows : List Row) → AreOfUid live uid rows → HasSchedulesOf live uid rows
of_uid_has live uid rows are = record {
  each = λ key body among. ((are.members key body).0 among).4;
  all = λ key lines same is. (are.members (schedule_key key) (schedule_body lines)).1 (key, lines, refl, refl, is, same);
}

-- the rows of a place's associations include each association of each group at the place
pub linked_has : (live : Table) (place : List ℕ) (rows : List Row) (group : Group) → AreLinked live place rows → group.location ≡ place
    → HasAssociationsOf live group rows
linked_has live place rows group are here = record {
  each = λ key body among. let one = (are.members key body).0 among in ap live one.2 ∙ one.4.is_live ∙ ap Some (sym one.3);
  all = λ key line same is.
      (are.members (association_key key) (association_body line)).1 (
        key,
        line,
        refl,
        refl,
        search rules,
      );
}
