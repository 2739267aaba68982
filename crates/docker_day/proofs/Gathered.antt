-- The docker list is made by gathering the lines of a state's rows and then sorting them.
use Rattle.cif_laws.proofs.Common.{rules, ◌≡◌, ℕ, List, [], ◌++◌, ap, sym, ◌∙◌, subst, append_assoc, Option, flat_map-append, Group, Train, IsSorted}
use Rattle.cif_laws.proofs.Common.{IsPermutation, HasGoodBodies, Table, Row, AreRowsOf, DockerLine, docker_line_cmp, IsDockerList, tiploc_key, description_in}
use Rattle.state_laws.specs.Index.{AreCalling, AreLinked}
use Rattle.docker_laws.proofs.dockers.IndexedWalk.{indexed_walk}
use Rattle.docker_laws.specs.LiveRows.{Link, train_in, link_in}
use Rattle.docker_laws.specs.Gathering.{IsWalk, gathered}
use Rattle.docker_laws.proofs.dockers.GatheredLines.{sorted_gathering}
use Rattle.docker_laws.proofs.dockers.TrainOfRows.{trains_tell}
use Rattle.docker_laws.proofs.dockers.LinkOfRows.{links_tell}
use Rattle.docker_day.specs.Lines.{Adds}
use Rattle.docker_day.specs.DockerValue.{Docker}
use Rattle.docker_day.specs.Dockers.{HasGathered, IsDockerOf}

-- if a walk includes all associations at a place and all schedules that call there, sorting the
-- docker lines of the walk yields the docker list
docker_of_walk : (live : Table) (place : List ℕ) (day : ℕ) (rows walk : List Row) (none made lines : List DockerLine) → HasGoodBodies live
    → AreRowsOf live rows → IsWalk live place walk
    → none ≡ [] → Adds live (λ trains links. gathered trains links place day walk) none made → IsPermutation made lines → IsSorted docker_line_cmp lines
    → IsDockerList live place day lines
docker_of_walk live place day rows walk none made lines good are walks empty adds same sorted =
    let made_is : made ≡ gathered (train_in rows) (link_in rows) place day walk = adds rows are ∙ ap
    (λ out. out ++ gathered (train_in rows) (link_in rows) place day walk) empty in
    sorted_gathering live (train_in rows) (link_in rows) (trains_tell live rows are) (links_tell live rows are) place day walk walks good lines
    (subst (λ out. IsPermutation out lines) made_is same) sorted

-- a walk over the associations at a place, followed by a walk over the schedules that call there,
-- appends all docker lines of the place to a list
pub both_gathered : (live : Table) (place : List ℕ) (day : ℕ) (linked calling : List Row) (before between after : List DockerLine)
    → AreLinked live place linked → AreCalling live place calling
    → Adds live (λ trains links. gathered trains links place day linked) before between → Adds live
    (λ trains links. gathered trains links place day calling) between after
    → HasGathered live place day before after
both_gathered live place day linked calling before between after are_linked are_calling first second = (
  linked ++ calling,
  indexed_walk _ _ _ _ are_linked are_calling,
  λ rows are. all (train_in rows) (link_in rows) (first rows are) (second rows are),
)
  where
    all : (trains : List ℕ → ℕ → Option Train) (links : Group → ℕ → Option Link) → between ≡ before ++ gathered trains links place day linked
        → after ≡ between ++ gathered trains links place day calling → after ≡ before ++ gathered trains links place day (linked ++ calling)
    all = search (rules, append_assoc, flat_map-append)

-- the docker that the code makes from the sorted lines is the docker of the definitions
pub docker_made : (live : Table) (place : List ℕ) (day : ℕ) (rows : List Row) (none made lines : List DockerLine) (description : List ℕ) (docker : Docker)
    → docker ≡ record { place = place; day = day; description = description; lines = lines } → description ≡ description_in (live (tiploc_key place))
    → HasGoodBodies live → AreRowsOf live rows → none ≡ [] → HasGathered live place day none made
    → IsPermutation made lines → IsSorted docker_line_cmp lines → IsDockerOf live place day docker
docker_made live place day rows none made lines description docker is described good are empty (walk, walks, adds) same sorted = record {
  place_is = ap (λ (d : Docker). d.place) is;
  day_is = ap (λ (d : Docker). d.day) is;
  described = ap (λ (d : Docker). d.description) is ∙ described;
  list = subst (IsDockerList live place day) (sym (ap (λ (d : Docker). d.lines) is)) (docker_of_walk _ _ _ _ _ _ _ _ good are walks empty adds same sorted);
}
