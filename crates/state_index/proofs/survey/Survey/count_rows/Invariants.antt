use Rattle.cif_laws.proofs.Common.{length, map}
use Rattle.state_index.specs.NamedPlaces.{call_places, link_places}
use Rattle.docker_join.specs.Meaning.{row_meant}
use Rattle.state_index.specs.declared.survey.Survey.{Survey}
use Rattle.state_index.specs.Rooms.{Includes, HasGrownBy, items_of, places_in}
use Rattle.state_index.proofs.survey.Survey.count_rows.Given as goal

abbrev pub invariant-loop-row : goal.invariant-loop-row
invariant-loop-row l = record {
  calls : Includes (places_in call_places (items_of (map row_meant l.rest))) l.self.names.items;
  links : Includes (places_in link_places (items_of (map row_meant l.rest))) l.self.names.items;
  grown : (new : Survey) → HasGrownBy (items_of (map row_meant l.rest)) l.self new → HasGrownBy (items_of (map row_meant l.rows)) l.fn.self new;
}

abbrev pub decreases-loop-row : goal.decreases-loop-row
decreases-loop-row l = length l.rest
