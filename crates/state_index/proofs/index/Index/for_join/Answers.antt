use Rattle.cif_laws.proofs.Common.{◌++◌, ◌∙◌, map, refl, subst, sym}
use Rattle.state_index.specs.NamedPlaces.{call_places, link_places}
use Rattle.docker_join.specs.Meaning.{row_meant}
use Rattle.state_index.specs.Rooms.{Includes, items_of, places_in}
use Rattle.state_index.proofs.PostingSpots.{names_listed}
use Rattle.state_index.proofs.Surveyed.{grown_then}
use Rattle.state_index.proofs.index.Index.for_join.Goals as goal

pub count_rows-requires-clause-calls : goal.count_rows-requires-clause-calls
count_rows-requires-clause-calls c =
    subst (Includes (places_in call_places (items_of (map row_meant c.args.rows.now)))) (sym (c.in_ok-survey.ensures ∙ c.as_slice.ensures.value))
    (names_listed call_places (map row_meant c.args.rows.now) c.args.self.now.places.items c.args.self.now.calls.items c.requires.calls)

pub count_rows-requires-clause-links : goal.count_rows-requires-clause-links
count_rows-requires-clause-links c =
    subst (Includes (places_in link_places (items_of (map row_meant c.args.rows.now)))) (sym (c.in_ok-survey.ensures ∙ c.as_slice.ensures.value))
    (names_listed link_places (map row_meant c.args.rows.now) c.args.self.now.places.items c.args.self.now.links.items c.requires.links)

pub returns : goal.returns
returns c = c.of_survey.ensures (items_of (map row_meant c.args.rows.now) ++ items_of (map row_meant c.args.others.now)) c.in_ok-survey.survey
    (grown_then _ _ _ _ _ (c.in_ok-count_rows.ensures refl) (c.in_ok-survey_rows.ensures refl))
